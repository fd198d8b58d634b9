-- Found without an answer too; with it a wrong body is refused at once.
use Rattle.std.proofs.Common.{rules}
use Rattle.kpn_message.proofs.location.locate.Goals as goal

pub returns-in-Some-first_channel : goal.returns-in-Some-first_channel
returns-in-Some-first_channel g c = search rules

pub returns-in-Some : goal.returns-in-Some
returns-in-Some g c = search rules
