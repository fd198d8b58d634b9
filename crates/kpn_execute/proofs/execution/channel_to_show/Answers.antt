-- Found without an answer too; with it a wrong body is refused at once.
use Rattle.std.proofs.Common.{rules}
use Rattle.kpn_execute.proofs.execution.channel_to_show.Goals as goal

pub returns-in-Some-find_channel-clause-unknown : goal.returns-in-Some-find_channel-clause-unknown
returns-in-Some-find_channel-clause-unknown g c = search rules

pub returns-in-Some-find_channel-clause-channel : goal.returns-in-Some-find_channel-clause-channel
returns-in-Some-find_channel-clause-channel g c = search rules
