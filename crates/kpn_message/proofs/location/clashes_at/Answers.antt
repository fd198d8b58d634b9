-- Found without an answer too, after a longer search.
use Rattle.std.proofs.Common.{arith}
use Rattle.std.proofs.lemmas.Option.{gets}
use Rattle.kpn_message.proofs.location.clashes_at.Goals as goal

pub returns-in-Some : goal.returns-in-Some
returns-in-Some g c = grind (arith, gets)

pub returns-in-None : goal.returns-in-None
returns-in-None g c = grind (arith, gets)
