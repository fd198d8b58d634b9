-- Found without an answer too, after a longer search.
use Rattle.std.proofs.Common.{arith}
use Rattle.std.proofs.lemmas.Option.{gets}
use Rattle.kpn_message.proofs.location.is_process_misnamed.Goals as goal

pub returns-in-None : goal.returns-in-None
returns-in-None c = grind (arith, gets)
