-- Found without an answer too, after a longer search.
use Rattle.std.proofs.Common.{arith}
use Rattle.std.proofs.lemmas.Option.{gets}
use Rattle.kpn_message.proofs.location.process_has_fault.Goals as goal

pub returns-in_default : goal.returns-in_default
returns-in_default g c = grind (arith, gets)

pub returns-in-Kind : goal.returns-in-Kind
returns-in-Kind g c = grind (arith, gets)

pub returns-in-Args : goal.returns-in-Args
returns-in-Args g c = grind (arith, gets)

pub returns-in-Unused : goal.returns-in-Unused
returns-in-Unused g c = grind (arith, gets)
