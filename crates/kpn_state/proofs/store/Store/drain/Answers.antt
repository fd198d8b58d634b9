-- Found without an answer too; with it a wrong body is refused at once.
use Rattle.std.proofs.Common.{arith}
use Rattle.std.proofs.lemmas.Grind.{common_steps}
use Rattle.kpn_state.proofs.store.Store.drain.Goals as goal

pub take-requires : goal.take-requires
take-requires c = grind (arith, common_steps)

pub returns : goal.returns
returns c = grind (arith, common_steps)
