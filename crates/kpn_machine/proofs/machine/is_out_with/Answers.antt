-- Found without an answer too, after a longer search.
use Rattle.std.proofs.lemmas.Grind.{common_steps}
use Rattle.std.proofs.Common.{arith}
use denote.Param.Send.{sendable}
use Rattle.kpn_machine.proofs.machine.is_out_with.Goals as goal

pub returns-in-Ready : goal.returns-in-Ready
returns-in-Ready g c = grind (arith, common_steps)

pub returns-then-held-standings : goal.returns-then-held-standings
returns-then-held-standings g c = grind (arith, common_steps)

pub returns : goal.returns
returns g c = grind (arith, common_steps)

pub card-requires : goal.card-requires
card-requires g c = (search sendable, (search sendable, grind arith))
