-- Found without an answer too, after a longer search.
use Rattle.std.proofs.lemmas.Grind.{common_steps}
use Rattle.std.proofs.Common.{arith}
use denote.Param.Send.{sendable}
use Rattle.kpn_machine.proofs.machine.take_out.Goals as goal

pub new-requires : goal.new-requires
new-requires g c = (search sendable, (search sendable, (search sendable, grind (arith, common_steps))))

pub returns-clause-card : goal.returns-clause-card
returns-clause-card g c = grind (arith, common_steps)

pub unreachable-requires-in_default-take : goal.unreachable-requires-in_default-take
unreachable-requires-in_default-take g c = grind (arith, common_steps)
