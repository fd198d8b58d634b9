-- Found without an answer too; with it a wrong body is refused at once.
use Rattle.std.proofs.Common.{rules, arith}
use Rattle.std.proofs.lemmas.Grind.{common_steps}
use Rattle.kpn_signals.proofs.signal.Signal.called.Goals as goal

pub returns-in-mul : goal.returns-in-mul
returns-in-mul c = search rules

pub returns-in-noise : goal.returns-in-noise
returns-in-noise c = grind (arith, common_steps)

pub returns-in-edge : goal.returns-in-edge
returns-in-edge c = grind (arith, common_steps)

pub returns-in-counter : goal.returns-in-counter
returns-in-counter c = grind (arith, common_steps)

pub returns-in-average : goal.returns-in-average
returns-in-average c = grind (arith, common_steps)

pub returns-in-difference : goal.returns-in-difference
returns-in-difference c = grind (arith, common_steps)

pub returns-in-sum : goal.returns-in-sum
returns-in-sum c = grind (arith, common_steps)

pub returns-in-mod : goal.returns-in-mod
returns-in-mod c = grind (arith, common_steps)
