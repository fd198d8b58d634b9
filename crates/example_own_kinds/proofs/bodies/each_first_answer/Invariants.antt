use Rattle.std.proofs.Common.{◌≡◌, map, None}
use Rattle.example_own_kinds.proofs.bodies.each_first_answer.Given as goal

abbrev pub invariant-loop-body : goal.invariant-loop-body
invariant-loop-body g l = l.answers.items ≡ map (λ b. g.B.Kinds.Kinds.answer_of (g.B.Body.card b) (g.B.Kinds.Kinds.start (g.B.Body.card b)) None) l.yielded
