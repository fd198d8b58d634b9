use Rattle.std.proofs.Common.{◌≡◌, ◌≤◌, ◌-◌}
use Rattle.kpn_formula.specs.Cards.{after_end}
use Rattle.kpn_formula.specs.Reading.{program_at}
use Rattle.kpn_formula.proofs.running.opening_start.Given as goal

-- the first End is still to come
abbrev pub invariant-loop-code : goal.invariant-loop-code
invariant-loop-code l = (after_end (program_at l.card l.place) ≡ after_end (program_at l.card 0)) × (l.place ≤ 40)

abbrev pub decreases-loop-code : goal.decreases-loop-code
decreases-loop-code l = 40 - l.place
