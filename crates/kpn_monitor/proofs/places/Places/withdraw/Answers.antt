-- The last of the tasks that went out again comes back.
use Rattle.std.proofs.lemmas.Grind.{common_steps}
use Rattle.std.proofs.Common.{◌≡◌, ◌∙◌, ◌+◌, ◌-◌, sym, arith, get_or, Some}
use Rattle.std.proofs.lemmas.List.{take-set-le}
use Rattle.kpn_monitor.proofs.Placing.{last_taken, last_task, withdraw_laid, none_when, some_when}
use Rattle.kpn_monitor.proofs.places.Places.withdraw.Goals as goal

pub invariant_of-self : goal.invariant_of-self
invariant_of-self g c =
    let one : c.self.inside.kept - 1 + 1 ≡ c.self.inside.kept = omega (arith, c.if-self-eq0.false) in
    (rw c.take.ensures.after (withdraw_laid c.self.invariant.0 (c.self.inside.kept - 1) one), c.self.invariant.1, c.self.invariant.2, c.self.invariant.3)

pub returns-clause-none : goal.returns-clause-none
returns-clause-none g c =
    let one : c.self.inside.kept - 1 + 1 ≡ c.self.inside.kept = omega (arith, c.if-self-eq0.false) in
    none_when c.take.result _ (λ none. absurd (last_taken c.self.invariant.0 (c.self.inside.kept - 1) c.index_mut.result.now one (sym c.index_mut.ensures.value ∙ sym c.take.ensures.value ∙ none)))

pub returns-clause-last : goal.returns-clause-last
returns-clause-last g c =
    let k = c.self.inside.kept - 1 in
    let one : k + 1 ≡ c.self.inside.kept = omega (arith, c.if-self-eq0.false) in
    some_when c.take.result _ (λ i is.
    let at : get_or c.self.inside.places.items k c.index_mut.result.now ≡ Some i = sym c.index_mut.ensures.value ∙ sym c.take.ensures.value ∙ is in
    rw (← c.self.view_is, take-set-le k c.self.inside.places.items k c.take.new.self (omega arith)) (last_task c.self.invariant.0 k c.index_mut.result.now i one at))

pub returns-clause-some : goal.returns-clause-some
returns-clause-some g c = grind (arith, common_steps)
