-- A task that stays is the last of those that went out again.
use Rattle.std.specs.Prelude.{slice_get}
use Rattle.kpn_body.specs.Input.{Input}
use Rattle.std.proofs.lemmas.Grind.{common_steps}
use Rattle.std.proofs.Common.{◌≡◌, ◌<◌, ◌∙◌, ◌+◌, ◌-◌, ◌++◌, ◌∷◌, [], length, length-set, refl, sym, ap, arith, get_or, take, drop, Some, List}
use Rattle.kpn_monitor.specs.Places.{tasks_in}
use Rattle.kpn_monitor.proofs.Placing.{first_task, stay_laid, moved_first, moved_rest, tasks_append}
use Rattle.kpn_monitor.proofs.places.Places.stay.Goals as goal

pub invariant_of-self-2 : goal.invariant_of-self-2
invariant_of-self-2 g c =
    let h = c.self.invariant.0 in
    let kept = c.self.inside.kept in
    let given = c.self.inside.given in
    let places = c.self.inside.places.items in
    let called : 0 < length c.self.inside.answers.items - given = rw (← c.self.view_is) at c.requires.called in
    let within = h.within in
    let at : get_or places given c.index_mut.result.now ≡ Some c.in-Some.task = sym c.index_mut.ensures.value ∙ c.in-Some.is in
    let first = moved_first places c.move_up.new.places.items given kept c.commit_on.new.task h.in_order (omega arith) c.move_up.ensures.first in
    let rest = moved_rest places c.move_up.new.places.items given kept c.commit_on.new.task h.in_order (omega arith) c.move_up.ensures.rest in (
      stay_laid h c.in-Some.task c.commit_on.new.task c.index_mut.result.now c.move_up.new.places.items (omega arith) at first rest (c.move_up.ensures.len ∙ length-set places given (Some c.commit_on.new.task)),
      omega (arith, c.move_up.ensures.capacity, c.self.invariant.1),
      c.self.invariant.2,
      omega (arith, c.push_reserved.ensures.capacity, c.self.invariant.3),
    )

pub returns-clause-stays : goal.returns-clause-stays
returns-clause-stays g c = λ yes.
    let h = c.self.invariant.0 in
    let kept = c.self.inside.kept in
    let given = c.self.inside.given in
    let places = c.self.inside.places.items in
    let called : 0 < length c.self.inside.answers.items - given = rw (← c.self.view_is) at c.requires.called in
    let within = h.within in
    let at : get_or places given c.index_mut.result.now ≡ Some c.in-Some.task = sym c.index_mut.ensures.value ∙ c.in-Some.is in
    let first = moved_first places c.move_up.new.places.items given kept c.commit_on.new.task h.in_order (omega arith) c.move_up.ensures.first in
    let rest = moved_rest places c.move_up.new.places.items given kept c.commit_on.new.task h.in_order (omega arith) c.move_up.ensures.rest in
    let again : tasks_in (take (kept + 1) c.move_up.new.places.items) ≡ tasks_in (take kept places) ++ c.commit_on.new.task ∷ [] = ap tasks_in first ∙ tasks_append (take kept places) (Some c.commit_on.new.task ∷ []) in (
      c.in-Some.task,
      c.commit_on.new.task,
      c.in-Some-commit_on.outcome,
      tasks_in (drop (given + 1) places),
      (
        rw (← c.self.view_is) (first_task h c.in-Some.task c.index_mut.result.now (omega arith) at),
        rw (← c.self.view_is, again, rest, c.push_reserved.ensures.items) refl,
        rw (← c.self.view_is) (omega arith),
        c.in-Some-commit_on.ensures.goes,
      ),
    )

pub commit_on-requires-clause-out : goal.commit_on-requires-clause-out
commit_on-requires-clause-out g c κs within =
    let h = c.self.invariant.0 in
    let given = c.self.inside.given in
    let places = c.self.inside.places.items in
    let called : 0 < length c.self.inside.answers.items - given = rw (← c.self.view_is) at c.requires.called in
    let at : get_or places given c.index_mut.result.now ≡ Some c.in-Some.task = sym c.index_mut.ensures.value ∙ c.in-Some.is in
    c.requires.out c.in-Some.task (rw (← c.self.view_is) (ap (λ (l : List Input). slice_get l 0) (first_task h c.in-Some.task c.index_mut.result.now (omega arith) at)))

pub invariant_of-self : goal.invariant_of-self
invariant_of-self g c = grind (arith, common_steps)

pub unreachable-requires : goal.unreachable-requires
unreachable-requires g c = grind (arith, common_steps)

pub returns-in_default-commit_on-clause-same : goal.returns-in_default-commit_on-clause-same
returns-in_default-commit_on-clause-same g c = grind (arith, common_steps)

pub commit_on-requires-clause-answer : goal.commit_on-requires-clause-answer
commit_on-requires-clause-answer g c = grind (arith, common_steps)

pub index_mut-requires : goal.index_mut-requires
index_mut-requires g c = grind (arith, common_steps)

pub index-answer-requires : goal.index-answer-requires
index-answer-requires g c = grind (arith, common_steps)

pub returns-clause-same : goal.returns-clause-same
returns-clause-same g c = grind (arith, common_steps)

pub returns-in_default-commit_on-clause-stays : goal.returns-in_default-commit_on-clause-stays
returns-in_default-commit_on-clause-stays g c = grind (arith, common_steps)

pub move_up-requires-clause-within : goal.move_up-requires-clause-within
move_up-requires-clause-within g c = grind (arith, common_steps)
