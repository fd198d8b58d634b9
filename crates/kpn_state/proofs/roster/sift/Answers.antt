-- What is left of the queue, and what has been put back.
use Rattle.std.proofs.Common.{◌≡◌, ◌<◌, ◌≤◌, ◌+◌, ◌++◌, ◌∷◌, [], append_assoc, sym, ◌∙◌, ap, arith, length, length-append, drop, take, get_or, slice_get}
use Rattle.std.proofs.lemmas.Option.{same_Some}
use Rattle.kpn_state.specs.Rosters.{without}
use Rattle.kpn_state.proofs.Withdrawn.{first_left, rest_left, back_other, back_same, few_left, all_kept}
use Rattle.kpn_state.proofs.roster.sift.Goals as goal
use Rattle.kpn_state.proofs.roster.sift.Goals.{then-first-process, else-first-process}

pub loop-seen-preserved : goal.loop-seen-preserved
loop-seen-preserved c =
    let i = c.loop-seen.invariant in
    let old = c.args.queue.now.items in
    let seen = c.loop-seen._seen in
    let p = c.args.process in
    let kept = without p (take seen old) in
    let within : seen < length old = omega (arith, c.loop-seen-test.true, c.len-seen-end.ensures.len) in
    let few = few_left old p seen within in
    let rest : c.pop_front.new.self.items ≡ drop (seen + 1) old ++ kept = rw c.pop_front.ensures.items (ap (drop 1) i.items ∙ rest_left old kept seen within) in
    let room : c.pop_front.new.self.capacity ≡ c.args.queue.now.capacity = rw c.pop_front.ensures.items i.room in
    let first : get_or old seen 0 ≡ c.in-Some.first =
    same_Some _ _ (sym (first_left old kept seen within) ∙ ap (λ l. slice_get l 0) (sym i.items) ∙ sym c.pop_front.ensures.value ∙ c.in-Some.is) in
    elim c.if-first-process.branch [
      | then-first-process w ↦
          let x = c.in-Some.first in
          let after = c.pop_front.new.self.items ++ x ∷ [] in
          let long = length-append c.pop_front.new.self.items (x ∷ []) in
          let fits : length after ≤ c.pop_front.new.self.capacity = omega (arith, long, ap length rest, few, room, c.len-seen-end.ensures.within.0, c.len-seen-end.ensures.len) in
          record {
            items = rw (w.queue-is, w.push_back.ensures.items) (all_kept after c.pop_front.new.self.capacity fits ∙ ap (λ l. l ++ x ∷ []) rest ∙ append_assoc (drop (seen + 1) old) kept (x ∷ []) ∙ ap (λ l. drop (seen + 1) old ++ l) (sym (back_other old p x seen within first w.if-first-process.true)));
            room = rw (w.queue-is, w.push_back.ensures.items) room;
          }
      | else-first-process w ↦
          record {
            items = rw w.queue-is (rest ∙ ap (λ l. drop (seen + 1) old ++ l) (sym (back_same old p c.in-Some.first seen within first w.if-first-process.false)));
            room = rw w.queue-is room;
          }
    ]
