-- Whether the first record of what is kept is there to its end.
use Rattle.std.proofs.Common.{◌≡◌, ◌-◌, ℕ, List, drop, length, take, sym, ap, ◌∙◌}
use Rattle.kpn_tokens.proofs.Lefts.{all_left}
use Rattle.hox_stream.specs.Cutting.{has_record}
use Rattle.hox_stream.proofs.Reading.{found_more, wants_by_search}
use Rattle.hox_stream.proofs.inlet.Inlet.wants_more.Goals as goal

pub returns-then-not-self : goal.returns-then-not-self
returns-then-not-self g c =
    let slice : List ℕ = take (length c.deref.result.now - c.self.inside.next) (drop c.self.inside.next c.deref.result.now) in
    let kept : slice ≡ drop c.self.inside.next c.self.inside.held.items = all_left c.deref.result.now c.self.inside.next ∙ ap (λ (l : List ℕ). drop c.self.inside.next l) c.deref.ensures.value in
    let found = found_more c.self.inside.layout slice c.record_in.result c.record_in.ensures.cut c.record_in.ensures.unended in
    rw (← c.self.view_is)
    (wants_by_search c.self.inside.is_over (has_record c.self.inside.layout (drop c.self.inside.next c.self.inside.held.items)) c.is_none.result c.if-not-self.true
    (ap (λ (l : List ℕ). has_record c.self.inside.layout l) (sym kept) ∙ sym found ∙ c.is_none.ensures))
