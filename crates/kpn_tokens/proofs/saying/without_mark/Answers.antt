use Rattle.std.proofs.Common.{◌≡◌, ◌-◌, ◌∙◌, true, false, drop, length, length-drop, slice_index, arith, sym}
use Rattle.std.proofs.lemmas.List.{take_all}
use Rattle.csv.specs.Reading.{is_bom}
use Rattle.kpn_tokens.proofs.Lines.{mark_is, no_mark}
use Rattle.kpn_tokens.proofs.saying.without_mark.Goals as goal

pub returns-then-is_marked : goal.returns-then-is_marked
returns-then-is_marked c =
    let text = c.args.text.now in
    let marked : is_bom (slice_index text 0) (slice_index text 1) (slice_index text 2) ≡ true = sym c.is_marked.ensures ∙ c.if-is_marked.true in
    take_all (length text - 3) (drop 3 text) (omega (arith, length-drop 3 text)) ∙ sym (mark_is text marked)

pub returns-else-is_marked : goal.returns-else-is_marked
returns-else-is_marked c =
    let text = c.args.text.now in
    let unmarked : is_bom (slice_index text 0) (slice_index text 1) (slice_index text 2) ≡ false = sym c.is_marked.ensures ∙ c.if-is_marked.false in
    sym (no_mark text unmarked)
