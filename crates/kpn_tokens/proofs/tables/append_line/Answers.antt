use Rattle.std.proofs.Common.{◌≡◌, ◌<◌, ◌++◌, ◌∙◌, false, None, append_assoc, get_or, length, take, rules, sym, ap, arith}
use Rattle.std.proofs.lemmas.Grind.{common_steps}
use Rattle.kpn_tokens.specs.declared.layouts.Cell.{Cell}
use Rattle.kpn_tokens.specs.Rows.{cell_text, cells_text, separator_before}
use Rattle.kpn_tokens.proofs.Cells.{cells_more}
use Rattle.kpn_tokens.proofs.tables.append_line.Goals as goal

no_cell : Cell
no_cell = record { decimals = record { digits = 0; is_unsigned = false }; token = None }

pub loop-place-preserved : goal.loop-place-preserved
unfolding no_cell
loop-place-preserved c =
    let cells = c.args.cells.now in
    let place = c.loop-place.place in
    let old = c.args.out.now.items in
    let so_far = cells_text c.args.separator (take place cells) in
    let one = separator_before c.args.separator place ++ cell_text (get_or cells place no_cell) in
    let within : place < length cells = search rules in
    let more = cells_more c.args.separator cells place no_cell within in
    let appended : c.append_cell.new.out.items ≡ c.loop-place.out.items ++ one = c.in_ok-append_cell.ensures in
    let before : c.loop-place.out.items ≡ old ++ so_far = c.loop-place.invariant in
    appended ∙ ap (λ l. l ++ one) before ∙ append_assoc old so_far one ∙ sym (ap (λ l. old ++ l) more)

pub returns : goal.returns
returns c = grind (arith, common_steps)
