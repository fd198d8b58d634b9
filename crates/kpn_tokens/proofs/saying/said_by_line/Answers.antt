use Rattle.std.proofs.Common.{◌≡◌, ◌∙◌, length, rules, sym, ap}
use Rattle.kpn_tokens.specs.Numbers.{token_said}
use Rattle.kpn_tokens.specs.Records.{cell}
use Rattle.kpn_tokens.proofs.Lines.{empty_cell, filled_cell, line_of_no_text, line_of_text}
use Rattle.kpn_tokens.proofs.saying.said_by_line.Goals as goal

pub returns-in_default : goal.returns-in_default
returns-in_default c = sym (line_of_no_text c.args.decimals c.args.sort c.args.line.now c.in_default.ensures.cases.0)

pub returns-then-is_empty : goal.returns-then-is_empty
returns-then-is_empty c =
    let text : c.in-Ok.text.now ≡ c.args.line.now = c.in-Ok.ensures.cases.0 in
    let is : c.cell_of-cell.result.now ≡ cell c.args.line.now = c.cell_of-cell.ensures ∙ ap cell text in
    let empty : length c.cell_of-cell.result.now ≡ 0 = search rules in
    sym (line_of_text c.args.decimals c.args.sort c.args.line.now c.in-Ok.ensures.cases.1 ∙ empty_cell c.args.decimals c.args.sort (cell c.args.line.now) (ap length (sym is) ∙ empty))

pub returns : goal.returns
returns c =
    let text : c.in-Ok.text.now ≡ c.args.line.now = c.in-Ok.ensures.cases.0 in
    let is : c.cell_of-cell.result.now ≡ cell c.args.line.now = c.cell_of-cell.ensures ∙ ap cell text in
    let filled : length c.cell_of-cell.result.now ≡ 0 → ⊥ = search rules in
    let said : c.token_in.result ≡ token_said c.args.decimals c.args.sort (cell c.args.line.now) = c.token_in.ensures ∙ ap (λ t. token_said c.args.decimals c.args.sort t) is in
    said ∙ sym (line_of_text c.args.decimals c.args.sort c.args.line.now c.in-Ok.ensures.cases.1 ∙ filled_cell c.args.decimals c.args.sort (cell c.args.line.now) (λ e. filled (ap length is ∙ e)))
