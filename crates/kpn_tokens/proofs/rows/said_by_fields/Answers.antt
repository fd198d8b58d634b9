use Rattle.std.proofs.Common.{◌≡◌, ◌∙◌, length, rules, sym, ap}
use Rattle.std.specs.Str.{trim}
use Rattle.kpn_tokens.specs.Numbers.{token_said}
use Rattle.kpn_tokens.specs.Rows.{field_said}
use Rattle.kpn_tokens.proofs.Fields.{empty_field, field_of_no_text, field_of_text, filled_field}
use Rattle.kpn_tokens.proofs.rows.said_by_fields.Goals as goal

pub returns-in_default-from_utf8 : goal.returns-in_default-from_utf8
returns-in_default-from_utf8 c =
    sym (field_of_no_text c.args.column.decimals c.args.sort c.in-Some.field.now c.in_default-from_utf8.ensures.cases.0) ∙ ap (field_said c.args.column.decimals c.args.sort) c.in-Some.ensures.value

pub returns-then-is_empty : goal.returns-then-is_empty
returns-then-is_empty c =
    let decimals = c.args.column.decimals in
    let field = c.in-Some.field.now in
    let text : c.in-Ok.text.now ≡ field = c.in-Ok.ensures.cases.0 in
    let is : c.trim-text.result.now ≡ trim field = c.trim-text.ensures.trim ∙ ap trim text in
    let empty : length c.trim-text.result.now ≡ 0 = search rules in
    sym (field_of_text decimals c.args.sort field c.in-Ok.ensures.cases.1 ∙ empty_field decimals c.args.sort (trim field) (ap length (sym is) ∙ empty)) ∙ ap (field_said decimals c.args.sort) c.in-Some.ensures.value

pub returns : goal.returns
returns c =
    let decimals = c.args.column.decimals in
    let field = c.in-Some.field.now in
    let text : c.in-Ok.text.now ≡ field = c.in-Ok.ensures.cases.0 in
    let is : c.trim-text.result.now ≡ trim field = c.trim-text.ensures.trim ∙ ap trim text in
    let filled : length c.trim-text.result.now ≡ 0 → ⊥ = search rules in
    let said : c.token_in.result ≡ token_said decimals c.args.sort (trim field) = c.token_in.ensures ∙ ap (λ t. token_said decimals c.args.sort t) is in
    said ∙ sym (field_of_text decimals c.args.sort field c.in-Ok.ensures.cases.1 ∙ filled_field decimals c.args.sort (trim field) (λ e. filled (ap length is ∙ e))) ∙ ap (field_said decimals c.args.sort) c.in-Some.ensures.value
