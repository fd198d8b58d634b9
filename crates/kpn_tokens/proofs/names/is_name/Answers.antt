use Rattle.std.proofs.Common.{◌≡◌, ◌∙◌, refl, ap}
use Rattle.std.specs.Prelude.{bytes_eq}
use Rattle.std.specs.Str.{trim}
use Rattle.std.proofs.lemmas.Str.{is_utf8-from_IsUtf8}
use Rattle.kpn_tokens.proofs.Lines.{no_text}
use Rattle.kpn_tokens.proofs.names.is_name.Goals as goal

pub returns-in-Ok : goal.returns-in-Ok
returns-in-Ok c =
    let text : c.in-Ok.text.now ≡ c.args.field.now = c.in-Ok.ensures.cases.0 in
    let is : c.trim.result.now ≡ trim c.args.field.now = c.trim.ensures.trim ∙ ap trim text in
    let same : c.eq.result ≡ bytes_eq (trim c.args.field.now) c.args.name.now = rw is at c.eq.ensures in
    rw (is_utf8-from_IsUtf8 c.args.field.now c.in-Ok.ensures.cases.1) same

pub returns-in-Err : goal.returns-in-Err
returns-in-Err c = rw (no_text c.args.field.now c.in-Err.ensures.cases.0) refl
