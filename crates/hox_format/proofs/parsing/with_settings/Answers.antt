use Rattle.std.proofs.Common.{◌≡◌, ◌∙◌, Ok, Err, option_map, rules, sym}
use Rattle.hox_format.specs.Forms.{form}
use Rattle.hox_format.specs.Saying.{later_pieces, pieces, refused, seen, setting_said, settings_said}
use Rattle.hox_format.proofs.Pieces.{refused_at}
use Rattle.hox_format.proofs.parsing.with_settings.Goals as goal

pub returns-in_err-changed : goal.returns-in_err-changed
returns-in_err-changed c =
    let fault = refused c.in_err-changed.field-0.0 in
    let setting = c.first_piece.result.0.now in
    let same : seen c.from_residual.result ≡ Err fault = search rules in
    let here : setting_said (form c.loop-rest.changed) setting ≡ Err fault = search rules in
    let left : settings_said (Ok (form c.args.format)) (later_pieces (option_map (λ t. t.now) c.args.settings)) ≡ settings_said (Ok (form c.loop-rest.changed)) (pieces c.in-Some.text.now) = search rules in
    same ∙ sym (refused_at _ (form c.loop-rest.changed) c.in-Some.text.now setting _ fault left c.first_piece.ensures.pieces here)
