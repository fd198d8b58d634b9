use Rattle.std.proofs.Common.{◌≡◌, None, rules, sym}
use Rattle.hox_format.specs.Saying.{form_named}
use Rattle.hox_format.proofs.Pieces.{unnamed}
use Rattle.hox_format.proofs.parsing.format_of.Goals as goal

pub returns-in_default : goal.returns-in_default
returns-in_default c =
    let none : form_named c.first_piece.result.0.now ≡ None = search rules in
    sym (unnamed c.args.text.now c.first_piece.result.0.now _ c.first_piece.ensures.pieces none)
