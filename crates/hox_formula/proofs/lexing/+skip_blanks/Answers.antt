use Rattle.std.proofs.Common.{◌∙◌, [], sym}
use Rattle.hox_formula.proofs.Lexed.{blank_skipped}
use Rattle.hox_formula.proofs.lexing.+skip_blanks.Goals as goal

pub returns-in-Some : goal.returns-in-Some
returns-in-Some t c = blank_skipped c.args.bytes.now c.in-Some.rest.now c.skip_blanks.result.now c.in-Some.first c.in-Some.ensures (sym c.is_blank.ensures ∙ c.if-is_blank.true) c.skip_blanks.ensures
