use Rattle.std.proofs.Common.{◌∙◌, [], sym}
use Rattle.hox_formula.specs.Lexing.{texts}
use Rattle.hox_formula.proofs.Lexed.{all_read, empty_bytes}
use Rattle.hox_formula.proofs.lexing.lex.Goals as goal

pub returns : goal.returns
returns c =
    all_read (texts c.loop-rest.names.items) c.args.text.now c.loop-rest.rest.now c.loop-rest.symbols.items c.loop-rest.invariant
    (empty_bytes c.loop-rest.rest.now (sym c.is_empty.ensures ∙ c.loop-rest-test.false))
