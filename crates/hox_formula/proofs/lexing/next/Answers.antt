use Rattle.std.proofs.Common.{◌∙◌, [], sym}
use Rattle.hox_formula.specs.Lexing.{texts}
use Rattle.hox_formula.proofs.Lexed.{word_next}
use Rattle.hox_formula.proofs.lexing.next.Goals as goal

pub returns-then-begins_with_word_byte : goal.returns-then-begins_with_word_byte
returns-then-begins_with_word_byte c =
    word_next (texts c.args.names.now.items) (texts c.word_symbol.new.names.items) c.args.bytes.now c.split_word.result.0.now c.split_word.result.1.now c.in_ok-symbol.symbol
    (sym c.begins_with_word_byte.ensures ∙ c.if-begins_with_word_byte.true) c.split_word.ensures.word c.split_word.ensures.behind c.in_ok-symbol.ensures
