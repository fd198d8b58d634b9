use Rattle.std.proofs.Common.{◌∙◌, true, [], sym}
use Rattle.hox_formula.specs.Parsing.{naming}
use Rattle.hox_formula.proofs.Collected.{no_lines, lines_read, empty_list, no_words, no_flags}
use Rattle.hox_formula.proofs.reading.+read_lines.Goals as goal

pub returns-then-is_empty : goal.returns-then-is_empty
returns-then-is_empty t c =
    no_lines (naming c.args.parser.now.names.now) c.args.symbols.now _ (empty_list c.args.symbols.now (sym c.is_empty.ensures ∙ c.if-is_empty.true))
    c.new.ensures.items c.new-then-is_empty.ensures.items (λ k small. no_words k) (λ k small. no_flags k)

pub returns : goal.returns
returns t c =
    lines_read (naming c.args.parser.now.names.now) c.args.symbols.now c.in_ok-line.rest.now c.in_ok-rest.rest.now c.in_ok-line.line c.in_ok-others.others c.in_ok-with_line.field-0
    c.in_ok-line.ensures c.in_ok-rest.ensures c.in_ok-others.ensures
    c.in_ok-with_line.ensures.0 c.in_ok-with_line.ensures.1 c.in_ok-with_line.ensures.2 c.in_ok-with_line.ensures.3
