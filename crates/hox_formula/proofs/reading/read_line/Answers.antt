use Rattle.std.proofs.Common.{[], sym}
use Rattle.hox_formula.specs.Parsing.{naming}
use Rattle.hox_formula.proofs.Collected.{line_read}
use Rattle.hox_formula.proofs.reading.read_line.Goals as goal

pub returns : goal.returns
returns c =
    line_read (naming c.args.parser.now.names.now) c.args.symbols.now c.in_ok-head.rest.now c.in_ok-rest.rest.now c.in_ok-fragment.rest.now _
    c.in_ok-head.ensures c.in_ok-rest.ensures (sym c.in-Some.ensures) c.in_ok-fragment.ensures
