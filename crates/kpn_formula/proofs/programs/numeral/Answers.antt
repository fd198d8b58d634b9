use Rattle.std.proofs.Common.{◌≢◌, ◌∙◌, ℕ, arith, get_or, sym, Ok, Err}
use Rattle.std.proofs.lemmas.Bool.{false≢true}
use Rattle.std.proofs.lemmas.Str.Pattern.{starts_char}
use Rattle.kpn_formula.proofs.Names.{other_first, parsed_numeral}
use Rattle.kpn_formula.proofs.programs.numeral.Goals as goal
use Rattle.kpn_formula.proofs.programs.numeral.Goals.{After-parse}

pub returns-then-starts_with : goal.returns-then-starts_with
returns-then-starts_with c = λ n some small.
    let first = (starts_char 48 c.args.digits.now c.starts_with.result c.starts_with.ensures.cases (omega arith) (omega arith)).0 c.if-starts_with.true in other_first c.args.digits.now 48 n first (omega arith) some small

pub returns-then-starts_with-2 : goal.returns-then-starts_with-2
returns-then-starts_with-2 c = λ n some small.
    let first = (starts_char 43 c.args.digits.now c.starts_with-2.result c.starts_with-2.ensures.cases (omega arith) (omega arith)).0 c.if-starts_with-2.true in other_first c.args.digits.now 43 n first (omega arith) some small

no_zero : (c : After-parse) → get_or c.args.digits.now 0 0 ≢ 48
no_zero c = λ first. let found = (starts_char 48 c.args.digits.now c.starts_with.result c.starts_with.ensures.cases (omega arith) (omega arith)).1 first in false≢true (sym c.if-starts_with.false ∙ found)

no_plus : (c : After-parse) → get_or c.args.digits.now 0 0 ≢ 43
no_plus c = λ first. let found = (starts_char 43 c.args.digits.now c.starts_with-2.result c.starts_with-2.ensures.cases (omega arith) (omega arith)).1 first in false≢true (sym c.if-starts_with-2.false ∙ found)

pub returns-in-Ok : goal.returns-in-Ok
returns-in-Ok c =
    parsed_numeral {E = ℕ} c.args.digits.now (Ok c.in-Ok.number) c.in-Ok.ensures.value.0 (no_zero (goal.at.returns-in-Ok c).After-parse) (no_plus (goal.at.returns-in-Ok c).After-parse)

pub returns-in-Err : goal.returns-in-Err
returns-in-Err c =
    parsed_numeral c.args.digits.now (Err c.in-Err.field-0) c.in-Err.ensures.value.0 (no_zero (goal.at.returns-in-Err c).After-parse) (no_plus (goal.at.returns-in-Err c).After-parse)
