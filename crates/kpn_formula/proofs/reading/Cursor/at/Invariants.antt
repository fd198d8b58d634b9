use Rattle.kpn_formula.specs.Reading.{HoldsFrom}
use Rattle.kpn_formula.proofs.reading.Cursor.at.Given as goal

abbrev pub invariant-loop : goal.invariant-loop
invariant-loop l = HoldsFrom l.card l.counter l.cursor
