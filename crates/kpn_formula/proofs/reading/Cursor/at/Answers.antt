use Rattle.std.proofs.Common.{sym, ◌+◌, subst}
use Rattle.kpn_formula.specs.Reading.{HoldsFrom}
use Rattle.kpn_formula.proofs.Held.{moved_one}
use Rattle.kpn_formula.proofs.reading.Cursor.at.Goals as goal

pub loop-preserved : goal.loop-preserved
loop-preserved c = subst (λ n. HoldsFrom c.args.card.now (c.loop.counter + 1) n) (sym c.pass.ensures) (moved_one c.args.card.now c.loop.counter c.loop.cursor c.loop.invariant)
