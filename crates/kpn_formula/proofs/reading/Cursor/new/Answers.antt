use Rattle.std.proofs.Common.{arith}
use Rattle.kpn_formula.proofs.Held.{starts}
use Rattle.kpn_formula.proofs.reading.Cursor.new.Goals as goal

pub returns : goal.returns
returns c = starts c.args.card.now (omega arith) _ (omega arith)
