use Rattle.std.proofs.Common.{arith}
use Rattle.kpn_formula.proofs.Laid.{results_are}
use Rattle.kpn_formula.proofs.programs.results.Goals as goal

pub returns : goal.returns
returns c = results_are c.args.counts.states c.args.counts.outputs c.args.values.now c.requires (omega arith) c.lay.new.values c.clear.new.values c.lay.ensures c.clear.ensures
