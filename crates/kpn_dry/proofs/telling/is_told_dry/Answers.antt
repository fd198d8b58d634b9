-- One wait more; and where the walk ends.
use Rattle.std.proofs.Common.{◌∙◌, sym, arith}
use Rattle.kpn_dry.proofs.Walk.{next_wait, no_wait}
use Rattle.kpn_dry.proofs.telling.is_told_dry.Goals as goal

pub loop-wait-preserved : goal.loop-wait-preserved
loop-wait-preserved g c =
    next_wait c.args.net.now c.args.standings.now _ _ c.loop-wait.at c.in-Some.writer (omega arith) (sym c.awaited.ensures ∙ c.in-Some.is) ∙ c.loop-wait.invariant

pub returns-in-None : goal.returns-in-None
returns-in-None g c = c.has_stopped.ensures ∙ no_wait c.args.net.now c.args.standings.now _ c.loop-wait.at (sym c.awaited.ensures ∙ c.in-None.is) ∙ c.loop-wait.invariant
