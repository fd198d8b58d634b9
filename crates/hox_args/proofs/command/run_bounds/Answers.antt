-- Each step adds its argument.
use Rattle.hox_args.proofs.command.run_bounds.Goals as goal

pub returns : goal.returns
returns c = c.with_arg.ensures _ _ (c.with_arg-run.ensures _ _ c.run_streams.ensures c.budget.ensures.0) c.workers.ensures.0
