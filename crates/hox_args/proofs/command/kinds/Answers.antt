-- Each step adds its argument.
use Rattle.hox_args.proofs.command.kinds.Goals as goal

pub returns : goal.returns
returns c = c.with_arg.ensures _ _ c.bare.ensures c.positional.ensures.0
