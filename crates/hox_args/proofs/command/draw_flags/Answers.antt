-- Each step adds its argument.
use Rattle.hox_args.proofs.command.draw_flags.Goals as goal

pub returns : goal.returns
returns c = c.with_arg.ensures _ _ (c.with_arg-draw.ensures _ _ c.bare.ensures c.flag.ensures.0) c.flag-2.ensures.0
