-- Each step adds its argument.
use Rattle.hox_args.proofs.command.draw.Goals as goal

pub returns : goal.returns
returns c =
    let read = c.with_arg-draw-2.ensures _ _ (c.with_arg-draw.ensures _ _ c.draw_flags.ensures c.workers.ensures.0) c.tokens.ensures.0 in
    c.with_arg.ensures _ _ (c.with_arg-draw-3.ensures _ _ read c.format.ensures.0) c.file.ensures.0
