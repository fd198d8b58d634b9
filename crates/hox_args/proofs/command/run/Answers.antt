-- Each step adds its argument.
use Rattle.hox_args.proofs.command.run.Goals as goal

pub returns : goal.returns
returns c =
    let shown = c.with_arg-run-2.ensures _ _ (c.with_arg-run.ensures _ _ c.run_bounds.ensures c.flag.ensures.0) c.flag-2.ensures.0 in
    c.with_arg.ensures _ _ (c.with_arg-run-3.ensures _ _ shown c.quiet.ensures.0) c.file.ensures.0
