-- Each step adds its argument.
use Rattle.hox_args.proofs.command.check.Goals as goal

pub returns : goal.returns
returns c =
    let files = c.with_arg-check-2.ensures _ _ (c.with_arg-check.ensures _ _ c.on_files.ensures c.tokens.ensures.0) c.format.ensures.0 in
    c.with_arg.ensures _ _ (c.with_arg-check-3.ensures _ _ files c.flag.ensures.0) c.file.ensures.0
