-- Each step adds its argument.
use Rattle.hox_args.proofs.command.run_streams.Goals as goal

pub returns : goal.returns
returns c =
    let files = c.with_arg-run-2.ensures _ _ (c.with_arg-run.ensures _ _ c.on_files.ensures c.tokens.ensures.0) c.out.ensures.0 in
    let named = c.with_arg-run-3.ensures _ _ files c.format.ensures.0 in
    c.with_arg.ensures _ _ (c.with_arg-run-4.ensures _ _ named c.list.ensures.0) c.unsigned.ensures.0
