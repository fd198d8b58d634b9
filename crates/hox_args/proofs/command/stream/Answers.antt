-- Each step adds its argument.
use Rattle.hox_args.proofs.command.stream.Goals as goal

pub returns : goal.returns
returns c =
    let files = c.with_arg-stream-2.ensures _ _ (c.with_arg-stream.ensures _ _ c.bare.ensures c.list.ensures.0) c.out.ensures.0 in
    let named = c.with_arg-stream-3.ensures _ _ files c.format.ensures.0 in
    let shown = c.with_arg-stream-5.ensures _ _ (c.with_arg-stream-4.ensures _ _ named c.unsigned.ensures.0) c.flag.ensures.0 in
    c.with_arg.ensures _ _ (c.with_arg-stream-7.ensures _ _ (c.with_arg-stream-6.ensures _ _ shown c.flag-2.ensures.0) c.quiet.ensures.0) c.file.ensures.0
