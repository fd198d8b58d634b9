-- The channels of the ends are named by these texts.
use Rattle.std.proofs.Common.{◌≡◌, ap, ◌∙◌}
use Rattle.hox_files.specs.Pairs.{channels_of}
use Rattle.hox_execute.proofs.streaming.open_described.Goals as goal

pub returns-in-Ok-clause-ok : goal.returns-in-Ok-clause-ok
returns-in-Ok-clause-ok g c =
    let fed : c.as_slice-2.result.now ≡ channels_of c.args.ends.now.inputs.items = c.as_slice-2.ensures.value ∙ c.in-Ok-Ok.ensures in
    let drained : c.as_slice-3.result.now ≡ channels_of c.args.ends.now.outputs.items = c.as_slice-3.ensures.value ∙ c.in-Ok-Ok.ensures' ∙ ap channels_of c.as_slice.ensures.value in
    rw (fed, drained) at c.in-Ok.ensures.ok

pub returns-in-Err-clause-fault : goal.returns-in-Err-clause-fault
returns-in-Err-clause-fault g c =
    let fed : c.as_slice-2.result.now ≡ channels_of c.args.ends.now.inputs.items = c.as_slice-2.ensures.value ∙ c.in-Ok-Ok.ensures in
    let drained : c.as_slice-3.result.now ≡ channels_of c.args.ends.now.outputs.items = c.as_slice-3.ensures.value ∙ c.in-Ok-Ok.ensures' ∙ ap channels_of c.as_slice.ensures.value in
    rw (fed, drained) at c.in-Err.ensures.fault
