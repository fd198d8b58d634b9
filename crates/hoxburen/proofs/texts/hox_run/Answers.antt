-- What `run` tells of the text goes into the buffer, or what is wrong with it.
use Rattle.std.proofs.Common.{string_bytes, Err, inl, inr}
use Rattle.hox_handle.specs.Checking.{LoadsText}
use Rattle.hox_handle.specs.Running.{RunsTo}
use Rattle.hox_handle.specs.Texts.{IsCopied}
use Rattle.hoxburen.proofs.texts.hox_run.Goals as goal

pub returns-in-Ok : goal.returns-in-Ok
returns-in-Ok c =
    let runs : RunsTo c.args.text.now c.in-Ok.told = rw c.bytes_of-text.ensures at c.in-Ok.ensures in
    let copied : IsCopied (string_bytes c.in-Ok.told.report) c.args.report.now c.copy_out.new.buffer c.copy_out.result = rw c.as_bytes.ensures.value at c.copy_out.ensures in
    inl (c.in-Ok.told, runs, c.end_number.ensures, copied)

pub returns-in-Err : goal.returns-in-Err
returns-in-Err c =
    let loads : LoadsText c.args.text.now (Err c.in-Err.fault) = rw c.bytes_of-text.ensures at c.in-Err.ensures in
    inr (c.in-Err.fault, loads, c.number.ensures, c.say_fault.ensures)
