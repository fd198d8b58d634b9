use Rattle.std.proofs.Common.{◌≡◌, map, take}
use Rattle.hox_execute.specs.Reports.{file_note}
use Rattle.hox_execute.proofs.texts.file_notes.Given as goal

abbrev pub invariant-loop-file : goal.invariant-loop-file
invariant-loop-file l = l.notes.items ≡ map file_note (take l.file-index l.files)
