use Rattle.std.proofs.Common.{◌≡◌, false, take}
use Rattle.std.specs.List.{list_any}
use Rattle.hox_run.specs.Notes.{is_put_on}
use Rattle.hox_run.proofs.notes.has_put.Given as goal

abbrev pub invariant-loop-k : goal.invariant-loop-k
invariant-loop-k g l = list_any (is_put_on l.c) (take l.k (g.E.Entries.entries l.history)) ≡ false
