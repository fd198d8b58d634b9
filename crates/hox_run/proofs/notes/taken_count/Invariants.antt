use Rattle.std.proofs.Common.{◌≡◌, ◌≤◌, take}
use Rattle.std.specs.List.{count_by}
use Rattle.hox_run.specs.Notes.{is_taken_from}
use Rattle.hox_run.proofs.notes.taken_count.Given as goal

abbrev pub invariant-loop-k : goal.invariant-loop-k
invariant-loop-k g l = (l.taken ≡ count_by (is_taken_from l.c) (take l.k (g.E.Entries.entries l.history))) × (l.taken ≤ l.k)
