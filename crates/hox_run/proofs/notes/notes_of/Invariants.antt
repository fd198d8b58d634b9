use Rattle.std.proofs.Common.{◌≡◌}
use Rattle.hox_run.specs.Cuts.{left_at}
use Rattle.hox_run.specs.Notes.{sources_upto}
use Rattle.hox_run.proofs.notes.notes_of.Given as goal

abbrev pub invariant-loop-c : goal.invariant-loop-c
invariant-loop-c g l = l.sources.items ≡ sources_upto l.run.net.now (g.E.Entries.entries l.run.history.now) (left_at l.run.standings.now l.run.places.now) l.c
