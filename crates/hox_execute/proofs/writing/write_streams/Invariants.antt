use Rattle.std.proofs.Common.{◌≡◌, true, take}
use Rattle.hox_execute.specs.Reports.{Tries, streams_written}
use Rattle.hox_execute.proofs.writing.write_streams.Given as goal

abbrev pub invariant-loop-k : goal.invariant-loop-k
invariant-loop-k g l = record {
  tries : Tries (take l.k (streams_written l.outputs l.texts)) l.are_written (g.S.FileSystem.effects l.fn.files) (g.S.FileSystem.effects l.files);
  steady : g.S.FileSystem.is_steady l.fn.files ≡ true → (l.are_written ≡ true) × (g.S.FileSystem.is_steady l.files ≡ true);
}
