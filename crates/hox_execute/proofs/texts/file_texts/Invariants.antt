use Rattle.std.proofs.Common.{◌≡◌, ◌++◌, drop}
use Rattle.hox_execute.specs.Reports.{file_texts}
use Rattle.hox_execute.proofs.texts.file_texts.Given as goal

abbrev pub invariant-loop-k : goal.invariant-loop-k
invariant-loop-k l = l.texts.items ++ file_texts l.rate (drop l.k l.pairs) (drop l.k l.files) ≡ file_texts l.rate l.pairs l.files
