use Rattle.std.proofs.Common.{◌≡◌, drop}
use Rattle.hox_files.specs.Formats.{named_twice}
use Rattle.hox_files.proofs.Firsts.{texts_of}
use Rattle.hox_files.proofs.formats.named_twice.Given as goal

-- no channel of the texts before is that of a later one
abbrev pub invariant-loop-k : goal.invariant-loop-k
invariant-loop-k l = named_twice (texts_of l.texts) ≡ named_twice (texts_of (drop l.k l.texts))
