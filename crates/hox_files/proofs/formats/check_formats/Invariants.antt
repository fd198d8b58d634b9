use Rattle.std.proofs.Common.{take}
use Rattle.std.specs.List.{All}
use Rattle.hox_files.specs.Pairs.{IsUsable}
use Rattle.hox_files.proofs.Firsts.{texts_of}
use Rattle.hox_files.proofs.formats.check_formats.Given as goal

abbrev pub invariant-loop-text : goal.invariant-loop-text
invariant-loop-text l = All (IsUsable l.inputs l.outputs) (texts_of (take l.text-index l.texts))
