use Rattle.std.proofs.Common.{drop, take}
use Rattle.std.specs.List.{All, flat_map}
use Rattle.hox_files.specs.Formats.{HasEquals}
use Rattle.hox_files.specs.Pairs.{IsPair, parts}
use Rattle.hox_files.proofs.Firsts.{texts_of}
use Rattle.hox_files.proofs.Parted.{Completes}
use Rattle.hox_files.proofs.pairs.all_pairs.Given as goal

abbrev pub invariant-loop-text : goal.invariant-loop-text
invariant-loop-text l = record {
  said : All HasEquals (texts_of (take l.text-index l.texts));
  each : Completes (IsPair (texts_of l.formats.texts.now) (texts_of l.formats.unsigned.now)) (flat_map parts (texts_of l.texts)) l.pairs.items (flat_map parts (texts_of (drop l.text-index l.texts)));
}
