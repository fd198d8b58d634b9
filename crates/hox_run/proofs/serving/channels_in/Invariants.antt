use Rattle.std.proofs.Common.{take}
use Rattle.std.specs.List.{All}
use Rattle.hox_run.specs.Cuts.{IsWithin}
use Rattle.hox_run.specs.Serving.{AreNamed}
use Rattle.hox_run.proofs.serving.channels_in.Given as goal

abbrev pub invariant-loop-k : goal.invariant-loop-k
invariant-loop-k g l = record {
  named : AreNamed l.net (take l.k l.texts) l.channels.items;
  within : All (IsWithin l.net) l.channels.items;
}
