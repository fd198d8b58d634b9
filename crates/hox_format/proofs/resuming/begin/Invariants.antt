use Rattle.std.proofs.Common.{◌≡◌, false}
use Rattle.hox_format.specs.Resuming.{IsFrontOf}
use Rattle.hox_format.proofs.resuming.begin.Given as goal

abbrev pub invariant-pieces : goal.invariant-pieces
invariant-pieces g l = record {
  front : IsFrontOf (g.S.Source.remaining l.fn.source) l.front.held.items l.front.is_last (g.S.Source.remaining l.front.source);
  unfailed : g.S.Source.has_failed l.fn.source ≡ false → g.S.Source.has_failed l.front.source ≡ false;
}
