-- One pair more.
use Rattle.std.proofs.Common.{◌≡◌, false, sym, ◌∙◌}
use Rattle.hox_files.specs.declared.pairs.Pair.{Pair}
use Rattle.hox_files.specs.Pairs.{is_single}
use Rattle.hox_files.proofs.Apart.{one_more}
use Rattle.hox_files.proofs.pairs.check_shared.Goals as goal

pub loop-k-preserved : goal.loop-k-preserved
loop-k-preserved c = one_more (λ (p : Pair). is_single p ≡ false) c.args.pairs.now c.loop-k.k c.loop-k-test.true c.loop-k.invariant _ (sym c.is_single.ensures ∙ c.if-is_single.false)
