-- One use more stands beside the first.
use Rattle.std.proofs.Common.{refl, arith}
use Rattle.hox_files.specs.Uses.{StandApart, used}
use Rattle.hox_files.proofs.Apart.{one_more}
use Rattle.hox_files.proofs.uses.clash_with.Goals as goal

pub loop-other-preserved : goal.loop-other-preserved
loop-other-preserved g c =
    one_more (λ other. StandApart (g.S.FileSystem.clash c.args.files.now) (used c.args.one) (used other)) c.args.others.now c.loop-other.other-index c.loop-other-test.true c.loop-other.invariant _ (c.if-do_clash.ensures.apart refl)

pub returns-clause-apart : goal.returns-clause-apart
returns-clause-apart g c = λ none k d within. c.loop-other.invariant k d (omega arith)
