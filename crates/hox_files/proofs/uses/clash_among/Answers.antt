-- One use more stands beside all later ones.
use Rattle.std.proofs.Common.{refl, arith}
use Rattle.hox_files.proofs.Apart.{all_apart, apart_more, is_clash}
use Rattle.hox_files.proofs.uses.clash_among.Goals as goal

pub loop-k-preserved : goal.loop-k-preserved
loop-k-preserved g c = apart_more (g.S.FileSystem.clash c.args.files.now) c.args.uses.now c.loop-k.k _ c.loop-k-test.true c.loop-k.invariant (c.in-None.ensures.apart refl)

pub returns-in-Some-clause-clash : goal.returns-in-Some-clause-clash
returns-in-Some-clause-clash g c = is_clash (g.S.FileSystem.clash c.args.files.now) c.args.uses.now c.loop-k.k _ c.in-Some.other c.loop-k-test.true c.in-Some.ensures.clash.0 c.in-Some.ensures.clash.1

pub returns-clause-apart : goal.returns-clause-apart
returns-clause-apart g c = λ none. all_apart (g.S.FileSystem.clash c.args.files.now) c.args.uses.now c.loop-k.k (omega arith) c.loop-k.invariant
