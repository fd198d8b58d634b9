-- One source more.
use Rattle.hox_format.specs.Resuming.{left_of, resumed_has_failed}
use Rattle.hox_execute.specs.Streaming.{IsOpened}
use Rattle.hox_files.proofs.Zipped.{zipped_at}
use Rattle.hox_execute.proofs.streaming.sources_of.Goals as goal

pub loop-k-preserved : goal.loop-k-preserved
loop-k-preserved g c =
    let l = c.loop-k in
    zipped_at (IsOpened (left_of g.S.Input.Source.remaining) (resumed_has_failed g.S.Input.Source.has_failed) (g.S.FileSystem.contents c.args.files.now)) c.args.pairs.now l.k _ l.sources.items c.push.new.self.items _ c.loop-k-test.true
    l.invariant c.in-Ok-push.ensures.items c.in-Ok.ensures
