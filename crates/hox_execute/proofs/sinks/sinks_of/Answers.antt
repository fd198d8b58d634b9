-- One sink more.
use Rattle.std.proofs.Common.{◌≡◌, true, sym, ◌∙◌, rules}
use Rattle.hox_files.specs.Pairs.{is_alone}
use Rattle.hox_execute.specs.Streaming.{IsCreated}
use Rattle.hox_files.proofs.Zipped.{one_kept}
use Rattle.hox_execute.proofs.sinks.sinks_of.Goals as goal

pub loop-k-preserved : goal.loop-k-preserved
loop-k-preserved g c =
    let l = c.loop-k in
    let alone : c.is_alone.result ≡ true = search rules in
    one_kept (IsCreated g.S.Output.Sink.seen c.args.rate) is_alone c.args.pairs.now l.k _ l.sinks.items c.push.new.self.items _ c.loop-k-test.true (sym c.is_alone.ensures ∙ alone) l.invariant c.in-Ok-push.ensures.items c.in-Ok.ensures
