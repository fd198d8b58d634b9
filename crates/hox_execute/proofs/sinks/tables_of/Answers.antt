-- All tables.
use Rattle.std.proofs.Common.{ap, drop}
use Rattle.hox_files.specs.Pairs.{groups}
use Rattle.hox_execute.specs.Streaming.{IsTabled}
use Rattle.hox_files.proofs.Parted.{completed, nothing_left}
use Rattle.hox_execute.proofs.sinks.tables_of.Goals as goal

pub returns-clause-ok : goal.returns-clause-ok
returns-clause-ok g c =
    completed (IsTabled g.S.Output.Sink.seen c.args.rate) (groups c.args.pairs.now) c.loop-k.tables.items (groups (drop c.loop-k.k c.args.pairs.now)) c.loop-k.invariant (ap groups (nothing_left c.args.pairs.now c.loop-k.k c.loop-k-test.false))
