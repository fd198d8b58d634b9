use Rattle.std.proofs.Common.{◌≡◌, map}
use Rattle.hox_execute.specs.Streaming.{laid_source}
use Rattle.hox_execute.proofs.streaming.laid_out.Given as goal

abbrev pub invariant-loop-opened : goal.invariant-loop-opened
invariant-loop-opened g l = l.sources.items ≡ map laid_source l.yielded
