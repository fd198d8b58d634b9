use Rattle.std.proofs.Common.{◌≡◌, ◌++◌, take}
use Rattle.hox_stream.proofs.lane.have_wait.Given as goal

abbrev pub invariant-loop-token : goal.invariant-loop-token
invariant-loop-token l = l.waiting.items ≡ l.initial.waiting.items ++ take l.token-index l.tokens
