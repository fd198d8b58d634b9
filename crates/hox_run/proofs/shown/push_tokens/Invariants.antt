use Rattle.std.proofs.Common.{◌≡◌, take}
use Rattle.std.specs.List.{flat_map}
use Rattle.hox_run.specs.Cuts.{token_part}
use Rattle.hox_run.proofs.shown.push_tokens.Given as goal

abbrev pub invariant-loop-token : goal.invariant-loop-token
invariant-loop-token l = l.bytes.items ≡ flat_map (token_part l.decimals) (take l.token-index l.tokens)
