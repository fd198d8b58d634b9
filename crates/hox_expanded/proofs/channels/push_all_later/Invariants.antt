use Rattle.std.proofs.Common.{◌≡◌, ◌++◌, string_bytes, take}
use Rattle.std.specs.List.{flat_map}
use Rattle.hox_expanded.specs.Description.{later_token}
use Rattle.hox_expanded.proofs.channels.push_all_later.Given as goal

abbrev pub invariant-loop-token : goal.invariant-loop-token
invariant-loop-token l = string_bytes l.out ≡ string_bytes l.initial.out ++ flat_map later_token (take l.token-index l.tokens)
