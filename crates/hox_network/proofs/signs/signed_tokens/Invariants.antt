use Rattle.std.proofs.Common.{◌≡◌, map, take}
use Rattle.hox_network.specs.Signs.{signed_token}
use Rattle.hox_network.proofs.signs.signed_tokens.Given as goal

abbrev pub invariant-loop-token : goal.invariant-loop-token
invariant-loop-token l = l.all.items ≡ map signed_token (take l.token-index l.tokens)
