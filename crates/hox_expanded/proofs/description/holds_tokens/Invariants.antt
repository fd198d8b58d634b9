-- None so far has tokens.
use Rattle.std.proofs.Common.{◌≡◌, false, take}
use Rattle.std.specs.List.{list_any}
use Rattle.hox_expanded.specs.Description.{has_tokens}
use Rattle.hox_expanded.proofs.description.holds_tokens.Given as goal

abbrev pub invariant-loop-c : goal.invariant-loop-c
invariant-loop-c g l = list_any has_tokens (take l.c l.net.channels) ≡ false
