use Rattle.std.proofs.Common.{◌≡◌, ◌++◌, take}
use Rattle.std.specs.List.{flat_map}
use Rattle.kpn_tokens.specs.Heads.{number_bytes}
use Rattle.kpn_tokens.proofs.heads.append_numbers.Given as goal

abbrev pub invariant-loop-number : goal.invariant-loop-number
invariant-loop-number l = l.out.items ≡ l.initial.out.items ++ flat_map number_bytes (take l.number-index l.numbers)
