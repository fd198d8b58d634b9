use Rattle.std.proofs.Common.{◌≡◌, map, take}
use Rattle.hox_format.specs.Forms.{form}
use Rattle.hox_format.specs.Tables.{decimals_of}
use Rattle.hox_execute.proofs.sinks.decimals_in.Given as goal

abbrev pub invariant-loop-pair : goal.invariant-loop-pair
invariant-loop-pair l = l.decimals.items ≡ map (λ p. decimals_of (form p.format)) (take l.pair-index l.pairs)
