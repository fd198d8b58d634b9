use Rattle.std.proofs.Common.{◌≡◌, ◌<◌, ◌^◌, drop}
use Rattle.std.specs.Str.Parse.{digits_value_after}
use Rattle.kpn_tokens.proofs.numbers.value_after.Given as goal

-- the digits that are left make the same number after those so far
abbrev pub invariant-loop-digit : goal.invariant-loop-digit
invariant-loop-digit l = record { same : digits_value_after l.base l.value (drop l.digit-index l.digits) ≡ digits_value_after l.base l.initial.value l.digits; fits : l.value < 2 ^ 64 }
