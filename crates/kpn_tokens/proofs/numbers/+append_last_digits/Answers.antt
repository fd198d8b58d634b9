use Rattle.std.proofs.Common.{◌≡◌, ◌<◌, ◌+◌, ◌-◌, ◌/◌, ◌%◌, ◌++◌, ◌∷◌, [], OnOk, append_assoc, rules, arith}
use Rattle.kpn_tokens.specs.Numbers.{last_digits}
use Rattle.kpn_tokens.proofs.Digits.{last_step}
use Rattle.kpn_tokens.proofs.numbers.+append_last_digits.Goals as goal

pub returns : goal.returns
returns t c =
    let count = c.args.count in
    let number = c.args.number in
    let old = c.args.out.now.items in
    let some : 0 < count = omega arith in
    let before = last_digits (count - 1) (number / 10) in
    let digit = 48 + number % 10 in
    let mid : c.append_last_digits.new.out.items ≡ old ++ before = search rules in
    let byte : OnOk c.append_byte.result (c.append_byte.new.out.items ≡ c.append_last_digits.new.out.items ++ digit ∷ []) = search rules in
    let joined : OnOk c.append_byte.result (c.append_byte.new.out.items ≡ (old ++ before) ++ digit ∷ []) = rw mid at byte in
    rw (last_step count number some) (rw (append_assoc old before (digit ∷ [])) at joined)
