use Rattle.std.proofs.Common.{◌≡◌, ◌<◌, ◌*◌, ◌^◌, ◌++◌, ℕ, SomeIff, arith, subst, sym, ap, ◌∙◌}
use Rattle.std.specs.Str.Parse.{digits_value, digits_value_after}
use Rattle.kpn_tokens.proofs.Digits.{after_both, based, whole_too_great, zeros_grow}
use Rattle.kpn_tokens.proofs.numbers.value_of.Goals as goal

pub returns-in_default : goal.returns-in_default
returns-in_default c = whole_too_great c.args.base c.args.zeros (2 ^ 64) c.args.whole.now c.args.part.now (based c.args.base 0 c.args.whole.now (omega arith) c.in_default.ensures) c.in_default.ensures

pub returns-in_default-value_after : goal.returns-in_default-value_after
returns-in_default-value_after c =
    λ small.
    let base = c.args.base in
    let whole = c.args.whole.now in
    let part = c.args.part.now in
    let start : c.in-Some.start ≡ digits_value base whole = c.in-Some.ensures.1 in
    let both = after_both base 0 whole part in
    let same : digits_value base (whole ++ part) ≡ digits_value_after base c.in-Some.start part = both ∙ ap (λ n. digits_value_after base n part) (sym start) in
    let more = zeros_grow (digits_value base (whole ++ part)) c.args.zeros in
    c.in_default-value_after.ensures (omega arith)

pub returns : goal.returns
returns c =
    let base = c.args.base in
    let whole = c.args.whole.now in
    let part = c.args.part.now in
    let start : c.in-Some.start ≡ digits_value base whole = c.in-Some.ensures.1 in
    let value : c.in-Some-value_after.value ≡ digits_value_after base c.in-Some.start part = c.in-Some-value_after.ensures.1 in
    let same : c.in-Some-value_after.value ≡ digits_value base (whole ++ part)
    = value ∙ ap (λ n. digits_value_after base n part) start ∙ sym (after_both base 0 whole part) in
    subst (λ (n : ℕ). SomeIff c.scaled.result (n * 10 ^ c.args.zeros < 2 ^ 64) (n * 10 ^ c.args.zeros)) same c.scaled.ensures
