use Rattle.std.proofs.Common.{◌≡◌, [], ◌∷◌, ◌<◌, ◌+◌, ◌*◌, ◌≤◌, suc, drop, drop-cons, get_or, length, arith, rules}
use Rattle.std.proofs.lemmas.Grind.{common_steps}
use Rattle.std.proofs.lemmas.List.{drop_all}
use Rattle.std.specs.Char.{digit_value}
use Rattle.std.specs.Str.Parse.{digits_value_after}
use Rattle.kpn_tokens.proofs.Digits.{after_grows, based}
use Rattle.kpn_tokens.proofs.numbers.value_after.Goals as goal

pub returns-in-None : goal.returns-in-None
returns-in-None c =
    λ small.
    let base = c.args.base in
    let digits = c.args.digits.now in
    let i = c.loop-digit.digit-index in
    let next = get_or digits i 0 in
    let within : i < length digits = search rules in
    let first : drop i digits ≡ next ∷ drop (suc i) digits = drop-cons digits i 0 within in
    let same : digits_value_after base (c.loop-digit.value * base + digit_value next) (drop (suc i) digits) ≡ digits_value_after base c.args.start digits
    = rw first at c.loop-digit.invariant.same in
    let grows = after_grows base (c.loop-digit.value * base + digit_value next) (drop (suc i) digits) (based base c.loop-digit.value (next ∷ []) c.loop-digit.invariant.fits c.in-None.ensures) in
    c.in-None.ensures (omega arith)

pub returns : goal.returns
returns c =
    let base = c.args.base in
    let digits = c.args.digits.now in
    let i = c.loop-digit.digit-index in
    let past : length digits ≤ i = search rules in
    let none = drop_all i digits past in
    let same : c.loop-digit.value ≡ digits_value_after base c.args.start digits = rw none at c.loop-digit.invariant.same in
    (rw same at c.loop-digit.invariant.fits, same)

pub loop-digit-preserved : goal.loop-digit-preserved
loop-digit-preserved c = grind (arith, common_steps)
