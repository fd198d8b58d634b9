use Rattle.std.proofs.Common.{◌≡◌, ◌<◌, ◌+◌, ◌-◌, ◌*◌, ◌^◌, ◌++◌, ◌∷◌, [], get_or, length, take, sym, ap, ◌∙◌, arith}
use Rattle.std.proofs.lemmas.Int.Digits.{digits_push, digits_value_push}
use Rattle.std.proofs.lemmas.List.{length-take-le, take_more}
use Rattle.std.proofs.lemmas.Str.{digit_value_digit}
use Rattle.std.specs.Char.{digit_value}
use Rattle.std.specs.Str.Parse.{digits_value}
use Rattle.kpn_tokens.proofs.PlainLines.{few_digits}
use Rattle.kpn_tokens.proofs.word_lines.digits_in.Goals as goal

pub overflow_mul-number : goal.overflow_mul-number
overflow_mul-number c =
    let size : length (take c.loop-count.count c.args.text.now) ≡ c.loop-count.count = length-take-le c.loop-count.count c.args.text.now (omega arith) in
    let few : digits_value 10 (take c.loop-count.count c.args.text.now) < 10 ^ 17 = few_digits (take c.loop-count.count c.args.text.now) 17 c.loop-count.invariant.all (omega arith) in
    omega arith

pub overflow_add-number : goal.overflow_add-number
overflow_add-number c =
    let size : length (take c.loop-count.count c.args.text.now) ≡ c.loop-count.count = length-take-le c.loop-count.count c.args.text.now (omega arith) in
    let few : digits_value 10 (take c.loop-count.count c.args.text.now) < 10 ^ 17 = few_digits (take c.loop-count.count c.args.text.now) 17 c.loop-count.invariant.all (omega arith) in
    omega arith

pub loop-count-preserved : goal.loop-count-preserved
loop-count-preserved c =
    let text = c.args.text.now in
    let i = c.loop-count.count in
    let digit = get_or text i 0 in
    let before = take i text in
    let within : i < length text = omega arith in
    let more : take (i + 1) text ≡ before ++ digit ∷ [] = take_more text i 0 within in
    let value : digit_value digit + 48 ≡ digit = digit_value_digit digit (omega arith, omega arith) in
    let number : c.loop-count.number * 10 + (digit - 48) ≡ digits_value 10 before * 10 + digit_value digit = omega arith in
    record {
      few = omega arith;
      all = rw more (digits_push 10 before digit c.loop-count.invariant.all (omega arith));
      number = number ∙ sym (digits_value_push 10 before digit) ∙ ap (λ l. digits_value 10 l) (sym more);
    }
