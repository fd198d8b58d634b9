use Rattle.std.proofs.Common.{◌∙◌, ◌<◌, ◌/◌, ◌%◌, ◌^◌, ap, arith, length}
use Rattle.std.proofs.lemmas.Bool.Decides.{nat_tests}
use Rattle.std.proofs.lemmas.List.{get_or_read}
use Rattle.kpn_formula.proofs.Places.{digit_shifted}
use Rattle.kpn_formula.proofs.reading.digit.Goals as goal

pub returns-in-Some-clause-is : goal.returns-in-Some-clause-is
returns-in-Some-clause-is c =
    let within : c.args.place / 12 < length c.args.card.now.args = grind (arith, nat_tests, c.in-Some.ensures.lookup.0) in
    digit_shifted c.in-Some.arg.now (c.args.place % 12) ∙ ap (λ n. n / 32 ^ (c.args.place % 12) % 32) (get_or_read c.args.card.now.args (c.args.place / 12) c.in-Some.arg.now within c.in-Some.ensures.lookup.1 0)
