-- Found without an answer too, after a longer search.
use Rattle.std.proofs.Common.{arith}
use Rattle.std.proofs.lemmas.Grind.{common_steps}
use Rattle.kpn_tokens.proofs.numbers.number_of.Goals as goal

pub returns-then-not-has_digit : goal.returns-then-not-has_digit
returns-then-not-has_digit c = grind (arith, common_steps)

pub returns-then-not-has_only_digits : goal.returns-then-not-has_only_digits
returns-then-not-has_only_digits c = grind (arith, common_steps)

pub returns-then-part-places : goal.returns-then-part-places
returns-then-part-places c = grind (arith, common_steps)

pub returns-in-Some : goal.returns-in-Some
returns-in-Some c = grind (arith, common_steps)

pub returns-in-None : goal.returns-in-None
returns-in-None c = grind (arith, common_steps)
