-- Found without an answer too, after a longer search.
use Rattle.std.proofs.Common.{arith}
use Rattle.std.proofs.lemmas.Grind.{common_steps}
use Rattle.kpn_tokens.proofs.numbers.number_in.Goals as goal

pub returns-then-text-eq88 : goal.returns-then-text-eq88
returns-then-text-eq88 c = grind (arith, common_steps)
