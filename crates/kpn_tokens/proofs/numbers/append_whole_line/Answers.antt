-- Found without an answer too, after a longer search.
use Rattle.std.proofs.Common.{arith}
use Rattle.std.proofs.lemmas.Grind.{common_steps}
use Rattle.kpn_tokens.proofs.numbers.append_whole_line.Goals as goal

pub returns-then-word : goal.returns-then-word
returns-then-word c = grind (arith, common_steps)
