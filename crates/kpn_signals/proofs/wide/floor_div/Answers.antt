-- Found without an answer too, after a longer search.
use Rattle.std.proofs.Common.{arith}
use Rattle.std.proofs.lemmas.Grind.{common_steps}
use Rattle.kpn_signals.proofs.wide.floor_div.Goals as goal

pub returns-else-divisor-gt0 : goal.returns-else-divisor-gt0
returns-else-divisor-gt0 c = grind (arith, common_steps)
