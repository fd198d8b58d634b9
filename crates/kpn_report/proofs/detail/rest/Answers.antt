-- Found without an answer too, after a longer search.
use Rattle.std.proofs.lemmas.Grind.{common_steps}
use Rattle.std.proofs.Common.{arith}
use Rattle.kpn_report.proofs.detail.rest.Goals as goal

pub returns : goal.returns
returns c = grind (arith, common_steps)
