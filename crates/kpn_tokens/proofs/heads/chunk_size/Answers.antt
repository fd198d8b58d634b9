-- Found without an answer too, after a longer search.
use Rattle.std.proofs.Common.{arith}
use Rattle.std.proofs.lemmas.Grind.{common_steps}
use Rattle.kpn_tokens.proofs.heads.chunk_size.Goals as goal

pub returns : goal.returns
returns c = grind (arith, common_steps)
