-- Found without an answer too, after a longer search.
use Rattle.std.proofs.Common.{arith}
use Rattle.std.proofs.lemmas.Grind.{common_steps}
use Rattle.hox_json.proofs.named.put_named.Goals as goal

pub returns-in_ok-value_of-in-len1-up : goal.returns-in_ok-value_of-in-len1-up
returns-in_ok-value_of-in-len1-up c = grind (arith, common_steps)

pub returns-in-empty : goal.returns-in-empty
returns-in-empty c = grind (arith, common_steps)
