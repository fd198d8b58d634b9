-- A description begins empty, in version 2.
use Rattle.std.proofs.Common.{refl, rules}
use Rattle.kpn_builder.proofs.builder.Builder.new.Goals as goal

pub invariant_of-result : goal.invariant_of-result
invariant_of-result c = refl

pub returns : goal.returns
returns c = search rules
