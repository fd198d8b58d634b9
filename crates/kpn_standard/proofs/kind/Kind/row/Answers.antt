-- The name in a kind's row means this kind.
use Rattle.std.proofs.Common.{◌≡◌, Some, refl, rules}
use Rattle.kpn_standard.specs.declared.kind.Kind.{Kind}
use Rattle.kpn_standard.specs.declared.kind.Kind.TheVariants.{Count, Sink, Take, Copy, Prefix, Add, Scale, Weave, Merge, Divides, Switch, Select}
use Rattle.kpn_standard.specs.Table.{row_of}
use Rattle.kpn_standard.specs.Signatures.{named}
use Rattle.kpn_standard.proofs.kind.Kind.row.Goals as goal

means_itself : (kind : Kind) → named (row_of kind).name ≡ Some ((row_of kind).number, (row_of kind).arguments)
means_itself Count = refl
means_itself Sink = refl
means_itself Take = refl
means_itself Copy = refl
means_itself Prefix = refl
means_itself Add = refl
means_itself Scale = refl
means_itself Weave = refl
means_itself Merge = refl
means_itself Divides = refl
means_itself Switch = refl
means_itself Select = refl

pub returns-clause-means : goal.returns-clause-means
returns-clause-means c = search (rules, means_itself)
