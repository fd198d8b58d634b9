use Rattle.std.proofs.Common.{◌≡◌, map, take}
use Rattle.toml.specs.View.{view}
use Rattle.kpn_builder.proofs.value.values_of.Given as goal

abbrev pub invariant-loop-item : goal.invariant-loop-item
invariant-loop-item g l = map view l.values.items ≡ map (g.T.ToValue.value l.two) (take l.item-index l.items)
