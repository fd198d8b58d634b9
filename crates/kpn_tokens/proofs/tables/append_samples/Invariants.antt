use Rattle.std.proofs.Common.{◌≡◌, ◌++◌, take}
use Rattle.std.specs.List.{flat_map}
use Rattle.kpn_tokens.specs.Samples.{channel_text}
use Rattle.kpn_tokens.proofs.tables.append_samples.Given as goal

abbrev pub invariant-loop-cell : goal.invariant-loop-cell
invariant-loop-cell l = l.out.items ≡ l.initial.out.items ++ flat_map (λ cell. channel_text l.sample cell.token) (take l.cell-index l.cells)
