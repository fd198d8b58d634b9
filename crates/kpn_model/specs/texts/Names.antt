-- The names of processes and channels.
use Rattle.std.specs.Prelude.{ℕ, List, [], slice_get}
use Rattle.std.specs.Option.{option_map_or}
use Rattle.kpn_model.specs.Network.{Network}

abbrev pub process_name : Network → ℕ → List ℕ
process_name net p = option_map_or (λ x. x.name) (slice_get net.processes p) []

abbrev pub channel_name : Network → ℕ → List ℕ
channel_name net c = option_map_or (λ x. x.name) (slice_get net.channels c) []
