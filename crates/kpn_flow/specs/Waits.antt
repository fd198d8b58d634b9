-- Processes that wait at the ends of a flow, according to their standings.
use Rattle.std.specs.Prelude.{ℕ, ◌==◌, ◌&&◌, Bool, true, false, nat_lt, List, Option, Some, None, length}
use Rattle.std.specs.List.{sum_by}
use Rattle.kpn_model.specs.declared.kinds.Act.{Act}
use Rattle.kpn_model.specs.declared.kinds.Act.TheVariants.{Read, Write, Stop}
use Rattle.kpn_model.specs.Network.{Network, channel_of, in_of, out_of}
use Rattle.kpn_state.specs.declared.standing.Standing.{Standing}
use Rattle.kpn_state.specs.declared.standing.Standing.TheVariants.{Ready, Out, Parked, Stopped}
use Rattle.kpn_state.specs.Standings.{standing}

abbrev pub is_channel : Network → ℕ → Bool
is_channel net c = nat_lt c (length net.channels)

abbrev pub is_at : ℕ → Option ℕ → Bool
is_at c None = false
is_at c (Some d) = d == c

abbrev pub is_read : Act → Bool
is_read (Read k) = true
is_read (Write k t) = false
is_read Stop = false

-- p's act is a read from c
abbrev pub reads_from : Network → ℕ → ℕ → Act → Bool
reads_from net c p (Read k) = is_at c (in_of net p k)
reads_from net c p (Write k t) = false
reads_from net c p Stop = false

-- p's act is a write to c
abbrev pub writes_to : Network → ℕ → ℕ → Act → Bool
writes_to net c p (Read k) = false
writes_to net c p (Write k t) = is_at c (out_of net p k)
writes_to net c p Stop = false

abbrev pub is_parked_with : (Act → Bool) → Standing → Bool
is_parked_with test Ready = false
is_parked_with test Out = false
is_parked_with test (Parked a) = test a.act
is_parked_with test Stopped = false

-- p is parked with a read from c
abbrev pub awaits_token : Network → List Standing → ℕ → ℕ → Bool
awaits_token net standings c p = is_parked_with (reads_from net c p) (standing standings p)

-- p is parked with a write to c
abbrev pub awaits_room : Network → List Standing → ℕ → ℕ → Bool
awaits_room net standings c p = is_parked_with (writes_to net c p) (standing standings p)

-- the reader of c waits for a token in it
abbrev pub starves : Network → List Standing → ℕ → Bool
starves net standings c = is_channel net c && awaits_token net standings c (channel_of net c).reader

-- the writer of c waits for room in it
abbrev pub holds_up : Network → List Standing → ℕ → Bool
holds_up net standings c = is_channel net c && awaits_room net standings c (channel_of net c).writer

-- a process that has stopped or waits for a token
abbrev pub waits_to_read : Standing → Bool
waits_to_read Ready = false
waits_to_read Out = false
waits_to_read (Parked a) = is_read a.act
waits_to_read Stopped = true

abbrev pub is_not_parked : Standing → ℕ
is_not_parked Ready = 1
is_not_parked Out = 1
is_not_parked (Parked a) = 0
is_not_parked Stopped = 1

-- how many are not parked
abbrev pub unparked : List Standing → ℕ
unparked standings = sum_by is_not_parked standings
