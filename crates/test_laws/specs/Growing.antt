-- Worked networks: which channel grows, and when none can.
use Rattle.std.specs.Prelude.{[], ◌∷◌}
use Rattle.kpn_model.specs.declared.history.End.TheVariants.{Terminated, Deadlock, Ceiling}
use Rattle.kpn_model.specs.declared.history.Place.TheVariants.{Stopped, Reads, Writes}
use Rattle.kpn_model.specs.Network.{Network}
use Rattle.kpn_model.specs.History.{Digest}
use Rattle.kpn_standard.specs.Standard.{standard}
use Rattle.kpn_laws.specs.Digested.{HasDigest}
use Rattle.test_laws.specs.Building.{count, sink, copy, weave, words, numbers, one_to_three, one_to_three_twice, network}

-- the sink stops after one token: the channel grows by one, so that the counter stops too
abbrev pub counter_outlives_sink : Network
counter_outlives_sink =
    network (count 1 3 ∷ sink 1 ∷ [])
    (words (0, 0) (1, 0) 1 ∷ [])

abbrev pub counter_outlives_sink_digest : Digest
counter_outlives_sink_digest =
    record {
      cause = Terminated;
      places = Stopped ∷ Stopped ∷ [];
      steps = 4 ∷ 2 ∷ [];
      capacities = 2 ∷ [];
      streams = (numbers (1 ∷ 2 ∷ 3 ∷ [])) ∷ [];
      rests = (numbers (2 ∷ 3 ∷ [])) ∷ [];
      growths = (0, 2) ∷ [];
      entries = 7;
    }

abbrev pub CounterOutlivesSink : Type 0
CounterOutlivesSink = HasDigest standard counter_outlives_sink counter_outlives_sink_digest

-- of two full channels of one capacity, the one with the lowest number grows first
abbrev pub equal_capacities : Network
equal_capacities =
    network (count 1 2 ∷ count 1 2 ∷ sink 0 ∷ sink 0 ∷ [])
    (words (0, 0) (2, 0) 1 ∷ words (1, 0) (3, 0) 1 ∷ [])

abbrev pub equal_capacities_digest : Digest
equal_capacities_digest =
    record {
      cause = Terminated;
      places = Stopped ∷ Stopped ∷ Stopped ∷ Stopped ∷ [];
      steps = 3 ∷ 3 ∷ 1 ∷ 1 ∷ [];
      capacities = 2 ∷ 2 ∷ [];
      streams = (numbers (1 ∷ 2 ∷ [])) ∷ (numbers (1 ∷ 2 ∷ [])) ∷ [];
      rests = (numbers (1 ∷ 2 ∷ [])) ∷ (numbers (1 ∷ 2 ∷ [])) ∷ [];
      growths = (0, 2) ∷ (1, 2) ∷ [];
      entries = 10;
    }

abbrev pub EqualCapacities : Type 0
EqualCapacities = HasDigest standard equal_capacities equal_capacities_digest

-- of two full channels, the smaller grows first, whatever their numbers
abbrev pub smallest_full_channel_grows : Network
smallest_full_channel_grows =
    network (count 1 3 ∷ count 1 3 ∷ sink 0 ∷ sink 0 ∷ [])
    (words (0, 0) (2, 0) 2 ∷ words (1, 0) (3, 0) 1 ∷ [])

abbrev pub smallest_full_channel_grows_digest : Digest
smallest_full_channel_grows_digest =
    record {
      cause = Terminated;
      places = Stopped ∷ Stopped ∷ Stopped ∷ Stopped ∷ [];
      steps = 4 ∷ 4 ∷ 1 ∷ 1 ∷ [];
      capacities = 3 ∷ 3 ∷ [];
      streams = (numbers (1 ∷ 2 ∷ 3 ∷ [])) ∷ (numbers (1 ∷ 2 ∷ 3 ∷ [])) ∷ [];
      rests = (numbers (1 ∷ 2 ∷ 3 ∷ [])) ∷ (numbers (1 ∷ 2 ∷ 3 ∷ [])) ∷ [];
      growths = (1, 2) ∷ (0, 3) ∷ (1, 3) ∷ [];
      entries = 13;
    }

abbrev pub SmallestFullChannelGrows : Type 0
SmallestFullChannelGrows = HasDigest standard smallest_full_channel_grows smallest_full_channel_grows_digest

-- a smaller full channel does not grow if its writer has stopped
abbrev pub full_channel_of_stopped_writer : Network
full_channel_of_stopped_writer =
    network (count 1 1 ∷ count 1 3 ∷ sink 0 ∷ sink 0 ∷ [])
    (words (0, 0) (2, 0) 1 ∷ words (1, 0) (3, 0) 2 ∷ [])

abbrev pub full_channel_of_stopped_writer_digest : Digest
full_channel_of_stopped_writer_digest =
    record {
      cause = Terminated;
      places = Stopped ∷ Stopped ∷ Stopped ∷ Stopped ∷ [];
      steps = 2 ∷ 4 ∷ 1 ∷ 1 ∷ [];
      capacities = 1 ∷ 3 ∷ [];
      streams = (numbers (1 ∷ [])) ∷ (numbers (1 ∷ 2 ∷ 3 ∷ [])) ∷ [];
      rests = (numbers (1 ∷ [])) ∷ (numbers (1 ∷ 2 ∷ 3 ∷ [])) ∷ [];
      growths = (1, 3) ∷ [];
      entries = 9;
    }

abbrev pub FullChannelOfStoppedWriter : Type 0
FullChannelOfStoppedWriter = HasDigest standard full_channel_of_stopped_writer full_channel_of_stopped_writer_digest

-- smallest_full_channel_grows with a step of four: one growth of each channel is enough
abbrev pub growth_step : Network
growth_step =
    record smallest_full_channel_grows { step = 4 }

abbrev pub growth_step_digest : Digest
growth_step_digest =
    record {
      cause = Terminated;
      places = Stopped ∷ Stopped ∷ Stopped ∷ Stopped ∷ [];
      steps = 4 ∷ 4 ∷ 1 ∷ 1 ∷ [];
      capacities = 6 ∷ 5 ∷ [];
      streams = (numbers (1 ∷ 2 ∷ 3 ∷ [])) ∷ (numbers (1 ∷ 2 ∷ 3 ∷ [])) ∷ [];
      rests = (numbers (1 ∷ 2 ∷ 3 ∷ [])) ∷ (numbers (1 ∷ 2 ∷ 3 ∷ [])) ∷ [];
      growths = (1, 5) ∷ (0, 6) ∷ [];
      entries = 12;
    }

abbrev pub GrowthStep : Type 0
GrowthStep = HasDigest standard growth_step growth_step_digest

-- the chosen channel is at the ceiling: the run is over
abbrev pub ceiling_reached : Network
ceiling_reached =
    record (network (count 1 3 ∷ sink 0 ∷ []) (words (0, 0) (1, 0) 1 ∷ [])) { ceiling = 2 }

abbrev pub ceiling_reached_digest : Digest
ceiling_reached_digest =
    record {
      cause = Ceiling;
      places = Writes 0 ∷ Stopped ∷ [];
      steps = 2 ∷ 1 ∷ [];
      capacities = 2 ∷ [];
      streams = (numbers (1 ∷ 2 ∷ [])) ∷ [];
      rests = (numbers (1 ∷ 2 ∷ [])) ∷ [];
      growths = (0, 2) ∷ [];
      entries = 4;
    }

abbrev pub CeilingReached : Type 0
CeilingReached = HasDigest standard ceiling_reached ceiling_reached_digest

-- Parks's case: the weave takes three tokens of one branch first, so the other has to grow
abbrev pub parks_case : Network
parks_case =
    network (count 1 3 ∷ copy ∷ weave 3 3 ∷ sink 6 ∷ [])
    (words (0, 0) (1, 0) 1 ∷ words (1, 0) (2, 0) 1 ∷ words (1, 1) (2, 1) 1 ∷ words (2, 0) (3, 0) 1 ∷ [])

abbrev pub parks_case_digest : Digest
parks_case_digest =
    record {
      cause = Deadlock;
      places = Stopped ∷ Reads 0 ∷ Reads 1 ∷ Stopped ∷ [];
      steps = 4 ∷ 9 ∷ 12 ∷ 7 ∷ [];
      capacities = 1 ∷ 1 ∷ 2 ∷ 1 ∷ [];
      streams = one_to_three ∷ one_to_three ∷ one_to_three ∷ one_to_three_twice ∷ [];
      rests = [] ∷ [] ∷ [] ∷ [] ∷ [];
      growths = (2, 2) ∷ [];
      entries = 33;
    }

abbrev pub ParksCase : Type 0
ParksCase = HasDigest standard parks_case parks_case_digest
