-- Worked networks: how a run ends, and what is left.
use Rattle.std.specs.Prelude.{[], ◌∷◌}
use Rattle.kpn_model.specs.declared.history.End.TheVariants.{Terminated, Deadlock}
use Rattle.kpn_model.specs.declared.history.Place.TheVariants.{Stopped, Reads}
use Rattle.kpn_model.specs.Network.{Network}
use Rattle.kpn_model.specs.History.{Digest}
use Rattle.kpn_standard.specs.Standard.{standard}
use Rattle.kpn_laws.specs.Digested.{HasDigest}
use Rattle.test_laws.specs.Building.{count, sink, take, copy, words, holding, numbers, network}

-- both stop, and nothing is left
abbrev pub counter_into_sink : Network
counter_into_sink =
    network (count 1 3 ∷ sink 3 ∷ [])
    (words (0, 0) (1, 0) 1 ∷ [])

abbrev pub counter_into_sink_digest : Digest
counter_into_sink_digest =
    record {
      cause = Terminated;
      places = Stopped ∷ Stopped ∷ [];
      steps = 4 ∷ 4 ∷ [];
      capacities = 1 ∷ [];
      streams = (numbers (1 ∷ 2 ∷ 3 ∷ [])) ∷ [];
      rests = [] ∷ [];
      growths = [];
      entries = 8;
    }

abbrev pub CounterIntoSink : Type 0
CounterIntoSink = HasDigest standard counter_into_sink counter_into_sink_digest

-- the sink wants one token more than comes: a deadlock
abbrev pub sink_waits_for_one_more : Network
sink_waits_for_one_more =
    network (count 1 3 ∷ sink 4 ∷ [])
    (words (0, 0) (1, 0) 1 ∷ [])

abbrev pub sink_waits_for_one_more_digest : Digest
sink_waits_for_one_more_digest =
    record {
      cause = Deadlock;
      places = Stopped ∷ Reads 0 ∷ [];
      steps = 4 ∷ 3 ∷ [];
      capacities = 1 ∷ [];
      streams = (numbers (1 ∷ 2 ∷ 3 ∷ [])) ∷ [];
      rests = [] ∷ [];
      growths = [];
      entries = 7;
    }

abbrev pub SinkWaitsForOneMore : Type 0
SinkWaitsForOneMore = HasDigest standard sink_waits_for_one_more sink_waits_for_one_more_digest

-- the sink stops after two tokens; the third stays in the channel
abbrev pub sink_stops_early : Network
sink_stops_early =
    network (count 1 3 ∷ sink 2 ∷ [])
    (words (0, 0) (1, 0) 1 ∷ [])

abbrev pub sink_stops_early_digest : Digest
sink_stops_early_digest =
    record {
      cause = Terminated;
      places = Stopped ∷ Stopped ∷ [];
      steps = 4 ∷ 3 ∷ [];
      capacities = 1 ∷ [];
      streams = (numbers (1 ∷ 2 ∷ 3 ∷ [])) ∷ [];
      rests = (numbers (3 ∷ [])) ∷ [];
      growths = [];
      entries = 7;
    }

abbrev pub SinkStopsEarly : Type 0
SinkStopsEarly = HasDigest standard sink_stops_early sink_stops_early_digest

-- both stop at once
abbrev pub nothing_to_count : Network
nothing_to_count =
    network (count 5 0 ∷ sink 0 ∷ [])
    (words (0, 0) (1, 0) 1 ∷ [])

abbrev pub nothing_to_count_digest : Digest
nothing_to_count_digest =
    record {
      cause = Terminated;
      places = Stopped ∷ Stopped ∷ [];
      steps = 1 ∷ 1 ∷ [];
      capacities = 1 ∷ [];
      streams = [] ∷ [];
      rests = [] ∷ [];
      growths = [];
      entries = 2;
    }

abbrev pub NothingToCount : Type 0
NothingToCount = HasDigest standard nothing_to_count nothing_to_count_digest

-- a process waits for its own output: nothing happens
abbrev pub dead_from_the_start : Network
dead_from_the_start =
    network (copy ∷ sink 1 ∷ [])
    (words (0, 0) (0, 0) 1 ∷ words (0, 1) (1, 0) 1 ∷ [])

abbrev pub dead_from_the_start_digest : Digest
dead_from_the_start_digest =
    record {
      cause = Deadlock;
      places = Reads 0 ∷ Reads 1 ∷ [];
      steps = 0 ∷ 0 ∷ [];
      capacities = 1 ∷ 1 ∷ [];
      streams = [] ∷ [] ∷ [];
      rests = [] ∷ [] ∷ [];
      growths = [];
      entries = 0;
    }

abbrev pub DeadFromTheStart : Type 0
DeadFromTheStart = HasDigest standard dead_from_the_start dead_from_the_start_digest

-- a process that passes two tokens on to itself, with one start token
abbrev pub start_tokens : Network
start_tokens =
    network (take 2 ∷ [])
    (holding (numbers (7 ∷ [])) (words (0, 0) (0, 0) 1) ∷ [])

abbrev pub start_tokens_digest : Digest
start_tokens_digest =
    record {
      cause = Terminated;
      places = Stopped ∷ [];
      steps = 5 ∷ [];
      capacities = 1 ∷ [];
      streams = (numbers (7 ∷ 7 ∷ 7 ∷ [])) ∷ [];
      rests = (numbers (7 ∷ [])) ∷ [];
      growths = [];
      entries = 5;
    }

abbrev pub StartTokens : Type 0
StartTokens = HasDigest standard start_tokens start_tokens_digest
