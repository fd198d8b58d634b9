-- Parks's case as a description: a counter, a copy, a weave of three and three, and a sink of six.
use Rattle.std.specs.Prelude.{ℕ, ℤ, pos, codes, List, [], ◌∷◌, ◌==◌, if◌then◌else◌}
use Rattle.kpn_model.specs.declared.token.Sort.TheVariants.{Words}
use Rattle.kpn_model.specs.declared.history.End.TheVariants.{Deadlock}
use Rattle.kpn_model.specs.declared.history.Place.TheVariants.{Stopped, Reads}
use Rattle.kpn_sketch.specs.declared.sketch.ProcessSketch.{ProcessSketch}
use Rattle.kpn_sketch.specs.declared.sketch.ChannelSketch.{ChannelSketch}
use Rattle.kpn_sketch.specs.declared.sketch.Sketch.{Sketch}
use Rattle.kpn_standard.specs.Signatures.{named}
use Rattle.kpn_model.specs.Network.{Network, resized}
use Rattle.kpn_model.specs.History.{Digest}
use Rattle.kpn_net.specs.Sketched.{net_of}
use Rattle.test_laws.specs.Building.{one_to_three, one_to_three_twice}

abbrev pub process : List ℕ → List ℕ → List ℤ → ProcessSketch
process name kind args = record { name = name; kind = kind; args = args }

abbrev pub channel : List ℕ → List ℕ → ℤ → List ℕ → ℤ → ChannelSketch
channel name from out to input =
    record {
      name = name;
      from = from;
      to = to;
      out = out;
      input = input;
      sort = Words;
      capacity = pos 1;
      tokens = [];
    }

abbrev pub source : ProcessSketch
source = process (codes "src") (codes "count") (pos 1 ∷ pos 3 ∷ [])

abbrev pub copier : ProcessSketch
copier = process (codes "cp") (codes "copy") []

abbrev pub weaver : ProcessSketch
weaver = process (codes "wv") (codes "weave") (pos 3 ∷ pos 3 ∷ [])

abbrev pub sink : ProcessSketch
sink = process (codes "snk") (codes "sink") (pos 6 ∷ [])

abbrev pub sketch : Sketch
sketch =
    record {
      version = pos 1;
      budget = pos 10000;
      step = pos 1;
      processes = source ∷ copier ∷ weaver ∷ sink ∷ [];
      channels =
          channel (codes "c0") (codes "src") (pos 0) (codes "cp") (pos 0)
          ∷ channel (codes "c1") (codes "cp") (pos 0) (codes "wv") (pos 0)
          ∷ channel (codes "c2") (codes "cp") (pos 1) (codes "wv") (pos 1)
          ∷ channel (codes "c3") (codes "wv") (pos 0) (codes "snk") (pos 0)
          ∷ [];
    }

abbrev pub parks : Network
parks = net_of named sketch

-- a deadlock, after a growth of the right branch
abbrev pub parks_digest : Digest
parks_digest =
    record {
      cause = Deadlock;
      places = Stopped ∷ Reads 0 ∷ Reads 1 ∷ Stopped ∷ [];
      steps = 4 ∷ 9 ∷ 12 ∷ 7 ∷ [];
      capacities = 1 ∷ 1 ∷ 2 ∷ 1 ∷ [];
      streams = one_to_three ∷ one_to_three ∷ one_to_three ∷ one_to_three_twice ∷ [];
      rests = [] ∷ [] ∷ [] ∷ [] ∷ [];
      growths = (2, 2) ∷ [];
      entries = 33;
    }

-- the network with capacity two in the right branch from the start
abbrev pub roomy : Network
roomy = resized parks (λ c. if c == 2 then 2 else 1)

-- its end: that deadlock, without a growth
abbrev pub roomy_digest : Digest
roomy_digest = record parks_digest { growths = []; entries = 32 }
