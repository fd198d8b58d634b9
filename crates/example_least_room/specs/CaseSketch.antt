-- The description of Parks's case with a counter of five.
use Rattle.std.specs.Prelude.{ℕ, ℤ, pos, codes, List, [], ◌∷◌}
use Rattle.kpn_model.specs.declared.token.Sort.TheVariants.{Words}
use Rattle.kpn_sketch.specs.declared.sketch.ProcessSketch.{ProcessSketch}
use Rattle.kpn_sketch.specs.declared.sketch.ChannelSketch.{ChannelSketch}
use Rattle.kpn_sketch.specs.declared.sketch.Sketch.{Sketch}

abbrev pub process_sketch : List ℕ → List ℕ → List ℤ → ProcessSketch
process_sketch name kind args = record { name = name; kind = kind; args = args }

-- a channel of words with capacity one
abbrev pub channel_sketch : List ℕ → List ℕ → ℤ → List ℕ → ℤ → ChannelSketch
channel_sketch name from out to input =
    record {
      name = name;
      from = from;
      to = to;
      out = out;
      input = input;
      sort = Words;
      capacity = pos 1;
      tokens = [];
    }

abbrev pub case_processes : List ProcessSketch
case_processes =
    process_sketch (codes "src") (codes "count") (pos 1 ∷ pos 5 ∷ [])
    ∷ process_sketch (codes "cp") (codes "copy") []
    ∷ process_sketch (codes "wv") (codes "weave") (pos 3 ∷ pos 3 ∷ [])
    ∷ process_sketch (codes "snk") (codes "sink") (pos 8 ∷ [])
    ∷ []

abbrev pub case_channels : List ChannelSketch
case_channels =
    channel_sketch (codes "c0") (codes "src") (pos 0) (codes "cp") (pos 0)
    ∷ channel_sketch (codes "c1") (codes "cp") (pos 0) (codes "wv") (pos 0)
    ∷ channel_sketch (codes "c2") (codes "cp") (pos 1) (codes "wv") (pos 1)
    ∷ channel_sketch (codes "c3") (codes "wv") (pos 0) (codes "snk") (pos 0)
    ∷ []

abbrev pub case_sketch : Sketch
case_sketch =
    record {
      version = pos 1;
      budget = pos 10000;
      step = pos 1;
      processes = case_processes;
      channels = case_channels;
    }
