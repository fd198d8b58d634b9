-- The parts that a builder adds to a sketch.
use Rattle.std.specs.Prelude.{◌≡◌, ◌++◌, ℕ, ℤ, pos, List, [], ◌∷◌, Result, OnOk, OnErr}
use Rattle.kpn_model.specs.declared.limits.TheConstants.{DEFAULT_BUDGET}
use Rattle.kpn_sketch.specs.declared.sketch.Sketch.{Sketch}
use Rattle.kpn_sketch.specs.declared.sketch.ProcessSketch.{ProcessSketch}
use Rattle.kpn_sketch.specs.declared.sketch.ChannelSketch.{ChannelSketch}
use Rattle.kpn_builder.specs.declared.builder.NewChannel.{NewChannel}

abbrev pub process_of : List ℕ → List ℕ → List ℤ → ProcessSketch
process_of name kind args = record { name = name; kind = kind; args = args }

abbrev pub channel_of : NewChannel → ChannelSketch
channel_of c =
    record {
      name = c.name.now;
      from = c.from.now;
      to = c.to.now;
      out = c.out;
      input = c.input;
      sort = c.sort;
      capacity = c.capacity;
      tokens = c.tokens.now;
    }

-- the description with which a builder begins
abbrev pub blank_sketch : Sketch
blank_sketch = record { version = pos 2; budget = pos DEFAULT_BUDGET; step = pos 1; processes = []; channels = [] }

-- the sketch with one more process or channel, after all others
abbrev pub adding_process : Sketch → ProcessSketch → Sketch
adding_process s p = record s { processes = s.processes ++ p ∷ [] }

abbrev pub adding_channel : Sketch → ChannelSketch → Sketch
adding_channel s c = record s { channels = s.channels ++ c ∷ [] }

-- the sketch has grown to another one, or it was refused memory and is what it was
pub record GrowsTo {X E : Type 0} (grown before after : Sketch) (result : Result X E) : Type 0 where
  pub added : OnOk result (after ≡ grown)
  pub refused : OnErr result (after ≡ before)
