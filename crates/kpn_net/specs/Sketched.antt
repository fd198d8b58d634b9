-- The network of a sketch.
use Rattle.std.specs.Prelude.{ℕ, List, map, Option, unsigned_abs, unwrap_or, position, ◌≡◌, ◌≢◌, Some, None}
use Rattle.std.specs.Str.{bytes_eq}
use Rattle.kpn_model.specs.declared.token.Token.{Token}
use Rattle.kpn_model.specs.declared.token.Token.TheVariants.{Word, Flag}
use Rattle.kpn_sketch.specs.declared.sketch.TokenSketch.{TokenSketch}
use Rattle.kpn_sketch.specs.declared.sketch.TokenSketch.TheVariants.{Integer, Boolean, Word as GivenWord}
use Rattle.kpn_sketch.specs.declared.sketch.ProcessSketch.{ProcessSketch}
use Rattle.kpn_sketch.specs.declared.sketch.ChannelSketch.{ChannelSketch}
use Rattle.kpn_sketch.specs.declared.sketch.Sketch.{Sketch}
use Rattle.kpn_model.specs.declared.parts.Process.{Process}
use Rattle.kpn_model.specs.declared.parts.Channel.{Channel}
use Rattle.kpn_model.specs.Network.{Network}
use Rattle.kpn_model.specs.declared.kinds.Card.{Card}
use Rattle.kpn_model.specs.declared.kinds.Signature.{Signature}
use Rattle.kpn_sketch.specs.declared.fault.NetFault.{NetFault}
use Rattle.kpn_sketch.specs.declared.fault.NetFault.TheVariants.{Memory}
use Rattle.kpn_net.specs.Faults.{card_with, first_fault}
use Rattle.kpn_model.specs.texts.Version.{ceiling_in}

abbrev pub index_of : List ProcessSketch → List ℕ → ℕ
index_of processes name = unwrap_or (position (λ p. bytes_eq p.name name) processes) 0

abbrev pub process_in : (List ℕ → Option (ℕ × ℕ)) → ProcessSketch → Process
process_in named p = record { name = p.name; card = card_with (unwrap_or (named p.kind) (0, 0)).0 p.args }

abbrev pub token_in : TokenSketch → Token
token_in (Integer z) = Word (unsigned_abs z)
token_in (Boolean b) = Flag b
token_in (GivenWord w) = Word w

abbrev pub channel_in : List ProcessSketch → ChannelSketch → Channel
channel_in processes c = record {
  name = c.name;
  writer = index_of processes c.from;
  out = unsigned_abs c.out;
  reader = index_of processes c.to;
  input = unsigned_abs c.input;
  sort = c.sort;
  capacity = unsigned_abs c.capacity;
  tokens = map token_in c.tokens;
}

-- the network of a sketch without a fault
abbrev pub net_of : (List ℕ → Option (ℕ × ℕ)) → Sketch → Network
net_of named s = record {
  processes = map (process_in named) s.processes;
  channels = map (channel_in s.processes) s.channels;
  budget = unsigned_abs s.budget;
  step = unsigned_abs s.step;
  ceiling = ceiling_in s.version;
}

module _ (named : List ℕ → Option (ℕ × ℕ)) (signature : Card → Option Signature) (sketch : Sketch) where
  -- the sketch has no fault, and the network is the sketch's
  abbrev pub IsNetOfSketch : Network → Type 0
  IsNetOfSketch net = (first_fault named signature sketch ≡ None) × (net ≡ net_of named sketch)

  -- the fault is the first of the sketch, unless memory is missing
  abbrev pub IsSketchFault : NetFault → Type 0
  IsSketchFault fault = fault ≢ Memory → first_fault named signature sketch ≡ Some fault
