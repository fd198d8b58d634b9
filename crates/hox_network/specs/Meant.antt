-- The sketch that a description means.
use Rattle.std.specs.Prelude.{◌≡◌, ℕ, Bool, List, Result}
use Rattle.kpn_model.specs.declared.kinds.Kinds.{Ghosts as KindsOf}
use Rattle.kpn_front.specs.Names.{KindNames, Signatures}
use Rattle.kpn_front.specs.declared.streams.Source.{Ghosts as SourceOf}
use Rattle.kpn_sketch.specs.declared.sketch.Delay.{Delay}
use Rattle.kpn_sketch.specs.declared.sketch.Delayed.{Delayed}
use Rattle.kpn_sketch.specs.declared.sketch.Sketch.{Sketch}
use Rattle.kpn_sketch.specs.declared.fault.NetFault.{NetFault}
use Rattle.kpn_sketch.specs.Description.{DescribesDelayed, delayed_of}
use Rattle.kpn_model.specs.Network.{Network}
use Rattle.kpn_front.specs.Loading.{LoadsChanged, LoadsFrom}
use Rattle.hox_network.specs.Formulas.{IsWrittenOut, WritesOut}
use Rattle.hox_network.specs.Budgets.{with_greatest_budget}
use Rattle.hox_network.specs.Signs.{with_signs}
use Rattle.hox_network.specs.Delays.{with_delays}
use Rattle.hox_network.specs.Copies.{with_copies}
use Rattle.hox_network.specs.Ports.{by_ports}

module _ (named : KindNames) (signature : Signatures) where
  -- signed kinds and start tokens, then delays
  abbrev signed_and_delayed : Sketch → List Delay → Sketch
  signed_and_delayed sketch delays = with_delays named signature delays (with_signs named signature sketch)

  -- signed kinds and start tokens, then delays, then copies, then the sorts of ports
  abbrev pub completed : Sketch → List Delay → Sketch
  completed sketch delays = by_ports named signature (with_copies named signature (signed_and_delayed sketch delays))

  -- the default budget, and then the rest
  abbrev pub as_meant : List ℕ → Delayed → Sketch
  as_meant text described = completed (with_greatest_budget text described.sketch) described.delays

  -- what is meant once `write` has written the formulas out as cards
  abbrev meant_once_written : List ℕ → (Delayed → Delayed) → Delayed → Sketch
  meant_once_written text write described = as_meant text (write described)

  -- what is loaded of a text: its formulas are written out as cards, then the rest
  pub record LoadsMeant (failed : Bool) (text : List ℕ) (loaded : Result Network NetFault) : Type 0 where
    pub write : Delayed → Delayed
    pub out : WritesOut text write
    pub loads : LoadsChanged delayed_of (meant_once_written text write) named signature failed text loaded

  -- the sketch that a text means
  pub record IsSketchOf (text : List ℕ) (sketch : Sketch) : Type 0 where
    pub described : Delayed
    pub written : Delayed
    pub describes : DescribesDelayed text described
    pub out : IsWrittenOut described written
    pub meant : sketch ≡ as_meant text written

-- a source before and after a description is read from it
module _ {K S : Type 0} (kinds : KindsOf K) (source : SourceOf S) (before after : S) where
  -- what is loaded of a text
  abbrev LoadsByKinds : Bool → List ℕ → Result Network NetFault → Type 0
  LoadsByKinds failed text loaded = LoadsMeant kinds.named kinds.signature failed text loaded

  -- what is loaded of the source
  abbrev pub LoadsSource : Result Network NetFault → Type 0
  LoadsSource result = LoadsFrom LoadsByKinds source.is_steady source.has_failed source.remaining before after result
