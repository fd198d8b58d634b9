-- A stream at its start, and why one is not opened.
use Rattle.std.specs.Prelude.{◌≡◌, ◌≢◌, ◌<◌, ◌||◌, ℕ, Bool, true, false, not, List, [], length, map, get_or, slice_get, option_map, Option, Some, None}
use Rattle.std.specs.List.{list_any}
use Rattle.kpn_model.specs.declared.kinds.Card.{Card}
use Rattle.kpn_model.specs.declared.kinds.Signature.{Signature}
use Rattle.kpn_model.specs.declared.parts.Channel.{Channel}
use Rattle.kpn_model.specs.declared.parts.Process.{Process}
use Rattle.kpn_model.specs.declared.kinds.Kinds.{Ghosts as KindsOf}
use Rattle.kpn_model.specs.Families.{family}
use Rattle.kpn_model.specs.Network.{Family, Network, channel_of, number_of_channel}
use Rattle.kpn_model.specs.Semantics.{start}
use Rattle.kpn_sketch.specs.declared.fault.NetFault.{NetFault}
use Rattle.kpn_sketch.specs.declared.fault.NetFault.TheVariants.{Memory as NoMemoryForNet}
use Rattle.kpn_sketch.specs.declared.sketch.Sketch.{Sketch}
use Rattle.kpn_compute.specs.Both.{both_family, both_named, both_ports}
use Rattle.kpn_net.specs.Faults.{first_fault}
use Rattle.kpn_net.specs.Sketched.{net_of}
use Rattle.kpn_flow.specs.Ends.{AreApart, has_twice, is_no_channel, stops_at_once}
use Rattle.kpn_flow.specs.Flows.{FlowView, AreEnds, is_among, nothing_counted}
use Rattle.hox_stream.specs.Exits.{exit_named, exit_ports, exits, with_exits}
use Rattle.hox_stream.specs.declared.starting.Way.{Way}
use Rattle.hox_stream.specs.declared.starting.Way.TheVariants.{In, Out}
use Rattle.hox_stream.specs.declared.starting.NameFault.{NameFault}
use Rattle.hox_stream.specs.declared.starting.NameFault.TheVariants.{NoChannel, Busy, Memory as NoMemory}
use Rattle.hox_stream.specs.declared.starting.StreamFault.{StreamFault}
use Rattle.hox_stream.specs.declared.starting.StreamFault.TheVariants.{Description, Input, Output, Twice, Memory}

-- the channels of these names, in order
abbrev pub AreNamed : Network → List (List ℕ) → List ℕ → Type 0
AreNamed net names channels = map (number_of_channel net) names ≡ map Some channels

abbrev pub IsNameOf : Network → ℕ → List ℕ → Type 0
IsNameOf net p name = option_map (λ (x : Process). x.name) (slice_get net.processes p) ≡ Some name

abbrev pub cards_in : Network → List Card
cards_in net = map (λ (x : Process). x.card) net.processes

-- the process at the outer end: the writer of a channel that is fed, the reader of one that is drained
abbrev pub outer_process : Way → Channel → ℕ
outer_process In c = c.writer
outer_process Out c = c.reader

abbrev pub is_twice : List ℕ → List ℕ → Bool
is_twice inputs outputs = (has_twice inputs || has_twice outputs) || list_any (is_among outputs) inputs

-- some channel stands twice among these
abbrev pub AreTwice : List ℕ → List ℕ → Type 0
AreTwice inputs outputs = is_twice inputs outputs ≡ true

-- a flow at the start of its network, with these inputs and outputs, all different
pub record IsStart (kinds : Family) (s : FlowView) (inputs outputs : List ℕ) : Type 0 where
  pub state : s.state ≡ start kinds s.network
  pub inputs_are : inputs ≡ s.inputs
  pub outputs_are : outputs ≡ s.outputs
  pub apart : AreApart inputs outputs

abbrev pub IsNoNetwork : (List ℕ → Option (ℕ × ℕ)) → (Card → Option Signature) → Sketch → NetFault → Type 0
IsNoNetwork named ports sketch fault = fault ≢ NoMemoryForNet → first_fault named ports sketch ≡ Some fault

-- why a flow with these inputs and outputs is not opened
abbrev pub IsStartFault : List ℕ → List ℕ → StreamFault → Type 0
IsStartFault inputs outputs Twice = is_twice inputs outputs ≡ true
IsStartFault inputs outputs Memory = Unit {0}
IsStartFault inputs outputs (Description fault) = ⊥
IsStartFault inputs outputs (Input fault) = ⊥
IsStartFault inputs outputs (Output fault) = ⊥

module _ (kinds : Family) (net : Network) where
  -- the process at the outer end of c does more than stop
  abbrev pub is_busy : Way → ℕ → Bool
  is_busy way c = not (stops_at_once kinds (cards_in net) (outer_process way (channel_of net c)))

  -- these are the cards of its processes; each input can be fed, each output drained
  pub record MayFlow (held : List Card) (ins outs : List ℕ) : Type 0 where
    pub cards : held ≡ cards_in net
    pub inputs : list_any (is_no_channel net) ins ≡ false
    pub outputs : list_any (is_no_channel net) outs ≡ false
    pub fed : list_any (is_busy In) ins ≡ false
    pub drained : list_any (is_busy Out) outs ≡ false

  -- the flow is at the start of the network; only the outside is at its ends
  pub record IsFresh (s : FlowView) : Type 0 where
    pub network : s.network ≡ net
    pub state : s.state ≡ start kinds net
    pub unended : s.unended ≡ s.inputs
    pub counts : s.counts ≡ nothing_counted
    pub ends : AreEnds kinds net s.inputs s.outputs

  -- and its inputs are the channels of the first names, its outputs those of the others
  pub record IsStarted (fed drained : List (List ℕ)) (s : FlowView) : Type 0 where
    pub fresh : IsFresh s
    pub inputs : AreNamed net fed s.inputs
    pub outputs : AreNamed net drained s.outputs

  -- c is the channel of name k; and this is the name of the process at its outer end
  abbrev pub NamesChannel : List (List ℕ) → ℕ → ℕ → Type 0
  NamesChannel names k c = number_of_channel net (get_or names k []) ≡ Some c

  abbrev pub IsOuterName : Way → ℕ → List ℕ → Type 0
  IsOuterName way c name = IsNameOf net (outer_process way (channel_of net c)) name

  -- why the channel of one of these names can't be fed or drained
  abbrev pub IsNameFault : Way → List (List ℕ) → NameFault → Type 0
  IsNameFault way names (NoChannel k) = (k < length names) × (number_of_channel net (get_or names k []) ≡ None)
  IsNameFault way names (Busy k name) =
      (k < length names) × ((c : ℕ) × NamesChannel names k c × (is_busy way c ≡ true) × IsOuterName way c name)
  IsNameFault way names NoMemory = Unit {0}

  -- why a stream is not opened
  abbrev pub IsStreamFault : (NetFault → Type 0) → List (List ℕ) → List (List ℕ) → StreamFault → Type 0
  IsStreamFault no_network fed drained (Description fault) = no_network fault
  IsStreamFault no_network fed drained (Input fault) = IsNameFault In fed fault
  IsStreamFault no_network fed drained (Output fault) = IsNameFault Out drained fault
  IsStreamFault no_network fed drained Twice =
      (inputs outputs : List ℕ) × AreNamed net fed inputs × AreNamed net drained outputs × AreTwice inputs outputs
  IsStreamFault no_network fed drained Memory = Unit {0}

-- the kinds together with exits
module _ {X : Type 0} (kinds : KindsOf X) where
  abbrev pub named_with_exits : List ℕ → Option (ℕ × ℕ)
  named_with_exits = both_named kinds.named exit_named

  abbrev pub ports_with_exits : Card → Option Signature
  ports_with_exits = both_ports kinds.signature exit_ports

  abbrev pub family_with_exits : Family
  family_with_exits = both_family (family kinds) exits

module _ {X : Type 0} (kinds : KindsOf X) (sketch : Sketch) where
  -- the network in which processes that only read channels of these names are exits; and why there is none
  abbrev pub net_with_exits : List (List ℕ) → Network
  net_with_exits names = net_of (named_with_exits kinds) (with_exits names sketch)

  abbrev pub HasNoNetWithExits : List (List ℕ) → NetFault → Type 0
  HasNoNetWithExits names fault =
      IsNoNetwork (named_with_exits kinds) (ports_with_exits kinds) (with_exits names sketch) fault

  -- a stream of that network is opened; and why none is
  abbrev pub OpensStream : List (List ℕ) → List (List ℕ) → FlowView → Type 0
  OpensStream fed drained s =
      IsStarted (family_with_exits kinds) (net_with_exits drained) fed drained s

  abbrev pub OpensNoStream : List (List ℕ) → List (List ℕ) → StreamFault → Type 0
  OpensNoStream fed drained fault =
      IsStreamFault (family_with_exits kinds) (net_with_exits drained) (HasNoNetWithExits drained) fed drained fault
