-- Which channels may be fed and drained.
use Rattle.std.specs.Prelude.{◌≡◌, ℕ, ◌&&◌, ◌||◌, Bool, true, false, not, List, [], ◌∷◌, Option, Some, None, map, get_or, if◌then◌else◌}
use Rattle.std.specs.List.{list_any}
use Rattle.kpn_model.specs.declared.kinds.Card.{Card}
use Rattle.kpn_model.specs.declared.kinds.Act.{Act}
use Rattle.kpn_model.specs.declared.kinds.Act.TheVariants.{Read, Write, Stop}
use Rattle.kpn_model.specs.declared.kinds.Kinds.{Ghosts as KindsOf}
use Rattle.kpn_model.specs.Families.{family}
use Rattle.kpn_model.specs.Network.{Family, Network, no_process, channel_of}
use Rattle.kpn_machine.specs.Opening.{cards_of, IsOpenFault}
use Rattle.kpn_machine.specs.declared.opening.OpenFault.TheVariants.{Bodies as WrongBodies, Card as WrongCard, Memory as NoMemory}
use Rattle.kpn_flow.specs.declared.flow.FlowRefused.{FlowRefused}
use Rattle.kpn_flow.specs.declared.ends.FlowFault.{FlowFault}
use Rattle.kpn_flow.specs.declared.ends.FlowFault.TheVariants.{Bodies, Card as OtherCard, Channel, Twice, Writer, Reader, Memory}
use Rattle.kpn_flow.specs.Flows.{is_among}
use Rattle.kpn_flow.specs.Waits.{is_channel}

abbrev pub is_stop : Act → Bool
is_stop (Read k) = false
is_stop (Write k t) = false
is_stop Stop = true

abbrev pub nth_card : List Card → ℕ → Card
nth_card cards p = get_or cards p no_process.card

-- the process of this number stops at once, if the processes have these cards
abbrev pub stops_at_once : Family → List Card → ℕ → Bool
stops_at_once kinds cards p = is_stop (kinds.answer (nth_card cards p) (kinds.start (nth_card cards p)) None).act

-- the writer of the channel does not stop at once
abbrev pub has_live_writer : Family → Network → List Card → ℕ → Bool
has_live_writer kinds net cards c = is_channel net c && not (stops_at_once kinds cards (channel_of net c).writer)

-- the reader of the channel does not stop at once
abbrev pub has_live_reader : Family → Network → List Card → ℕ → Bool
has_live_reader kinds net cards c = is_channel net c && not (stops_at_once kinds cards (channel_of net c).reader)

abbrev pub is_no_channel : Network → ℕ → Bool
is_no_channel net c = not (is_channel net c)

abbrev pub has_twice : List ℕ → Bool
has_twice [] = false
has_twice (c ∷ cs) = is_among cs c || has_twice cs

-- no channel is twice in one list or in both
pub record AreApart (inputs outputs : List ℕ) : Type 0 where
  pub inputs_once : has_twice inputs ≡ false
  pub outputs_once : has_twice outputs ≡ false
  pub none_in_both : list_any (is_among outputs) inputs ≡ false

-- the first fault of the inputs and outputs
abbrev pub end_fault : Family → Network → List Card → List ℕ → List ℕ → Option FlowFault
end_fault kinds net cards inputs outputs =
    if list_any (is_no_channel net) inputs || list_any (is_no_channel net) outputs then Some Channel
    else if (has_twice inputs || has_twice outputs) || list_any (is_among outputs) inputs then Some Twice
    else if list_any (has_live_writer kinds net cards) inputs then Some Writer
    else if list_any (has_live_reader kinds net cards) outputs then Some Reader
    else None

module _ (kinds : Family) (net : Network) (cards : List Card) (inputs outputs : List ℕ) where
  -- all is right, but memory is short
  abbrev pub IsOnlyMemory : Type 0
  IsOnlyMemory = IsOpenFault net.processes cards NoMemory × (end_fault kinds net cards inputs outputs ≡ None)

  -- the bodies are right, and this is the first fault of the inputs and outputs
  abbrev pub HasEndFault : FlowFault → Type 0
  HasEndFault fault = (cards ≡ cards_of net.processes) × (end_fault kinds net cards inputs outputs ≡ Some fault)

-- the fault of bodies with these cards, or of the inputs and outputs; none if `Memory`
abbrev pub IsFlowFault : Family → Network → List Card → List ℕ → List ℕ → FlowFault → Type 0
IsFlowFault kinds net cards inputs outputs Bodies = IsOpenFault net.processes cards WrongBodies
IsFlowFault kinds net cards inputs outputs OtherCard = IsOpenFault net.processes cards WrongCard
IsFlowFault kinds net cards inputs outputs Memory = IsOnlyMemory kinds net cards inputs outputs
IsFlowFault kinds net cards inputs outputs Channel = HasEndFault kinds net cards inputs outputs Channel
IsFlowFault kinds net cards inputs outputs Twice = HasEndFault kinds net cards inputs outputs Twice
IsFlowFault kinds net cards inputs outputs Writer = HasEndFault kinds net cards inputs outputs Writer
IsFlowFault kinds net cards inputs outputs Reader = HasEndFault kinds net cards inputs outputs Reader

module _ {X C : Type 0} (kinds : KindsOf X) (net : Network) (card : C → Card) (bodies : List C) where
  -- the writer of some channel in the list does not stop at once
  abbrev pub any_live_writer : List ℕ → Bool
  any_live_writer channels = list_any (has_live_writer (family kinds) net (map card bodies)) channels

  -- the reader of some channel in the list does not stop at once
  abbrev pub any_live_reader : List ℕ → Bool
  any_live_reader channels = list_any (has_live_reader (family kinds) net (map card bodies)) channels

  -- the first fault of the inputs and outputs
  abbrev pub fault_at : List ℕ → List ℕ → Option FlowFault
  fault_at inputs outputs = end_fault (family kinds) net (map card bodies) inputs outputs

  -- the fault of the bodies, or of the inputs and outputs
  abbrev pub IsFaultOf : List ℕ → List ℕ → FlowFault → Type 0
  IsFaultOf inputs outputs fault = IsFlowFault (family kinds) net (map card bodies) inputs outputs fault

  -- this fault comes back with what was refused
  abbrev pub RefusesFlow : {K : Type 0} → List ℕ → List ℕ → FlowRefused C K → Type 0
  RefusesFlow inputs outputs refused = IsFaultOf inputs outputs refused.fault
