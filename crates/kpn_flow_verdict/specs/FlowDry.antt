-- What is dry in a flow that can't be helped from outside stays dry.
use Rattle.std.specs.Prelude.{◌≡◌, ℕ, List, []}
use Rattle.kpn_model.specs.Network.{Family, Network}
use Rattle.kpn_model.specs.Semantics.{State}
use Rattle.kpn_model.specs.History.{deeds, put_on}
use Rattle.kpn_flow.specs.Events.{Event, Flows, entries_of}
use Rattle.kpn_flow.specs.Flows.{is_among}
use Rattle.kpn_flow.specs.Pauses.{NoneCanHelp}
use Rattle.kpn_flow.specs.Preloaded.{IsAtEnds}
use Rattle.kpn_dry.specs.Dry.{IsComplete, IsDry}

module _ (kinds : Family) (net : Network) (unended outputs : List ℕ) where
  -- events at the ends that are left lead from M to N
  pub record GoesOn (M : State) (xs : List Event) (N : State) : Type 0 where
    pub flows : Flows kinds net M xs N
    pub at_ends : IsAtEnds (is_among unended) (is_among outputs) xs

-- if no process waits for a token from outside, whatever is fed and drained later: what is dry stays so, and does
-- nothing more
abbrev pub DryStaysDryInFlow : Family → Type 0
DryStaysDryInFlow kinds =
    (net : Network) (unended outputs : List ℕ) (M N : State) (xs : List Event) (p : ℕ)
    → NoneCanHelp kinds net unended outputs M → GoesOn kinds net unended outputs M xs N
    → IsDry kinds net M p → IsDry kinds net N p × (deeds (entries_of xs) p ≡ [])

-- and nothing more is put on a channel that is complete
abbrev pub CompleteStaysInFlow : Family → Type 0
CompleteStaysInFlow kinds =
    (net : Network) (unended outputs : List ℕ) (M N : State) (xs : List Event) (c : ℕ)
    → NoneCanHelp kinds net unended outputs M → GoesOn kinds net unended outputs M xs N
    → IsComplete kinds net M c → put_on (entries_of xs) c ≡ []
