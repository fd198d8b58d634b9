-- A flow that is fed and drained in pieces.
use Rattle.std.specs.Prelude.{◌≡◌, ℕ, true, false, List, [], ◌++◌}
use Rattle.kpn_model.specs.declared.token.Token.{Token}
use Rattle.kpn_model.specs.Network.{Family, Network}
use Rattle.kpn_model.specs.Semantics.{State, status, tokens, start, IsQuiet, IsBlocked}
use Rattle.kpn_model.specs.History.{stream, ArePrefixComparable}
use Rattle.kpn_laws.specs.StreamsOfRun.{ApproachLeastSolution}
use Rattle.kpn_flow.specs.Events.{Event, Flows, fed, drained}
use Rattle.kpn_flow.specs.Preloaded.{IsAtEnds, all_fed, fed_ahead, only_deeds, HasRoomForAll, IsOneRun}
use Rattle.kpn_flow.specs.Flows.{FlowView, is_among, AreEnds}

module _ (kinds : Family) (net : Network) (outputs : List ℕ) (xs : List Event) (M : State) where
  -- the stream of c is what left it, what is there and what is to come
  abbrev pub StreamIsGiven : (ℕ → List Token) → (ℕ → ℕ) → ℕ → Type 0
  StreamIsGiven later sizes c =
      stream (fed_ahead net xs later sizes) (only_deeds xs) c ≡ (drained xs c ++ tokens M c) ++ later c

  -- the deeds are a run of the network that held all the tokens from the start; its stream on each output is
  -- what left it, what is there and what is to come; its streams approach the least solution (Kahn 1974)
  pub record IsOneRunWithStreams (later : ℕ → List Token) (sizes : ℕ → ℕ) : Type 0 where
    pub one : IsOneRun kinds net xs M later sizes
    pub outputs_are : (c : ℕ) → is_among outputs c ≡ true → StreamIsGiven later sizes c
    pub approach : ApproachLeastSolution kinds (fed_ahead net xs later sizes) (only_deeds xs) one.state

-- whatever events led to the flow's state, and whatever is to come, the deeds are a run of the network that
-- held all those tokens from the start
abbrev pub IsOneRunInPieces : Family → FlowView → Type 0
IsOneRunInPieces kinds s =
    (xs : List Event) (later : ℕ → List Token) (sizes : ℕ → ℕ)
    → Flows kinds s.network (start kinds s.network) xs s.state → IsAtEnds (is_among s.inputs) (is_among s.outputs) xs
    → ((c : ℕ) → is_among s.inputs c ≡ false → later c ≡ [])
    → HasRoomForAll s.network xs later sizes
    → IsOneRunWithStreams kinds s.network s.outputs xs s.state later sizes

module _ (kinds : Family) (net : Network) (inputs outputs : List ℕ) (xs : List Event) (M : State) where
  -- a way: events lead to M, and this is to come into the inputs
  pub record IsWay (later : ℕ → List Token) : Type 0 where
    pub flows : Flows kinds net (start kinds net) xs M
    pub at_ends : IsAtEnds (is_among inputs) (is_among outputs) xs
    pub later_inputs : (c : ℕ) → is_among inputs c ≡ false → later c ≡ []

-- if two ways bring the same into the inputs in the end, what left an output and what is in it is
-- prefix-comparable
abbrev pub PiecesAreComparable : Family → Type 0
PiecesAreComparable kinds =
    (net : Network) (inputs outputs : List ℕ)
    → AreEnds kinds net inputs outputs → (xs ys : List Event) (M N : State) (later last : ℕ → List Token)
    → IsWay kinds net inputs outputs xs M later → IsWay kinds net inputs outputs ys N last
    → ((c : ℕ) → all_fed xs later c ≡ all_fed ys last c)
    → (c : ℕ) → is_among outputs c ≡ true → is_among inputs c ≡ false
    → ArePrefixComparable (drained xs c ++ tokens M c) (drained ys c ++ tokens N c)

-- no process can continue, and none waits for room: nothing more is done unless more is fed
pub record IsExhausted (kinds : Family) (net : Network) (M : State) : Type 0 where
  pub quiet : IsQuiet kinds net M
  pub none_blocked : (p c : ℕ) → IsBlocked kinds net M p c → ⊥

-- the same left each output and is in it, and each process has the same status
pub record HaveGivenTheSame (outputs : List ℕ) (xs ys : List Event) (M N : State) : Type 0 where
  pub outputs_are : (c : ℕ) → is_among outputs c ≡ true → drained xs c ++ tokens M c ≡ drained ys c ++ tokens N c
  pub statuses : (p : ℕ) → status M p ≡ status N p

-- if two ways are exhausted after the same was fed, they have given the same
abbrev pub ExhaustedAreTheSame : Family → Type 0
ExhaustedAreTheSame kinds =
    (net : Network) (inputs outputs : List ℕ) → AreEnds kinds net inputs outputs → (xs ys : List Event) (M N : State)
    → Flows kinds net (start kinds net) xs M → IsAtEnds (is_among inputs) (is_among outputs) xs
    → IsExhausted kinds net M
    → Flows kinds net (start kinds net) ys N → IsAtEnds (is_among inputs) (is_among outputs) ys
    → IsExhausted kinds net N
    → ((c : ℕ) → fed xs c ≡ fed ys c) → HaveGivenTheSame outputs xs ys M N
