-- Runs of a network that is fed and drained from outside.
use Rattle.std.specs.Prelude.{◌≡◌, ℕ, ◌<◌, ◌==◌, if◌then◌else◌, List, [], ◌∷◌, length}
use Rattle.kpn_model.specs.declared.token.Token.{Token}
use Rattle.kpn_model.specs.declared.history.Entry.{Entry}
use Rattle.kpn_model.specs.Network.{Family, Network}
use Rattle.kpn_model.specs.Semantics.{State, tokens, capacity, with_token, without_first, Transition}

-- an entry; or a token that came into a channel from outside, or left one
pub data Event : Type 0 where
  Went : Entry → Event
  Fed : ℕ → Token → Event
  Drained : ℕ → Token → Event

module _ (kinds : Family) (net : Network) where
  -- a token comes in only if there is room, and leaves in first-in, first-out order
  abbrev pub Happens : State → Event → State → Type 0
  Happens M (Went e) N = Transition kinds net M e N
  Happens M (Fed c t) N = (c < length M.channels) × (length (tokens M c) < capacity M c) × (N ≡ with_token M c t)
  Happens M (Drained c t) N = ((rest : List Token) × (tokens M c ≡ t ∷ rest)) × (N ≡ without_first M c)

  -- the events lead from M to N, one after another
  abbrev pub Flows : State → List Event → State → Type 0
  Flows M [] N = N ≡ M
  Flows M (x ∷ xs) N = (mid : State) × Happens M x mid × Flows mid xs N

abbrev pub entries_of : List Event → List Entry
entries_of [] = []
entries_of (Went e ∷ xs) = e ∷ entries_of xs
entries_of (Fed c t ∷ xs) = entries_of xs
entries_of (Drained c t ∷ xs) = entries_of xs

-- the tokens that came into c from outside, in order
abbrev pub fed : List Event → ℕ → List Token
fed [] c = []
fed (Went e ∷ xs) c = fed xs c
fed (Fed b t ∷ xs) c = if b == c then t ∷ fed xs c else fed xs c
fed (Drained b t ∷ xs) c = fed xs c

-- the tokens that left c for the outside, in order
abbrev pub drained : List Event → ℕ → List Token
drained [] c = []
drained (Went e ∷ xs) c = drained xs c
drained (Fed b t ∷ xs) c = drained xs c
drained (Drained b t ∷ xs) c = if b == c then t ∷ drained xs c else drained xs c
