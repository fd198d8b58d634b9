-- Feeding a run in pieces equals having all tokens from the start.
use Rattle.std.specs.Prelude.{◌≡◌, ℕ, ◌+◌, ◌<◌, ◌≤◌, Bool, true, false, List, [], ◌∷◌, ◌++◌, None, length}
use Rattle.kpn_model.specs.declared.token.Token.{Token}
use Rattle.kpn_model.specs.declared.parts.Channel.{Channel}
use Rattle.kpn_model.specs.declared.kinds.Act.TheVariants.{Stop}
use Rattle.kpn_model.specs.declared.history.Entry.{Entry}
use Rattle.kpn_model.specs.declared.history.Entry.TheVariants.{Did, Grew}
use Rattle.kpn_model.specs.Network.{Family, Network, card_of, channel_of}
use Rattle.kpn_model.specs.Semantics.{State, tokens, start, IsRun}
use Rattle.kpn_model.specs.History.{put_on}
use Rattle.kpn_flow.specs.Events.{Event, Went, Fed, Drained, Flows, entries_of, fed, drained}

-- the channel with these tokens too, and this capacity
abbrev pub refilled : Channel → List Token → ℕ → Channel
refilled l more size = record l { tokens = l.tokens ++ more; capacity = size }

-- the channels with more start tokens and other capacities
abbrev pub preload : List Channel → (ℕ → List Token) → (ℕ → ℕ) → List Channel
preload [] more sizes = []
preload (l ∷ ls) more sizes = refilled l (more 0) (sizes 0) ∷ preload ls (λ c. more (c + 1)) (λ c. sizes (c + 1))

abbrev pub preloaded : Network → (ℕ → List Token) → (ℕ → ℕ) → Network
preloaded net more sizes = record net { channels = preload net.channels more sizes }

abbrev pub without_growths : List Entry → List Entry
without_growths [] = []
without_growths (Did p d ∷ es) = Did p d ∷ without_growths es
without_growths (Grew c to ∷ es) = without_growths es

abbrev pub StopsAtOnce : Family → Network → ℕ → Type 0
StopsAtOnce kinds net p = (kinds.answer (card_of net p) (kinds.start (card_of net p)) None).act ≡ Stop

-- tokens come only into inputs, and leave only outputs
abbrev pub IsAtEnds : (ℕ → Bool) → (ℕ → Bool) → List Event → Type 0
IsAtEnds ins outs [] = Unit {0}
IsAtEnds ins outs (Went e ∷ xs) = IsAtEnds ins outs xs
IsAtEnds ins outs (Fed c t ∷ xs) = (ins c ≡ true) × IsAtEnds ins outs xs
IsAtEnds ins outs (Drained c t ∷ xs) = (outs c ≡ true) × IsAtEnds ins outs xs

-- what is fed, and what will be
abbrev pub all_fed : List Event → (ℕ → List Token) → ℕ → List Token
all_fed xs later c = fed xs c ++ later c

-- the network that holds from the start what is fed and what will be
abbrev pub fed_ahead : Network → List Event → (ℕ → List Token) → (ℕ → ℕ) → Network
fed_ahead net xs later sizes = preloaded net (all_fed xs later) sizes

abbrev pub only_deeds : List Event → List Entry
only_deeds xs = without_growths (entries_of xs)

-- how many tokens are ever on c
abbrev pub ever_on : Network → List Event → (ℕ → List Token) → ℕ → ℕ
ever_on net xs later c =
    length (channel_of net c).tokens + length (all_fed xs later c) + length (put_on (entries_of xs) c)

-- each channel has room for all that is ever on it
abbrev pub HasRoomForAll : Network → List Event → (ℕ → List Token) → (ℕ → ℕ) → Type 0
HasRoomForAll net xs later sizes = (c : ℕ) → c < length net.channels → ever_on net xs later c ≤ sizes c

module _ (kinds : Family) (net : Network) (xs : List Event) where
  -- only the outside writes to inputs and reads from outputs, and each channel has room for all that is ever on
  -- it
  pub record IsOpenRun (later : ℕ → List Token) (sizes : ℕ → ℕ) : Type 0 where
    pub ins : ℕ → Bool
    pub outs : ℕ → Bool
    pub inputs : (c : ℕ) → ins c ≡ true → (c < length net.channels) × StopsAtOnce kinds net (channel_of net c).writer
    pub outputs : (c : ℕ) → outs c ≡ true → StopsAtOnce kinds net (channel_of net c).reader
    pub at_ends : IsAtEnds ins outs xs
    pub later_inputs : (c : ℕ) → ins c ≡ false → later c ≡ []
    pub room : HasRoomForAll net xs later sizes

module _ (kinds : Family) (net : Network) (xs : List Event) (M : State) where
  -- the deeds are a run of the network that held all the tokens from the start; each process has the same
  -- state, and each channel what left it, what is there and what is to come
  pub record IsOneRun (later : ℕ → List Token) (sizes : ℕ → ℕ) : Type 0 where
    pub state : State
    pub run : IsRun kinds (fed_ahead net xs later sizes) (only_deeds xs) state
    pub processes : state.processes ≡ M.processes
    pub tokens_are : (c : ℕ) → tokens state c ≡ (drained xs c ++ tokens M c) ++ later c

abbrev pub FeedingIsPreloading : Family → Type 0
FeedingIsPreloading kinds =
    (net : Network) (xs : List Event) (M : State) (later : ℕ → List Token) (sizes : ℕ → ℕ)
    → Flows kinds net (start kinds net) xs M → IsOpenRun kinds net xs later sizes → IsOneRun kinds net xs M later sizes
