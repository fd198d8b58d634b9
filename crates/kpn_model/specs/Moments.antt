-- What holds at each moment of a run.
use Rattle.std.specs.Prelude.{◌≡◌, ◌≢◌, ◌↔◌, ℕ, ◌+◌, ◌<◌, ◌≤◌, List, ◌++◌, length, drop}
use Rattle.kpn_model.specs.declared.history.Deed.{Deed}
use Rattle.kpn_model.specs.declared.history.Entry.{Entry}
use Rattle.kpn_model.specs.declared.history.End.{End}
use Rattle.kpn_model.specs.declared.history.End.TheVariants.{Budget}
use Rattle.kpn_model.specs.Network.{Family, Network, channel_of}
use Rattle.kpn_model.specs.Semantics.{State, tokens, capacity, IsEnabled, Does, Run, start, IsRun}
use Rattle.kpn_model.specs.Endings.{IsOver, MayEnd, IsFinal}
use Rattle.kpn_model.specs.History.{stream, taken, growths, grown}

-- no channel holds more tokens than its capacity
abbrev pub IsWithin : State → Type 0
IsWithin M = (c : ℕ) → length (tokens M c) ≤ capacity M c

-- P holds of the state that each prefix of the history leads to
abbrev pub AtEachMoment : Family → Network → List Entry → (State → Type 0) → Type 0
AtEachMoment kinds net E P = (F G : List Entry) → F ++ G ≡ E → (N : State) × IsRun kinds net F N × P N

abbrev pub OneState : Family → Type 0
OneState kinds = (net : Network) (S M N : State) (E : List Entry) → Run kinds net S E M → Run kinds net S E N → M ≡ N

-- each prefix of a history is a run, to a state from which the rest is one
abbrev pub PrefixesAreRuns : Family → Type 0
PrefixesAreRuns kinds =
    (net : Network) (S N : State) (E F : List Entry)
    → Run kinds net S (E ++ F) N → (M : State) × Run kinds net S E M × Run kinds net M F N

abbrev pub AlwaysWithin : Family → Type 0
AlwaysWithin kinds =
    (net : Network)
    → IsWithin (start kinds net) → (E : List Entry) (M : State) → IsRun kinds net E M → IsWithin M

-- the stream of c is the tokens taken from it, then those that it holds
abbrev pub TakenThenHeld : Network → List Entry → State → ℕ → Type 0
TakenThenHeld net E M c = stream net E c ≡ taken E c ++ tokens M c

-- c holds its stream without the tokens taken
abbrev pub HeldIsRest : Network → List Entry → State → ℕ → Type 0
HeldIsRest net E M c = drop (length (taken E c)) (stream net E c) ≡ tokens M c

-- c has the capacity that it starts with or last grew to
abbrev pub CapacityIsGrown : Network → List Entry → State → ℕ → Type 0
CapacityIsGrown net E M c = grown (channel_of net c).capacity (growths E) c ≡ capacity M c

-- the history determines what each channel holds, and its capacity
abbrev pub HistoryTellsState : Family → Type 0
HistoryTellsState kinds =
    (net : Network) (E : List Entry) (M : State) → IsRun kinds net E M
    → (c : ℕ) → TakenThenHeld net E M c × HeldIsRest net E M c × CapacityIsGrown net E M c

-- if some run that is over has fewer entries than the budget, no run spends the budget
abbrev pub BudgetSuffices : Family → Type 0
BudgetSuffices kinds =
    (net : Network) (E F : List Entry) (M N : State) (a b : End) → IsRun kinds net E M → MayEnd kinds net E M a
    → IsFinal kinds net F N b → length F < net.budget → a ≢ Budget

-- p can do some deed
abbrev pub CanDo : Family → Network → State → ℕ → Type 0
CanDo kinds net M p = (d : Deed) × ((N : State) × Does kinds net M p d N)

-- a process is enabled exactly when it can do a deed
abbrev pub EnabledCanDo : Family → Type 0
EnabledCanDo kinds =
    (net : Network) (M : State) (p : ℕ) → IsEnabled kinds net M p ↔ CanDo kinds net M p

abbrev pub OneCause : Family → Type 0
OneCause kinds = (net : Network) (M : State) (a b : End) → IsOver kinds net M a → IsOver kinds net M b → a ≡ b
