-- Three false variants of the law of the least solution, for networks of the standard kinds.
use Rattle.std.specs.Prelude.{◌≡◌, ℕ, List, Some, slice_get}
use Rattle.kpn_model.specs.declared.token.Token.{Token}
use Rattle.kpn_model.specs.declared.history.Deed.{Deed}
use Rattle.kpn_model.specs.declared.history.Entry.{Entry}
use Rattle.kpn_model.specs.declared.history.End.{End}
use Rattle.kpn_model.specs.Network.{Network, channel_of}
use Rattle.kpn_model.specs.Semantics.{State, IsRun}
use Rattle.kpn_model.specs.Endings.{IsNatural, IsFinal}
use Rattle.kpn_model.specs.History.{taken, stream}
use Rattle.kpn_standard.specs.Standard.{standard}
use Rattle.kpn_laws.specs.Alone.{Streams, BeginsWith, puts, DoesAlone}
use Rattle.kpn_laws.specs.Equations.{streams_of, IsSolution}

-- the greatest solution: a run to a natural end has each token of each solution
abbrev pub EndIsGreatest : Type 0
EndIsGreatest =
    (net : Network) (E : List Entry) (M : State) (a : End) → IsFinal standard net E M a → IsNatural a
    → (T : Streams) → IsSolution standard net T → (c n : ℕ) (t : Token) → T c n ≡ Some t → streams_of net E c n ≡ Some t

-- the tokens taken, not those put, are a solution
abbrev pub TakenIsSolution : Type 0
TakenIsSolution =
    (net : Network) (E : List Entry) (M : State) (a : End) → IsFinal standard net E M a → IsNatural a
    → IsSolution standard net (λ c n. slice_get (taken E c) n)

-- equations without start tokens: a run's streams are below each pre-fixed point
abbrev pub BelowWithoutStart : Type 0
BelowWithoutStart =
    (net : Network) (E : List Entry) (M : State) (T : Streams) → IsRun standard net E M
    → ((c : ℕ) (ds : List Deed) → DoesAlone standard net T (channel_of net c).writer ds → BeginsWith (T c) (puts ds c))
    → (c : ℕ) → BeginsWith (T c) (stream net E c)
