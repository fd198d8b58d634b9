-- The equations of a network, one for each channel: its stream is its start tokens, then what its writer alone
-- writes on it for the streams that it reads (Kahn 1974).
use Rattle.std.specs.Prelude.{◌≡◌, ◌↔◌, ℕ, List, [], ◌++◌, Some, get_or, slice_get}
use Rattle.kpn_model.specs.declared.token.Token.{Token}
use Rattle.kpn_model.specs.declared.history.Deed.{Deed}
use Rattle.kpn_model.specs.declared.history.Entry.{Entry}
use Rattle.kpn_model.specs.declared.history.End.{End}
use Rattle.kpn_model.specs.Network.{Family, Network, channel_of, resized}
use Rattle.kpn_model.specs.Semantics.{State, IsRun}
use Rattle.kpn_model.specs.Endings.{IsNatural, IsFinal}
use Rattle.kpn_model.specs.History.{deeds, stream, digest, IsPrefixOf}
use Rattle.kpn_laws.specs.Alone.{Streams, BeginsWith, puts, DoesAlone}

abbrev pub streams_of : Network → List Entry → Streams
streams_of net E c n = slice_get (stream net E c) n

abbrev pub listed : List (List Token) → Streams
listed streams c n = slice_get (get_or streams c []) n

abbrev pub written : Network → ℕ → List Deed → List Token
written net c ds = (channel_of net c).tokens ++ puts ds c

-- with these deeds of its writer, the stream of c has this token at place n
abbrev pub IsWrittenAt : Network → ℕ → List Deed → ℕ → Token → Type 0
IsWrittenAt net c ds n t = slice_get (written net c ds) n ≡ Some t

module _ (kinds : Family) (net : Network) where
  -- T is a pre-fixed point of the equations: each stream begins with all that its writer writes for T
  abbrev pub Obeys : Streams → Type 0
  Obeys T =
      (c : ℕ) (ds : List Deed)
      → DoesAlone kinds net T (channel_of net c).writer ds → BeginsWith (T c) (written net c ds)

  -- T is a solution, a fixed point: it has no token that its writer doesn't write
  pub record IsSolution (T : Streams) : Type 0 where
    pub obeys : Obeys T
    pub no_more :
        (c n : ℕ) (t : Token) → T c n ≡ Some t
        → (ds : List Deed) × DoesAlone kinds net T (channel_of net c).writer ds × IsWrittenAt net c ds n t

  -- T is the least solution: each token of it is in every pre-fixed point
  pub record IsLeastSolution (T : Streams) : Type 0 where
    pub solution : IsSolution T
    pub least : (U : Streams) → Obeys U → (c n : ℕ) (t : Token) → T c n ≡ Some t → U c n ≡ Some t

  -- some run, from some starting capacities, brings t to place n of c's stream
  pub record IsReached (c n : ℕ) (t : Token) : Type 0 where
    pub sizes : ℕ → ℕ
    pub history : List Entry
    pub state : State
    pub run : IsRun kinds (resized net sizes) history state
    pub at : slice_get (stream net history c) n ≡ Some t

  -- T is the limit of all runs' streams, from all capacities: exactly the tokens that some run reaches
  abbrev pub IsLimit : Streams → Type 0
  IsLimit T = (c n : ℕ) (t : Token) → (T c n ≡ Some t) ↔ IsReached c n t

  -- some run from some starting capacities does at least these deeds of p
  pub record IsDoneByRun (p : ℕ) (ds : List Deed) : Type 0 where
    pub sizes : ℕ → ℕ
    pub history : List Entry
    pub state : State
    pub run : IsRun kinds (resized net sizes) history state
    pub done : IsPrefixOf ds (deeds history p)

  -- some run from some starting capacities does all deeds of E and of F
  pub record HasCommonRun (E F : List Entry) : Type 0 where
    pub sizes : ℕ → ℕ
    pub history : List Entry
    pub state : State
    pub run : IsRun kinds (resized net sizes) history state
    pub first : (p : ℕ) → IsPrefixOf (deeds E p) (deeds history p)
    pub second : (p : ℕ) → IsPrefixOf (deeds F p) (deeds history p)

module _ (kinds : Family) where
  -- soundness: all runs, over or not, from any starting capacities
  abbrev pub StreamsAreBelow : Type 0
  StreamsAreBelow =
      (net : Network) (sizes : ℕ → ℕ) (E : List Entry) (M : State) (T : Streams)
      → IsRun kinds (resized net sizes) E M → Obeys kinds net T
      → (c : ℕ) → BeginsWith (T c) (stream net E c)

  abbrev pub EndIsLeastSolution : Type 0
  EndIsLeastSolution =
      (net : Network) (E : List Entry) (M : State) (a : End)
      → IsFinal kinds net E M a → IsNatural a → IsLeastSolution kinds net (streams_of net E)

  abbrev pub DigestIsLeastSolution : Type 0
  DigestIsLeastSolution =
      (net : Network) (E : List Entry) (M : State) (a : End) → IsFinal kinds net E M a → IsNatural a
      → IsLeastSolution kinds net (listed (digest kinds net a E M).streams)

  -- at any end, the ceiling included
  abbrev pub DigestIsBelow : Type 0
  DigestIsBelow =
      (net : Network) (E : List Entry) (M : State) (a : End) (T : Streams) → IsFinal kinds net E M a → Obeys kinds net T
      → (c : ℕ) → BeginsWith (T c) (get_or (digest kinds net a E M).streams c [])

  abbrev pub EndIsLeastFromAny : Type 0
  EndIsLeastFromAny =
      (net : Network) (sizes : ℕ → ℕ) (E : List Entry) (M : State) (a : End)
      → IsFinal kinds (resized net sizes) E M a → IsNatural a
      → IsLeastSolution kinds net (streams_of net E)

  -- completeness: what a process alone does for streams that runs reach, it does in some run
  abbrev pub AllIsReached : Type 0
  AllIsReached =
      (net : Network) (T : Streams) → ((c n : ℕ) (t : Token) → T c n ≡ Some t → IsReached kinds net c n t)
      → (p : ℕ) (ds : List Deed) → DoesAlone kinds net T p ds → IsDoneByRun kinds net p ds

  -- whether or not any run ends
  abbrev pub LimitIsLeastSolution : Type 0
  LimitIsLeastSolution = (net : Network) (T : Streams) → IsLimit kinds net T → IsLeastSolution kinds net T

  abbrev pub OneLeastSolution : Type 0
  OneLeastSolution =
      (net : Network) (T U : Streams)
      → IsLeastSolution kinds net T → IsLeastSolution kinds net U → (c n : ℕ) → T c n ≡ U c n

  -- from large enough capacities
  abbrev pub TwoHaveCommonRun : Type 0
  TwoHaveCommonRun =
      (net : Network) (sizes others : ℕ → ℕ) (E F : List Entry) (M N : State)
      → IsRun kinds (resized net sizes) E M → IsRun kinds (resized net others) F N
      → HasCommonRun kinds net E F
