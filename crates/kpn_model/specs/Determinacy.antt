-- The outcome does not depend on the schedule.
use Rattle.std.specs.Prelude.{◌≡◌, ℕ, ◌≤◌, List, length}
use Rattle.kpn_model.specs.declared.history.Entry.{Entry}
use Rattle.kpn_model.specs.declared.history.End.{End}
use Rattle.kpn_model.specs.Network.{Family, Network, resized}
use Rattle.kpn_model.specs.Semantics.{State, wants, IsRun}
use Rattle.kpn_model.specs.Endings.{IsFinal, IsNatural}
use Rattle.kpn_model.specs.History.{ArePrefixComparable, deeds, stream, place_of, digest}

abbrev pub OneDigest : Family → Type 0
OneDigest kinds =
    (net : Network) (E F : List Entry) (M N : State) (a b : End)
    → IsFinal kinds net E M a → IsFinal kinds net F N b → digest kinds net a E M ≡ digest kinds net b F N

abbrev pub NoneLonger : Family → Type 0
NoneLonger kinds =
    (net : Network) (E F : List Entry) (M N : State) (a : End)
    → IsFinal kinds net E M a → IsRun kinds net F N → length F ≤ length E

-- what two runs that are over share, whatever their capacities
pub record AgreeInTheEnd (kinds : Family) (net other : Network) (E F : List Entry) (M N : State) : Type 0 where
  pub deeds : (p : ℕ) → deeds E p ≡ deeds F p
  pub streams : (c : ℕ) → stream net E c ≡ stream other F c
  pub places : (p : ℕ) → place_of net p (wants kinds net M p) ≡ place_of other p (wants kinds other N p)

-- runs to natural ends have one outcome, whatever the starting capacities
abbrev pub OneOutcome : Family → Type 0
OneOutcome kinds =
    (net : Network) (sizes : ℕ → ℕ) (E F : List Entry) (M N : State) (a b : End)
    → IsFinal kinds net E M a → IsNatural a → IsFinal kinds (resized net sizes) F N b → IsNatural b
    → AgreeInTheEnd kinds net (resized net sizes) E F M N

-- the deeds of each process are prefix-comparable, and so are the streams
pub record AreAllPrefixComparable (net other : Network) (E F : List Entry) : Type 0 where
  pub deeds : (p : ℕ) → ArePrefixComparable (deeds E p) (deeds F p)
  pub streams : (c : ℕ) → ArePrefixComparable (stream net E c) (stream other F c)

-- any two runs are, whatever the starting capacities
abbrev pub AllPrefixComparable : Family → Type 0
AllPrefixComparable kinds =
    (net : Network) (sizes : ℕ → ℕ) (E F : List Entry) (M N : State)
    → IsRun kinds net E M → IsRun kinds (resized net sizes) F N → AreAllPrefixComparable net (resized net sizes) E F
