-- Processes that do nothing more, and channels with their whole stream.
use Rattle.std.specs.Prelude.{◌≡◌, ℕ, List, [], ◌++◌, Some}
use Rattle.kpn_model.specs.declared.kinds.Act.TheVariants.{Read}
use Rattle.kpn_model.specs.declared.kinds.Answer.{Answer}
use Rattle.kpn_model.specs.declared.history.Entry.{Entry}
use Rattle.kpn_model.specs.declared.history.Status.TheVariants.{Done}
use Rattle.kpn_model.specs.Network.{Family, Network, channel_of, in_of, resized}
use Rattle.kpn_model.specs.Semantics.{State, status, tokens, wants, IsRun}
use Rattle.kpn_model.specs.History.{deeds, stream, IsPrefixOf}

-- a process has stopped, or waits to read an empty channel whose writer is dry. No process of a cycle of waits is dry
pub data IsDry (kinds : Family) (net : Network) (M : State) : ℕ → Type 0 where
  stopped : {p : ℕ} → status M p ≡ Done → IsDry kinds net M p
  waits : {p : ℕ} (answer : Answer) (port c : ℕ)
      → wants kinds net M p ≡ Some answer → answer.act ≡ Read port → in_of net p port ≡ Some c → tokens M c ≡ []
      → IsDry kinds net M (channel_of net c).writer → IsDry kinds net M p

-- the writer of channel c is dry
abbrev pub IsComplete : Family → Network → State → ℕ → Type 0
IsComplete kinds net M c = IsDry kinds net M (channel_of net c).writer

-- the stream of c in the run E is whole: the same in each longer run, and any other run's, from any starting
-- capacities, is a prefix of it
pub record IsWhole (kinds : Family) (net : Network) (E : List Entry) (c : ℕ) : Type 0 where
  pub longer : (F : List Entry) (N : State) → IsRun kinds net (E ++ F) N → stream net (E ++ F) c ≡ stream net E c
  pub others : (sizes : ℕ → ℕ) (F : List Entry) (N : State) → IsRun kinds (resized net sizes) F N
      → IsPrefixOf (stream (resized net sizes) F c) (stream net E c)

-- what is dry stays so in each longer run, and does nothing more
abbrev pub DryStaysDry : Family → Type 0
DryStaysDry kinds =
    (net : Network) (E F : List Entry) (M N : State) (p : ℕ)
    → IsRun kinds net E M → IsRun kinds net (E ++ F) N → IsDry kinds net M p
    → IsDry kinds net N p × (deeds F p ≡ [])

-- what a dry process has done begins with all that it does in any other run, from any starting capacities
abbrev pub DryHasDoneAll : Family → Type 0
DryHasDoneAll kinds =
    (net : Network) (sizes : ℕ → ℕ) (E F : List Entry) (M N : State) (p : ℕ)
    → IsRun kinds net E M → IsRun kinds (resized net sizes) F N → IsDry kinds net M p
    → IsPrefixOf (deeds F p) (deeds E p)

-- a complete channel's stream is whole
abbrev pub CompleteIsWhole : Family → Type 0
CompleteIsWhole kinds =
    (net : Network) (E : List Entry) (M : State) (c : ℕ)
    → IsRun kinds net E M → IsComplete kinds net M c → IsWhole kinds net E c
