-- Who waits at the channels: the candidates for a growth, and the marks of parked readers and writers.
use Rattle.std.specs.Prelude.{◌≡◌, ◌↔◌, ◌<◌, ℕ, Bool, true, false, List, Option, Some, None, length, set}
use Rattle.kpn_model.specs.declared.kinds.Act.{Act}
use Rattle.kpn_model.specs.declared.kinds.Act.TheVariants.{Read, Write, Stop}
use Rattle.kpn_model.specs.declared.history.Deed.{Deed}
use Rattle.kpn_model.specs.declared.history.Deed.TheVariants.{Took, Put, Stopped as DidStop}
use Rattle.kpn_model.specs.Network.{Network, in_of}
use Rattle.kpn_model.specs.Semantics.{State}
use Rattle.kpn_state.specs.declared.standing.Standing.{Standing}
use Rattle.kpn_state.specs.declared.standing.Standing.TheVariants.{Ready, Out, Parked, Stopped}
use Rattle.kpn_state.specs.declared.waiting.Waiting.{Waiting}
use Rattle.kpn_state.specs.Standings.{standing}
use Rattle.kpn_state.specs.Marks.{MarkLists, mark_lists, is_marked}
use Rattle.kpn_commit.specs.Candidates.{awaited, AreCandidates}

abbrev pub read_by_act : Network → ℕ → Act → Option ℕ
read_by_act net p (Read k) = in_of net p k
read_by_act net p (Write k t) = None
read_by_act net p Stop = None

abbrev pub expected_by : Network → ℕ → Standing → Option ℕ
expected_by net p Ready = None
expected_by net p Out = None
expected_by net p (Parked a) = read_by_act net p a.act
expected_by net p Stopped = None

-- the channel from which p waits to read
abbrev pub expected : Network → List Standing → ℕ → Option ℕ
expected net standings p = expected_by net p (standing standings p)

-- exactly the channels for which some process waits are marked
abbrev pub StandFor : List Bool → (ℕ → Option ℕ) → Type 0
StandFor marks waits = (c : ℕ) → (is_marked marks c ≡ true) ↔ ((p : ℕ) × (waits p ≡ Some c))

-- no writer waits at c any more
abbrev pub unmark_writer : MarkLists → ℕ → MarkLists
unmark_writer marks c = mark_lists marks.readers (set marks.writers c false)

pub record AreMarks (net : Network) (standings : List Standing) (marks : MarkLists) : Type 0 where
  pub readers : StandFor marks.readers (λ p. expected net standings p)
  pub writers : StandFor marks.writers (λ p. awaited net standings p)
  pub each_reader : length marks.readers ≡ length net.channels
  pub each_writer : length marks.writers ≡ length net.channels

pub record AreWaiting (net : Network) (M : State) (standings : List Standing) (waiting : Waiting) : Type 0 where
  pub candidates : AreCandidates net M standings waiting.candidates
  pub marks : AreMarks net standings waiting.marks

abbrev pub partner_marked : MarkLists → Deed → Bool
partner_marked marks (Took c t) = is_marked marks.writers c
partner_marked marks (Put c t) = is_marked marks.readers c
partner_marked marks DidStop = false

abbrev pub HasMark : MarkLists → Deed → Type 0
HasMark marks (Took c t) = c < length marks.writers
HasMark marks (Put c t) = c < length marks.readers
HasMark marks DidStop = Unit {0}
