-- The candidates for a growth: the channels to which parked processes wait to write.
use Rattle.std.specs.Prelude.{◌≡◌, ◌↔◌, ℕ, ◌<◌, ◌≤◌, ◌⊎◌, Bool, true, false, List, Option, Some, None, length, count_by, Contains}
use Rattle.kpn_model.specs.declared.kinds.Act.{Act}
use Rattle.kpn_model.specs.declared.kinds.Act.TheVariants.{Read, Write, Stop}
use Rattle.kpn_model.specs.Network.{Network, channel_of, out_of}
use Rattle.kpn_model.specs.Semantics.{State, capacity}
use Rattle.kpn_state.specs.declared.standing.Standing.{Standing}
use Rattle.kpn_state.specs.declared.standing.Standing.TheVariants.{Ready, Out, Parked, Stopped}
use Rattle.kpn_state.specs.Standings.{standing}
use Rattle.kpn_state.specs.Candidates.{CandidateList}

abbrev pub written_by : Network → ℕ → Act → Option ℕ
written_by net p (Read k) = None
written_by net p (Write k t) = out_of net p k
written_by net p Stop = None

abbrev pub awaited_by : Network → ℕ → Standing → Option ℕ
awaited_by net p Ready = None
awaited_by net p Out = None
awaited_by net p (Parked a) = written_by net p a.act
awaited_by net p Stopped = None

-- the channel to which p waits to write
abbrev pub awaited : Network → List Standing → ℕ → Option ℕ
awaited net standings p = awaited_by net p (standing standings p)

-- p waits to write to c
abbrev pub AwaitsRoom : Network → List Standing → ℕ → ℕ → Type 0
AwaitsRoom net standings p c = awaited net standings p ≡ Some c

abbrev pub IsNoLater : State → ℕ → ℕ → Type 0
IsNoLater M c d = (capacity M c < capacity M d) ⊎ ((capacity M c ≡ capacity M d) × (c ≤ d))

-- no process waits to write to a channel that would grow before c
abbrev pub NoneIsEarlier : Network → State → List Standing → ℕ → Type 0
NoneIsEarlier net M standings c = (q d : ℕ) → AwaitsRoom net standings q d → IsNoLater M c d

-- no process waits to write; or this one does, to the smallest such channel, of equals the lowest
abbrev pub IsSmallest : Network → State → List Standing → Option (ℕ × ℕ) → Type 0
IsSmallest net M standings None = (q : ℕ) → awaited net standings q ≡ None
IsSmallest net M standings (Some best) = AwaitsRoom net standings best.1 best.0 × NoneIsEarlier net M standings best.0

abbrev pub with_writer : Network → ℕ × ℕ → ℕ × ℕ
with_writer net x = (x.1, (channel_of net x.1).writer)

abbrev pub IsCandidate : Network → State → List Standing → ℕ × ℕ → Type 0
IsCandidate net M standings x = (x.0 ≡ capacity M x.1) × ((p : ℕ) × (awaited net standings p ≡ Some x.1))

abbrev pub is_write : Act → Bool
is_write (Read k) = false
is_write (Write k t) = true
is_write Stop = false

abbrev pub waits_to_write : Standing → Bool
waits_to_write Ready = false
waits_to_write Out = false
waits_to_write (Parked a) = is_write a.act
waits_to_write Stopped = false

module _ (net : Network) (M : State) (standings : List Standing) where
  -- exactly the candidates, no more than processes that wait to write, and room for one of each process
  pub record AreCandidates (candidates : CandidateList) : Type 0 where
    pub each : (x : ℕ × ℕ) → Contains candidates.pairs x ↔ IsCandidate net M standings x
    pub few : length candidates.pairs ≤ count_by waits_to_write standings
    pub room : length standings ≤ candidates.limit
