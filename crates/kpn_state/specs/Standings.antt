-- The standings of the processes, and how they fit the state.
use Rattle.std.specs.Prelude.{◌≡◌, ◌≢◌, ℕ, ◌<◌, ◌≤◌, Bool, true, false, List, Option, Some, None, length, get_or}
use Rattle.kpn_model.specs.declared.kinds.Answer.{Answer}
use Rattle.kpn_model.specs.declared.history.Deed.{Deed}
use Rattle.kpn_model.specs.declared.history.Deed.TheVariants.{Took, Put, Stopped as DidStop}
use Rattle.kpn_model.specs.declared.history.Status.TheVariants.{Done}
use Rattle.kpn_model.specs.Network.{Family, Network, channel_of, Admits}
use Rattle.kpn_model.specs.Semantics.{State, status, capacity, wants, IsPossible}
use Rattle.kpn_model.specs.Valid.{IsWellTyped}
use Rattle.kpn_state.specs.declared.standing.Standing.{Standing}
use Rattle.kpn_state.specs.declared.standing.Standing.TheVariants.{Ready, Out, Parked, Stopped}

-- `Stopped` for a number that is no process's
abbrev pub standing : List Standing → ℕ → Standing
standing standings p = get_or standings p Stopped

abbrev pub is_busy : Standing → Bool
is_busy Ready = true
is_busy Out = true
is_busy (Parked a) = false
is_busy Stopped = false

abbrev pub is_ready : Standing → Bool
is_ready Ready = true
is_ready Out = false
is_ready (Parked a) = false
is_ready Stopped = false

abbrev pub is_out : Standing → Bool
is_out Ready = false
is_out Out = true
is_out (Parked a) = false
is_out Stopped = false

abbrev pub parked_answer : Standing → Option Answer
parked_answer Ready = None
parked_answer Out = None
parked_answer (Parked a) = Some a
parked_answer Stopped = None

abbrev pub has_stopped : Standing → Bool
has_stopped Ready = false
has_stopped Out = false
has_stopped (Parked a) = false
has_stopped Stopped = true

abbrev pub is_live : Standing → Bool
is_live Ready = true
is_live Out = true
is_live (Parked a) = true
is_live Stopped = false

abbrev pub is_parked : Standing → Bool
is_parked Ready = false
is_parked Out = false
is_parked (Parked a) = true
is_parked Stopped = false

abbrev pub standing_after : Deed → Standing
standing_after (Took c t) = Ready
standing_after (Put c t) = Ready
standing_after DidStop = Stopped

-- the process at the other end of the deed's channel
abbrev pub partner : Network → Deed → Option ℕ
partner net (Took c t) = Some (channel_of net c).writer
partner net (Put c t) = Some (channel_of net c).reader
partner net DidStop = None

-- the deed's channel is one of the network's
abbrev pub HasChannel : Network → Deed → Type 0
HasChannel net (Took c t) = c < length net.channels
HasChannel net (Put c t) = c < length net.channels
HasChannel net DidStop = Unit {0}

module _ (kinds : Family) (admits : Admits) (net : Network) where
  -- the state and the standings are of the network's size, tokens have their channels' sorts, capacities are at least 1
  -- and at most the ceiling, standings fit statuses, and each parked process wants what it answered and, except for the
  -- spared one, can't do it
  pub record StandingsFit (spared : Option ℕ) (M : State) (standings : List Standing) : Type 0 where
    pub processes : length M.processes ≡ length net.processes
    pub channels : length M.channels ≡ length net.channels
    pub one_each : length standings ≡ length net.processes
    pub well_typed : IsWellTyped admits net M
    pub smallest : (c : ℕ) → c < length net.channels → 1 ≤ capacity M c
    pub greatest : (c : ℕ) → capacity M c ≤ net.ceiling
    pub stopped : (p : ℕ) → standing standings p ≡ Stopped → status M p ≡ Done
    pub done : (p : ℕ) → status M p ≡ Done → standing standings p ≡ Stopped
    pub wanted : (p : ℕ) (a : Answer) → standing standings p ≡ Parked a → wants kinds net M p ≡ Some a
    pub blocked : (p : ℕ) (a : Answer) → spared ≢ Some p → standing standings p ≡ Parked a
        → IsPossible kinds net M p a.act → ⊥
