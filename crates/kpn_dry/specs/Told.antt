-- Which processes are dry, as their standings tell.
use Rattle.std.specs.Prelude.{◌≡◌, ℕ, zero, suc, Bool, true, false, List, Option, Some, None, length, option_and_then, option_map}
use Rattle.std.specs.Option.{option_map_or}
use Rattle.kpn_model.specs.declared.kinds.Act.{Act}
use Rattle.kpn_model.specs.declared.kinds.Act.TheVariants.{Read, Write, Stop}
use Rattle.kpn_model.specs.Network.{Family, Network, channel_of, in_of}
use Rattle.kpn_model.specs.Semantics.{State, wants, IsEnabled}
use Rattle.kpn_state.specs.declared.standing.Standing.{Standing}
use Rattle.kpn_state.specs.declared.standing.Standing.TheVariants.{Stopped}
use Rattle.kpn_state.specs.Standings.{standing, has_stopped, is_busy, parked_answer}
use Rattle.kpn_dry.specs.Dry.{IsComplete, IsDry}

-- a process that is neither ready nor out wants what it answered, and can't do it
pub record TellWaits (kinds : Family) (net : Network) (M : State) (standings : List Standing) : Type 0 where
  pub wanted : (p : ℕ) → is_busy (standing standings p) ≡ false
      → wants kinds net M p ≡ parked_answer (standing standings p)
  pub busy : (p : ℕ) → IsEnabled kinds net M p → is_busy (standing standings p) ≡ true

module _ (net : Network) where
  -- the writer of the channel that p reads with this act
  abbrev pub writer_read : ℕ → Act → Option ℕ
  writer_read p (Read port) = option_map (λ c. (channel_of net c).writer) (in_of net p port)
  writer_read p (Write port t) = None
  writer_read p Stop = None

  module _ (standings : List Standing) where
    -- the writer of the channel at which p is parked to read
    abbrev pub awaited : ℕ → Option ℕ
    awaited p = option_and_then (λ answer. writer_read p answer.act) (parked_answer (standing standings p))

    abbrev pub is_stopped : ℕ → Bool
    is_stopped p = has_stopped (standing standings p)

    -- p has stopped, or is parked to read from one that has stopped after fewer waits
    abbrev pub stops_within : ℕ → ℕ → Bool
    stops_within zero p = is_stopped p
    stops_within (suc n) p = option_map_or (λ q. stops_within n q) (awaited p) (is_stopped p)

    -- there are at most as many waits as standings, since no process waits twice on the way
    abbrev pub is_told_dry : ℕ → Bool
    is_told_dry p = stops_within (length standings) p

-- by the standings, p has stopped, or is parked to read from a dry process. A ready process counts as not dry
pub data IsToldDry (net : Network) (standings : List Standing) : ℕ → Type 0 where
  stopped : {p : ℕ} → standing standings p ≡ Stopped → IsToldDry net standings p
  waits : {p : ℕ} (q : ℕ) → awaited net standings p ≡ Some q → IsToldDry net standings q → IsToldDry net standings p

-- no process is ready or out
abbrev pub NoneAreBusy : List Standing → Type 0
NoneAreBusy standings = (p : ℕ) → is_busy (standing standings p) ≡ false

module _ (net : Network) (standings : List Standing) where
  -- p is dry if it is told dry
  abbrev pub IsDryIfTold : ℕ → Bool → Type 0
  IsDryIfTold p told =
      (kinds : Family) (M : State) → TellWaits kinds net M standings → told ≡ true → IsDry kinds net M p

  -- p is not dry if it is told so while no process is ready or out
  abbrev pub IsNotDryIfTold : ℕ → Bool → Type 0
  IsNotDryIfTold p told =
      (kinds : Family) (M : State)
      → TellWaits kinds net M standings → NoneAreBusy standings → told ≡ false → IsDry kinds net M p → ⊥

  -- c is complete if it is told so
  abbrev pub IsCompleteIfTold : ℕ → Bool → Type 0
  IsCompleteIfTold c told =
      (kinds : Family) (M : State) → TellWaits kinds net M standings → told ≡ true → IsComplete kinds net M c

  -- c is not complete if it is told so while no process is ready or out
  abbrev pub IsIncompleteIfTold : ℕ → Bool → Type 0
  IsIncompleteIfTold c told =
      (kinds : Family) (M : State)
      → TellWaits kinds net M standings → NoneAreBusy standings → told ≡ false → IsComplete kinds net M c → ⊥
