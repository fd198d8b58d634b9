-- Whose turn it is among the sources.
use Rattle.std.specs.Prelude.{◌≡◌, ◌<◌, ◌≤◌, ◌+◌, ◌⊎◌, ℕ, true, false, List, length, Option, IfSome}
use Rattle.kpn_model.specs.Network.{Family}
use Rattle.kpn_flow.specs.Flows.{FlowView}
use Rattle.hox_stream.specs.declared.finish.StreamFinish.{StreamFinish}
use Rattle.hox_stream.specs.Ports.{IsNotRead, IsReadOnce, wants_more}
use Rattle.hox_stream.specs.Streams.{AreWritten, IsFinish, Streams, inlet_at, is_waited_for}
use Rattle.hox_stream.specs.Views.{InletView, OutsView}

-- going round from n on, j comes before k
abbrev pub ComesBefore : ℕ → ℕ → ℕ → Type 0
ComesBefore n j k = ((n ≤ j) × (j < k)) ⊎ ((k < n) × ((n ≤ j) ⊎ (j < k)))

-- source k is the first, going round from n on, that a process waits for
pub record IsTurnOf (s : FlowView) (ins : List InletView) (n k : ℕ) : Type 0 where
  pub within : k < length ins
  pub waited : is_waited_for s (inlet_at ins k) ≡ true
  pub first : (j : ℕ) → j < length ins → ComesBefore n j k → is_waited_for s (inlet_at ins j) ≡ false

-- only the source in turn was poured, and read if it needed to be. The next turn begins after it
pub record TakesTurn (s : FlowView) (ins after : List InletView) (n next : ℕ) : Type 0 where
  pub place : ℕ
  pub turn : IsTurnOf s ins n place
  pub read : wants_more (inlet_at ins place) ≡ true → IsReadOnce (inlet_at ins place) (inlet_at after place)
  pub others : (j : ℕ) → (j ≡ place → ⊥) → inlet_at after j ≡ inlet_at ins j
  pub behind : next ≡ place + 1

abbrev pub PassesTurn : List InletView → List InletView → ℕ → ℕ → Type 0
PassesTurn ins after n next = ((s : FlowView) × TakesTurn s ins after n next) ⊎ ((after ≡ ins) × (next ≡ n))

abbrev pub AreReadIfWanted : List InletView → List InletView → Type 0
AreReadIfWanted ins after =
    (k : ℕ)
    → k < length ins → wants_more (inlet_at ins k) ≡ false → IsNotRead (inlet_at ins k) (inlet_at after k)

-- no source is read
abbrev pub NoneIsRead : List InletView → List InletView → Type 0
NoneIsRead ins after = (k : ℕ) → k < length ins → IsNotRead (inlet_at ins k) (inlet_at after k)

-- no source is read while output waits
abbrev pub AreReadUnheld : List InletView → List InletView → OutsView → Type 0
AreReadUnheld ins after outs = AreWritten outs ⊎ NoneIsRead ins after

module _ (kinds : Family) (s t : FlowView) (ins after : List InletView) where
  -- a source was poured, or none was, and read only if it wanted more; or the stream ends for this cause
  pub record PoursOne (result : Option StreamFinish) : Type 0 where
    pub streams : (outs : OutsView) → Streams kinds s t ins after outs outs
    pub finish : IfSome result (λ f. (outs : OutsView) → IsFinish kinds t after outs f)
    pub only_if_wanted : AreReadIfWanted ins after

  -- the flow went on, and no source was read while output waits; or the stream ends for this cause
  pub record GoesOn (before outs : OutsView) (result : Option StreamFinish) : Type 0 where
    pub streams : Streams kinds s t ins after before outs
    pub finish : IfSome result (IsFinish kinds t after outs)
    pub unheld : AreReadUnheld ins after outs
