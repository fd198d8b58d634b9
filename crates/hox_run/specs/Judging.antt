-- The verdict on a run, and which processes are dry when it ends.
use Rattle.std.specs.Prelude.{◌≡◌, ◌↔◌, ◌&&◌, ◌||◌, ◌==◌, ℕ, Bool, true, if◌then◌else◌, List, [], length, not}
use Rattle.std.specs.List.{list_all}
use Rattle.kpn_model.specs.declared.history.End.{End}
use Rattle.kpn_model.specs.declared.history.End.TheVariants.{Ceiling, Budget}
use Rattle.kpn_model.specs.declared.history.Place.{Place}
use Rattle.kpn_model.specs.declared.verdict.Verdict.{Verdict}
use Rattle.kpn_model.specs.declared.verdict.Verdict.TheVariants.{RanDry, Cut, Full}
use Rattle.kpn_model.specs.Network.{Family, Network, channel_of}
use Rattle.kpn_model.specs.Semantics.{State}
use Rattle.kpn_model.specs.Verdicts.{IsVerdict}
use Rattle.kpn_state.specs.declared.standing.Standing.{Standing}
use Rattle.kpn_dry.specs.ActiveLine.{active_line}
use Rattle.kpn_dry.specs.Dry.{IsDry}
use Rattle.kpn_dry.specs.Told.{IsToldDry, TellWaits}
use Rattle.kpn_tokens.specs.declared.layouts.Decimals.{Decimals}
use Rattle.kpn_tokens.specs.declared.layouts.Layout.{Layout}
use Rattle.hox_run.specs.declared.shown.ChannelAs.{ChannelAs}

-- these processes are those that the standings tell dry
abbrev pub AreToldDry : Network → List Standing → (ℕ → Bool) → Type 0
AreToldDry net standings dry = (p : ℕ) → (dry p ≡ true) ↔ IsToldDry net standings p

-- which processes are dry in M, the state in which a run ended so; if it was cut, as the standings tell
abbrev pub AreDry : Family → Network → End → State → (ℕ → Bool) → Type 0
AreDry kinds net Budget M dry =
    (standings : List Standing) × TellWaits kinds net M standings × AreToldDry net standings dry
AreDry kinds net cause M dry = (p : ℕ) → (dry p ≡ true) ↔ IsDry kinds net M p

module _ (net : Network) (dry : ℕ → Bool) where
  -- the writer of each channel is dry
  abbrev pub are_complete : {W : Type 0} → List (ChannelAs W) → Bool
  are_complete channels = list_all (λ c. dry (channel_of net c.channel).writer) channels

  -- the line after the verdict `ran dry` on a run that could go on
  abbrev pub active_part : End → Verdict → List ℕ
  active_part Ceiling RanDry = active_line net dry
  active_part Budget RanDry = active_line net dry
  active_part cause verdict = []

  module _ (show : List (ChannelAs Decimals)) (outputs : List (ChannelAs Layout)) where
    -- some channel is written out, and the writer of each is dry
    abbrev pub has_all : Bool
    has_all = (not (length show == 0) || not (length outputs == 0)) && (are_complete show && are_complete outputs)

    -- the verdict on a run with this end that left the processes in these places: at the ceiling, or if it was cut,
    -- ran dry exactly if all that is written out is complete
    abbrev pub IsJudged : List Place → End → Verdict → Type 0
    IsJudged places Ceiling verdict = verdict ≡ (if has_all then RanDry else Full)
    IsJudged places Budget verdict = verdict ≡ (if has_all then RanDry else Cut)
    IsJudged places cause verdict = IsVerdict net places cause verdict
