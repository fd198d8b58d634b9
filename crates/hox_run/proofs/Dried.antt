-- Which processes were dry when a run ended, and which streams are whole.
use Rattle.std.proofs.Common.{◌≡◌, ◌≢◌, ◌↔◌, ◌&&◌, ◌||◌, ◌==◌, ℕ, Bool, true, false, if◌then◌else◌, List, Some, length, not, refl, sym, ◌∙◌, subst}
use Rattle.std.proofs.lemmas.Bool.{and_parts}
use Rattle.std.proofs.lemmas.List.Sums.{AllPass-from_list_all}
use Rattle.kpn_model.specs.declared.history.End.{End}
use Rattle.kpn_model.specs.declared.history.End.TheVariants.{Terminated, Deadlock, Ceiling, Budget, Memory}
use Rattle.kpn_model.specs.declared.history.Place.{Place}
use Rattle.kpn_model.specs.declared.verdict.Verdict.{Verdict}
use Rattle.kpn_model.specs.declared.verdict.Verdict.TheVariants.{RanDry, Cut, Full}
use Rattle.kpn_model.specs.Network.{Family, Network, channel_of, Admits}
use Rattle.kpn_model.specs.Semantics.{State}
use Rattle.kpn_state.proofs.Placed.{idle_at}
use Rattle.kpn_machine.specs.MachineView.{MachineView, IsFaithful}
use Rattle.kpn_dry.specs.Dry.{CompleteIsWhole, IsDry}
use Rattle.kpn_dry.specs.Told.{TellWaits, is_told_dry}
use Rattle.kpn_dry.proofs.Walk.{told_exactly}
use Rattle.kpn_dry.proofs.Told.{dry_if_told, told_if_dry}
use Rattle.kpn_tokens.specs.declared.layouts.Decimals.{Decimals}
use Rattle.kpn_tokens.specs.declared.layouts.Layout.{Layout}
use Rattle.hox_run.specs.declared.shown.ChannelAs.{ChannelAs}
use Rattle.hox_run.specs.Judging.{AreDry, IsJudged, are_complete, has_all}
use Rattle.hox_run.specs.Telling.{AreWhole, is_early}

-- of two verdicts the first was chosen, as the other differs
chosen : (test : Bool) (verdict other : Verdict) → verdict ≡ (if test then RanDry else other) → verdict ≡ RanDry → (other ≡ RanDry → ⊥) → test ≡ true
chosen true verdict other judged dry differs = refl
chosen false verdict other judged dry differs = absurd (differs (sym judged ∙ dry))

-- the standings of a machine tell what waits
pub tell_waits : (kinds : Family) (admits : Admits) (s : MachineView) → IsFaithful kinds admits s → TellWaits kinds s.network s.state s.standings
tell_waits kinds admits s faithful = record { wanted = faithful.wanted; busy = faithful.none_held_back }

module _ (kinds : Family) (admits : Admits) (s : MachineView) (faithful : IsFaithful kinds admits s) where
  exactly : (cause : End) → s.end ≡ Some cause → cause ≢ Budget → (p : ℕ) → (is_told_dry s.network s.standings p ≡ true) ↔ IsDry kinds s.network s.state p
  exactly cause ended other p =
      let tell = tell_waits kinds admits s faithful in (
        dry_if_told kinds s.network s.state s.standings tell p,
        told_if_dry kinds s.network s.state s.standings tell (λ q. idle_at s.standings q (faithful.none_busy cause ended other)) p,
      )

  -- so which processes are dry is known
  pub known_dry : (cause : End) → s.end ≡ Some cause → AreDry kinds s.network cause s.state (is_told_dry s.network s.standings)
  known_dry Budget ended = (s.standings, tell_waits kinds admits s faithful, told_exactly s.network s.standings)
  known_dry Terminated ended = exactly Terminated ended (λ same. cc)
  known_dry Deadlock ended = exactly Deadlock ended (λ same. cc)
  known_dry Ceiling ended = exactly Ceiling ended (λ same. cc)
  known_dry Memory ended = exactly Memory ended (λ same. cc)

  -- and the streams of channels that only dry processes write are whole
  module _ (whole : CompleteIsWhole kinds) where
    are_whole : {W : Type 0} (channels : List (ChannelAs W)) → are_complete s.network (is_told_dry s.network s.standings) channels ≡ true → AreWhole kinds s.network s.history channels
    are_whole channels all =
        λ i d within. whole s.network s.history s.state _ faithful.run
        (dry_if_told kinds s.network s.state s.standings (tell_waits kinds admits s faithful) _ (AllPass-from_list_all (λ c. is_told_dry s.network s.standings (channel_of s.network c.channel).writer) channels all i d within))

    module _ (show : List (ChannelAs Decimals)) (outputs : List (ChannelAs Layout)) where
      both_whole : has_all s.network (is_told_dry s.network s.standings) show outputs ≡ true → AreWhole kinds s.network s.history show × AreWhole kinds s.network s.history outputs
      both_whole all =
          let dry = is_told_dry s.network s.standings in
          let each = (and_parts (not (length show == 0) || not (length outputs == 0)) (are_complete s.network dry show && are_complete s.network dry outputs) all).1 in
          let two = and_parts (are_complete s.network dry show) (are_complete s.network dry outputs) each in
          (are_whole show two.0, are_whole outputs two.1)

      pub early_whole : (places : List Place) (cause : End) (verdict : Verdict) → IsJudged s.network (is_told_dry s.network s.standings) show outputs places cause verdict
          → verdict ≡ RanDry → is_early cause ≡ true → AreWhole kinds s.network s.history show × AreWhole kinds s.network s.history outputs
      early_whole places Ceiling verdict judged dry early = both_whole (chosen _ verdict Full judged dry (λ same. cc))
      early_whole places Budget verdict judged dry early = both_whole (chosen _ verdict Cut judged dry (λ same. cc))
      early_whole places Terminated verdict judged dry early = cc
      early_whole places Deadlock verdict judged dry early = cc
      early_whole places Memory verdict judged dry early = cc

-- two runs that are over in one state, for one cause, have the same dry processes
pub dry_there : (kinds : Family) (net : Network) (a b : End) (M N : State) (dry : ℕ → Bool) → a ≡ b → M ≡ N → AreDry kinds net a M dry → AreDry kinds net b N dry
dry_there kinds net a b M N dry same_end same_state h = subst (λ x. AreDry kinds net x N dry) same_end (subst (λ x. AreDry kinds net a x dry) same_state h)
