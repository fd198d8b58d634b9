-- How a cut left each process, and what follows a verdict.
use Rattle.std.proofs.Common.{◌≡◌, ℕ, Bool, true, false, if◌then◌else◌, List, [], Option, Some, None, IfSome, length, refl, sym, ap, ◌∙◌, arith}
use Rattle.std.specs.Prelude.{slice_index_or}
use Rattle.std.proofs.lemmas.List.FromFn.{get_or-map-range_with_len}
use Rattle.kpn_model.specs.declared.history.Entry.{Entry}
use Rattle.kpn_model.specs.declared.history.End.{End}
use Rattle.kpn_model.specs.declared.history.End.TheVariants.{Terminated, Deadlock, Ceiling, Budget, Memory}
use Rattle.kpn_model.specs.declared.history.Place.{Place}
use Rattle.kpn_model.specs.declared.history.Place.TheVariants.{Stopped}
use Rattle.kpn_model.specs.Network.{Family, Network, Admits}
use Rattle.kpn_model.specs.Semantics.{State, wants}
use Rattle.kpn_model.specs.Endings.{IsOver}
use Rattle.kpn_model.specs.History.{each_process, place_of}
use Rattle.kpn_state.specs.Standings.{standing, is_busy, parked_answer}
use Rattle.kpn_machine.specs.MachineView.{MachineView, IsFaithful}
use Rattle.kpn_tokens.specs.declared.layouts.Decimals.{Decimals}
use Rattle.hox_run.specs.declared.shown.ChannelAs.{ChannelAs}
use Rattle.hox_run.specs.Cuts.{Leaves, after_verdict, left_at}
use Rattle.hox_run.specs.Telling.{Follows}

-- of a process that was not ready its place is told
placed_by : (busy : Bool) (told place : Place) → (busy ≡ false → told ≡ place) → IfSome (if busy then None else Some told) (λ x. x ≡ place)
placed_by true told place is = cc
placed_by false told place is = is refl

-- what a machine's standings and places tell of its processes is how it left them
pub leaves_of :
    (kinds : Family) (admits : Admits) (s : MachineView) (places : List Place) → IsFaithful kinds admits s
    → places ≡ each_process s.network (λ p. place_of s.network p (parked_answer (standing s.standings p))) → Leaves kinds s.network s.state (left_at s.standings places)
leaves_of kinds admits s places faithful are = record {
  ready = λ p enabled. rw (faithful.none_held_back p enabled) refl;
  placed = λ p within.
      let at : slice_index_or places p Stopped ≡ place_of s.network p (parked_answer (standing s.standings p)) =
      rw are (get_or-map-range_with_len (λ q. place_of s.network q (parked_answer (standing s.standings q))) 0 (length s.network.processes) p p Stopped within (omega arith)) in
      placed_by (is_busy (standing s.standings p)) (slice_index_or places p Stopped) (place_of s.network p (wants kinds s.network s.state p))
      (λ idle. at ∙ ap (place_of s.network p) (sym (faithful.wanted p idle)));
}

module _ (kinds : Family) (net : Network) (show : List (ChannelAs Decimals)) where
  -- what is written after a verdict follows it
  pub follows_from : (cause : End) (E : List Entry) (M : State) (left : ℕ → Option Place) → Leaves kinds net M left → Follows kinds net show cause E M (after_verdict net cause E left show)
  follows_from Budget E M left leaves = (left, leaves, refl)
  follows_from Terminated E M left leaves = refl
  follows_from Deadlock E M left leaves = refl
  follows_from Ceiling E M left leaves = refl
  follows_from Memory E M left leaves = refl

  -- after the verdict on a run that is over there is nothing
  pub nothing_after : (E : List Entry) (M : State) (cause : End) (after : List ℕ) → IsOver kinds net M cause → Follows kinds net show cause E M after → after ≡ []
  nothing_after E M Terminated after over follows = follows
  nothing_after E M Deadlock after over follows = follows
  nothing_after E M Ceiling after over follows = follows
  nothing_after E M Budget after over follows = absurd over
  nothing_after E M Memory after over follows = absurd over

  pub nothing_follows : (E : List Entry) (M : State) (cause : End) (after : List ℕ) → IsOver kinds net M cause → after ≡ [] → Follows kinds net show cause E M after
  nothing_follows E M Terminated after over none = none
  nothing_follows E M Deadlock after over none = none
  nothing_follows E M Ceiling after over none = none
  nothing_follows E M Budget after over none = absurd over
  nothing_follows E M Memory after over none = absurd over
