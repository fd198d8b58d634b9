-- The end of a run is the one that the definitions give it.
use Rattle.std.proofs.Common.{◌≡◌, ◌≢◌, ◌↔◌, List, length, refl, arith, ℕ, ◌+◌, ◌<◌, ◌≤◌, Bool, true, false, nat_le, if◌then◌else◌, Option, Some, None}
use Rattle.std.proofs.lemmas.Grind.{common_steps}
use Rattle.std.specs.List.{list_any}
use Rattle.kpn_model.specs.declared.history.Entry.{Entry}
use Rattle.kpn_model.specs.declared.history.End.{End}
use Rattle.kpn_model.specs.declared.history.End.TheVariants.{Terminated, Deadlock, Ceiling, Budget, Memory}
use Rattle.kpn_model.specs.Network.{Network, Family}
use Rattle.kpn_model.specs.Semantics.{State}
use Rattle.kpn_model.specs.Endings.{NothingGoesOn, IsOver, MayStand}
use Rattle.kpn_model.specs.texts.Reports.{has_report}
use Rattle.kpn_laws.proofs.Causes.{cause_same, over_grows_not}
use Rattle.kpn_body.specs.Input.{Input}
use Rattle.kpn_state.specs.StateAndHistory.{StateAndHistory}
use Rattle.kpn_state.specs.declared.standing.Standing.{Standing}
use Rattle.kpn_state.specs.declared.standing.Standing.TheVariants.{Ready}
use Rattle.kpn_state.specs.Standings.{standing, is_busy}
use Rattle.kpn_state.proofs.Placed.{standing_set_same, standing_within, busy_at}
use Rattle.kpn_commit.specs.declared.resolution.Resolution.{Resolution}
use Rattle.kpn_commit.specs.declared.resolution.Resolution.TheVariants.{Busy, Ended, Enlarged}
use Rattle.kpn_commit.specs.declared.outcome.Outcome.{Outcome}
use Rattle.kpn_commit.specs.declared.outcome.Outcome.TheVariants.{Done, Parked as Parks, LaidBack}
use Rattle.kpn_commit.specs.Resolving.{Resolves, GrowsAndPuts}
use Rattle.kpn_commit.specs.Works.{end_after}
use Rattle.kpn_machine.specs.MachineView.{MachineView, state_and_history_of}
use Rattle.kpn_machine.specs.Commits.{EndsAs, WorksOn, Commits}

-- how a commit leaves a run: it goes on, or its budget is spent, and some process is ready or out; or nothing goes on, and none is
pub data Left (kinds : Family) (net : Network) (M : State) (entries : ℕ) (l : List Standing) (end : Option End) : Type 0 where
  On : end ≡ None → entries < net.budget → list_any is_busy l ≡ true → Left kinds net M entries l end
  Spent : end ≡ Some Budget → net.budget ≤ entries → list_any is_busy l ≡ true → Left kinds net M entries l end
  Over : (cause : End) → end ≡ Some cause → NothingGoesOn kinds net M cause → list_any is_busy l ≡ false → Left kinds net M entries l end

module _ (kinds : Family) (net : Network) where
  by_budget : (M : State) (entries : ℕ) (l : List Standing) (b : Bool) → nat_le net.budget entries ≡ b → list_any is_busy l ≡ true → Left kinds net M entries l (if b then Some Budget else None)
  by_budget M entries l true e busy = Spent refl (grind (arith, common_steps)) busy
  by_budget M entries l false e busy = On refl (grind (arith, common_steps)) busy

  -- after a growth its writer is ready
  grown_busy : {s t : StateAndHistory} {l m : List Standing} → GrowsAndPuts kinds net s l t m → list_any is_busy m ≡ true
  grown_busy {l = l} {m = m} g =
      let parked = g.parked in
      let moves = g.puts.moves in
      let now = standing_set_same l g.writer Ready (standing_within l g.writer (λ e. cc)) in
      let ready : standing m g.writer ≡ Ready = cc in
      busy_at m g.writer (cc)

  pub left :
      (s : StateAndHistory) (l : List Standing) (x : Resolution) (t : StateAndHistory) (m : List Standing) (entries : ℕ) (end : Option End) → Resolves kinds net s l x t m → end ≡ end_after x net.budget entries → Left kinds net t.state entries m end
  left s l Busy t m entries end h e = rw e (by_budget t.state entries m _ refl (rw h.2 h.0))
  left s l (Ended cause) t m entries end h e = Over cause e (rw h.1 h.3) (rw h.2 h.0)
  left s l Enlarged t m entries end h e = rw e (by_budget t.state entries m _ refl (grown_busy h.1))

  -- the end is justified
  pub left_stands : (M : State) (E : List Entry) (l : List Standing) (end : Option End) → length E ≤ net.budget + 2 → Left kinds net M (length E) l end → MayStand kinds net E M end
  left_stands M E l end few h = grind arith

  pub left_busy : {M : State} {entries : ℕ} {l : List Standing} {end : Option End} → Left kinds net M entries l end → end ≡ None → list_any is_busy l ≡ true
  left_busy h none = grind arith

  pub left_idle : {M : State} {entries : ℕ} {l : List Standing} {end : Option End} → Left kinds net M entries l end → (cause : End) → end ≡ Some cause → cause ≢ Budget → list_any is_busy l ≡ false
  left_idle h cause some not = grind arith

  -- a cause that was found is that of the definitions, and no other is
  found : (M : State) (end cause : End) → has_report cause ≡ true → NothingGoesOn kinds net M end → (Some end ≡ Some cause) ↔ IsOver kinds net M cause
  found M end cause c h = (λ e. let same : end ≡ cause = cc in is cause c (rw same at h), λ o. other end cause c h o)
    where
      is : (cause : End) → has_report cause ≡ true → NothingGoesOn kinds net M cause → IsOver kinds net M cause
      is cause c h = grind arith

      other : (end cause : End) → has_report cause ≡ true → NothingGoesOn kinds net M end → IsOver kinds net M cause → Some end ≡ Some cause
      other Terminated cause c h o = rw (cause_same kinds net M Terminated cause h o)
      other Deadlock cause c h o = rw (cause_same kinds net M Deadlock cause h o)
      other Ceiling cause c h o = rw (cause_same kinds net M Ceiling cause h o)
      other Budget cause c h o = absurd h
      other Memory cause c h o = absurd (over_grows_not kinds net M cause h.channel h.to h.next o h.grows)

  ends_as : (t : MachineView) → t.network ≡ net → Left kinds net t.state (length t.history) t.standings t.end → EndsAs kinds t
  ends_as t n (On e less busy) = record { over = λ cause c. (λ some. cc, λ o. let idle = o.0 in cc); memory = λ some. cc; budget = λ some. cc; none = λ _. rw n less }
  ends_as t n (Spent e most busy) = record { over = λ cause c. (λ some. let same : cause ≡ Budget = cc in cc, λ o. let idle = o.0 in cc); memory = λ some. cc; budget = λ _. rw n most; none = λ none. cc }
  ends_as t n (Over end e stopped idle) =
      record {
        over = λ cause c. let f = found t.state end cause c stopped in rw (n, e) (λ some. (idle, f.0 some), λ o. f.1 o.1);
        memory = λ some. let same : end ≡ Memory = cc in (idle, rw (same, ← n) at stopped);
        budget = λ some. let same : end ≡ Budget = cc in absurd (rw same at stopped);
        none = λ none. cc;
      }

module _ (kinds : Family) where
  -- if the run had not ended, a commit works on the answer
  pub commits_end : (s : MachineView) (i : Input) (o : Outcome) (t : MachineView) → Commits kinds s i o t → s.end ≡ None → EndsAs kinds t
  commits_end s i o t h none = by_outcome o h
    where
      works : (o : Outcome) → WorksOn kinds s i o t → EndsAs kinds t
      works o h = ends_as kinds s.network t h.network (left kinds s.network h.works.between h.works.standings_between h.works.resolution (state_and_history_of t) t.standings (length t.history) t.end h.works.resolves h.works.end_is)

      by_outcome : (o : Outcome) → Commits kinds s i o t → EndsAs kinds t
      by_outcome (Done n) h = works (Done n) h
      by_outcome (Parks n) h = works (Parks n) h
      by_outcome LaidBack h = absurd (h.0 none)
