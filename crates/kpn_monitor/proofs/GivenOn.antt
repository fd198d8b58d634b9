-- Answers that are given one after the other, where processes may go out again.
use Rattle.std.proofs.Common.{◌≡◌, ◌∙◌, inl, inr, ℕ, ◌+◌, ◌<◌, List, [], ◌∷◌, ◌++◌, length, length-set, set, refl, ap, sym, subst, arith, true, false, append-nil}
use Rattle.std.proofs.lemmas.List.{set-set, set-get_or}
use Rattle.std.proofs.lemmas.List.Elements.{All-append}
use Rattle.std.specs.List.{All}
use Rattle.kpn_model.specs.Network.{Network, Family, Admits}
use Rattle.kpn_model.specs.Semantics.{wants, IsEnabled}
use Rattle.kpn_body.specs.Input.{Input}
use Rattle.kpn_state.specs.declared.standing.Standing.{Standing}
use Rattle.kpn_state.specs.declared.standing.Standing.TheVariants.{Ready, Out, Stopped}
use Rattle.kpn_state.specs.Standings.{standing, is_busy, parked_answer}
use Rattle.kpn_state.proofs.Placed.{standing_set_same, standing_within, busy_at}
use Rattle.kpn_commit.specs.declared.outcome.Outcome.{Outcome}
use Rattle.kpn_commit.specs.declared.outcome.Outcome.TheVariants.{Done, Parked, LaidBack}
use Rattle.kpn_commit.proofs.Keeping.{each_set}
use Rattle.kpn_machine.specs.MachineView.{MachineView, TakesOut, IsOut, IsFaithful}
use Rattle.kpn_machine.specs.Commits.{Commits, CommitsOn, Appends, entries_appended}
use Rattle.kpn_monitor.specs.Views.{Placed}
use Rattle.kpn_monitor.specs.Kept.{WasCommitted, WasTaken}
use Rattle.kpn_monitor.specs.Hands.{Gives, WereCommitted}
use Rattle.kpn_monitor.specs.Places.{GivesFirst}
use Rattle.kpn_monitor.proofs.Handing.{gives_more, committed_more, length_more, one_at}

-- a commit is in the same network
pub commits_network : (kinds : Family) (s : MachineView) (i : Input) (o : Outcome) (t : MachineView) → Commits kinds s i o t → t.network ≡ s.network
commits_network kinds s i (Done n) t one = one.network
commits_network kinds s i (Parked n) t one = one.network
commits_network kinds s i LaidBack t one = ap (λ (x : MachineView). x.network) one.1

-- what holds of a machine of which a process went out held of it before
module _ (kinds : Family) (admits : Admits) (s : MachineView) (i : Input) (t : MachineView) (takes : TakesOut s i t) where
  within : i.process < length s.standings
  within = let ready = takes.ready in standing_within s.standings i.process (λ e. cc)

  out_within : i.process < length (set s.standings i.process Out)
  out_within = let w = within in omega (arith, length-set s.standings i.process Out)

  back : set (set s.standings i.process Out) i.process Ready ≡ s.standings
  back = set-set s.standings i.process Out Ready ∙ ap (set s.standings i.process) (sym takes.ready) ∙ set-get_or s.standings i.process Stopped

  pub faithful_before : IsFaithful kinds admits t → IsFaithful kinds admits s
  faithful_before after =
      let f : IsFaithful kinds admits (record s { standings = set s.standings i.process Out }) = subst (IsFaithful kinds admits) takes.after after in
      let stands : standing (set s.standings i.process Out) i.process ≡ Out = standing_set_same s.standings i.process Out within in
      record {
        run = f.run;
        within = f.within;
        well_typed = f.well_typed;
        justified = f.justified;
        none_held_back = λ p. subst (λ (l : List Standing). IsEnabled kinds s.network s.state p → is_busy (standing l p) ≡ true) back
            (each_set (λ q (y : Standing). IsEnabled kinds s.network s.state q → is_busy y ≡ true) (set s.standings i.process Out) i.process Ready Stopped out_within (λ enabled. refl) (λ q o. f.none_held_back q) p);
        wanted = λ p. subst (λ (l : List Standing). is_busy (standing l p) ≡ false → wants kinds s.network s.state p ≡ parked_answer (standing l p)) back
            (each_set (λ q (y : Standing). is_busy y ≡ false → wants kinds s.network s.state q ≡ parked_answer y) (set s.standings i.process Out) i.process Ready Stopped out_within (λ idle. absurd (cc)) (λ q o. f.wanted q) p);
        some_busy = λ none. busy_at s.standings i.process (ap is_busy takes.ready);
        none_busy = λ cause is not. absurd (let busy = busy_at (set s.standings i.process Out) i.process (ap is_busy stands) in let idle = f.none_busy cause is not in cc);
        few_entries = f.few_entries;
        few_commits = f.few_commits;
      }

-- the first answer was given, and the process does not go out again
pub gave_up : (kinds : Family) (admits : Admits) (s : MachineView) (p : Placed) (t : MachineView) (q : Placed) (i : Input) (o : Outcome)
    → p.tasks ≡ i ∷ q.tasks → p.called ≡ q.called + 1 → q.outcomes ≡ p.outcomes ++ o ∷ [] → q.again ≡ p.again → Commits kinds s i o t → Appends kinds s t (entries_appended o) → WasCommitted kinds admits s.network i o → GivesFirst kinds admits s p t q
gave_up kinds admits s p t q i o first called outcomes again commits appends committed = record {
  input = i;
  outcome = o;
  between = t;
  more = [];
  first = first;
  called = called;
  outcomes = outcomes;
  again = again ∙ sym (append-nil p.again);
  commits = commits;
  appends = appends;
  out = inl (refl, refl);
  network = commits_network kinds s i o t commits;
  committed = committed;
  taken = λ k d below. absurd (omega arith);
}

-- the first answer was given, and the process went out again
pub gave_on_again : (kinds : Family) (admits : Admits) (s : MachineView) (p : Placed) (t : MachineView) (q : Placed) (i j : Input) (o : Outcome)
    → p.tasks ≡ i ∷ q.tasks → p.called ≡ q.called + 1 → q.outcomes ≡ p.outcomes ++ o ∷ [] → q.again ≡ p.again ++ j ∷ [] → IsFaithful kinds admits s → IsOut s i → IsFaithful kinds admits t → CommitsOn kinds s i o j t → GivesFirst kinds admits s p t q
gave_on_again kinds admits s p t q i j o first called outcomes again before out after on =
    let same = commits_network kinds s i o on.between on.commits in
    record {
      input = i;
      outcome = o;
      between = on.between;
      more = j ∷ [];
      first = first;
      called = called;
      outcomes = outcomes;
      again = again;
      commits = on.commits;
      appends = on.appends;
      out = inr (j, refl, on.takes);
      network = ap (λ (x : MachineView). x.network) on.takes.after ∙ same;
      committed = record { before = s; after = on.between; network = refl; faithful = before; out = out; commits = on.commits; appends = on.appends; tells = on.tells };
      taken = one_at (WasTaken kinds admits s.network) j (record { before = on.between; after = t; network = same; faithful = faithful_before kinds admits on.between j t on.takes after; takes = on.takes });
    }

-- what holds after answers were given
pub record GaveSome (kinds : Family) (admits : Admits) (s : MachineView) (tasks : List Input) (t : MachineView) (q : Placed) (called : ℕ) : Type 0 where
  pub machine : Gives kinds s tasks q.outcomes q.again t q.tasks
  pub network : t.network ≡ s.network
  pub committed : WereCommitted kinds admits s.network tasks q.outcomes q.tasks
  pub taken : All (WasTaken kinds admits s.network) q.again
  pub called_is : q.called + length q.outcomes ≡ called
  pub count : length q.tasks + length q.outcomes ≡ length tasks

-- holds after one more
pub gives_first : (kinds : Family) (admits : Admits) (s : MachineView) (tasks : List Input) (m : MachineView) (p : Placed) (called : ℕ) (t : MachineView) (q : Placed) → GaveSome kinds admits s tasks m p called → GivesFirst kinds admits m p t q
    → GaveSome kinds admits s tasks t q called
gives_first kinds admits s tasks m p called t q before one =
    let gives : Gives kinds s tasks p.outcomes p.again m (one.input ∷ q.tasks) = subst (λ (l : List Input). Gives kinds s tasks p.outcomes p.again m l) one.first before.machine in
    let were : WereCommitted kinds admits s.network tasks p.outcomes (one.input ∷ q.tasks) = subst (λ (l : List Input). WereCommitted kinds admits s.network tasks p.outcomes l) one.first before.committed in
    let was : WasCommitted kinds admits s.network one.input one.outcome = subst (λ (n : Network). WasCommitted kinds admits n one.input one.outcome) before.network one.committed in
    let more : All (WasTaken kinds admits s.network) one.more = subst (λ (n : Network). All (WasTaken kinds admits n) one.more) before.network one.taken in
    let longer : length q.outcomes ≡ length p.outcomes + 1 = ap length one.outcomes ∙ length_more p.outcomes one.outcome in
    record {
      machine = subst (λ (l : List Outcome). Gives kinds s tasks l q.again t q.tasks) (sym one.outcomes)
          (subst (λ (l : List Input). Gives kinds s tasks (p.outcomes ++ one.outcome ∷ []) l t q.tasks) (sym one.again) (gives_more kinds s tasks p.outcomes p.again m one.input q.tasks one.outcome one.between one.more t gives one.commits one.appends one.out));
      network = one.network ∙ before.network;
      committed = subst (λ (l : List Outcome). WereCommitted kinds admits s.network tasks l q.tasks) (sym one.outcomes) (committed_more kinds admits s.network tasks p.outcomes one.input q.tasks one.outcome were was);
      taken = subst (λ (l : List Input). All (WasTaken kinds admits s.network) l) (sym one.again) (All-append (WasTaken kinds admits s.network) p.again one.more before.taken more);
      called_is = omega (arith, before.called_is, one.called, longer);
      count = omega (arith, before.count, ap length one.first, longer);
    }
