-- The machine's invariant is kept while processes go out and come back, and while they are asked where they stand.
use Rattle.std.proofs.Common.{◌≡◌, ◌≢◌, ◌⊎◌, ◌↔◌, ⊎_elim, inl, inr, List, length, length-append, refl, ap, ◌∙◌, arith, ℕ, ◌+◌, ◌<◌, ◌≤◌, true, false, Some, None, Option, set, length-set}
use Rattle.std.specs.Option.{is_some}
use Rattle.std.specs.List.{list_any}
use Rattle.kpn_model.specs.declared.kinds.Card.{Card}
use Rattle.kpn_model.specs.declared.kinds.Signature.{Signature}
use Rattle.kpn_model.specs.declared.kinds.Answer.{Answer}
use Rattle.kpn_model.specs.declared.history.Entry.{Entry}
use Rattle.kpn_model.specs.declared.history.End.{End}
use Rattle.kpn_model.specs.Network.{Network, Family, card_of, Admits}
use Rattle.kpn_model.specs.Semantics.{State, wants, start, status, IsRun}
use Rattle.kpn_model.specs.Moments.{IsWithin, AtEachMoment}
use Rattle.kpn_model.specs.Valid.{IsValid, IsWellTyped, StaysWellTyped}
use Rattle.kpn_laws.specs.ValidRuns.{StaysWithin}
use Rattle.kpn_laws.proofs.EachMoment.{enabled_can_do, prefixes}
use Rattle.kpn_body.specs.Input.{Input, answer_to, input}
use Rattle.kpn_state.specs.StateAndHistory.{StateAndHistory, state_and_history}
use Rattle.kpn_state.specs.declared.standing.Standing.{Standing}
use Rattle.kpn_state.specs.declared.standing.Standing.TheVariants.{Ready, Out}
use Rattle.kpn_state.specs.Standings.{standing, is_busy, parked_answer, StandingsFit}
use Rattle.kpn_state.proofs.Placed.{standing_set_same, standing_set_other, standing_within, busy_at}
use Rattle.kpn_commit.specs.declared.react.Reaction.{Reaction}
use Rattle.kpn_commit.specs.declared.react.Reaction.TheVariants.{Waits, Acts, HandsOn}
use Rattle.kpn_commit.specs.declared.resolution.Resolution.{Resolution}
use Rattle.kpn_commit.specs.declared.outcome.Outcome.{Outcome}
use Rattle.kpn_commit.specs.Reactions.{Reacts, Acted}
use Rattle.kpn_commit.specs.Resolving.{Resolves}
use Rattle.kpn_commit.specs.Works.{Works, resolution_entries, outcome_of}
use Rattle.kpn_commit.proofs.Keeping.{each_set, keeps_busy}
use Rattle.kpn_commit.proofs.Idle.{enabled_busy}
use Rattle.kpn_commit.proofs.Working.{handed_busy, grows_exactly}
use Rattle.kpn_machine.specs.MachineView.{MachineView, machine_view, IsOutAt, HasBodies, waits, stays_in, IsSound, IsFaithful}
use Rattle.kpn_machine.specs.Commits.{entries_appended, Appends, WorksOn, Commits, TellsEnabled, GoesRound}
use Rattle.kpn_machine.proofs.Ends.{left, left_stands, left_busy, left_idle}
use Rattle.kpn_machine.proofs.Moves.{run_both, moved_count, waiting_in, in_within, out_or_not, works}
use Rattle.std.proofs.lemmas.List.{set-set, set-get_or}
use Rattle.kpn_model.specs.declared.history.Deed.{Deed}
use Rattle.kpn_laws.proofs.WellTypedDeeds.{live_of}

module _ (kinds : Family) (net : Network) where
  -- what follows a reaction appends no entry, or two if no process was ready or out
  resolution_few : (s : StateAndHistory) (l : List Standing) (x : Resolution) (t : StateAndHistory) (m : List Standing) → Resolves kinds net s l x t m → (resolution_entries x ≡ 0) ⊎ ((resolution_entries x ≡ 2) × (list_any is_busy l ≡ false))
  resolution_few s l x t m h = grind arith

  -- done with 1 to 3 entries if the process could go on, parked with 0 or 2 if it couldn't
  tells :
      (v : MachineView) (s : StateAndHistory) (p : ℕ) (a : Answer) (r : Reaction) (x : Resolution) (t : StateAndHistory) (m : List Standing) → v.network ≡ net → v.state ≡ s.state → p < length v.standings → Reacts kinds net s v.standings p a r t m
      → (resolution_entries x ≡ 0) ⊎ ((resolution_entries x ≡ 2) × (list_any is_busy m ≡ false)) → TellsEnabled kinds v p (outcome_of r x)
  tells v s p a Waits x t m n same within h few = rw (n, same) (h.0, ⊎_elim (λ e. inl e) (λ e. inr e.0) few)
  tells v s p a Acts x t m n same within h few = rw (n, same) ((enabled_can_do kinds net s.state p).1 (h.0, (t.state, h.1.does)), omega arith, omega arith)
  tells v s p a HandsOn x t m n same within h few =
      rw (n, same)
      ((enabled_can_do kinds net s.state p).1 (h.deed, (h.between.state, h.first.does)), omega arith, ⊎_elim (λ e. omega arith) (λ e. let busy = handed_busy within h in let idle = e.1 in cc) few)

-- an outcome's number is at most 3
few_entries : (kinds : Family) (s : MachineView) (p : ℕ) (o : Outcome) → TellsEnabled kinds s p o → entries_appended o ≤ 3
few_entries kinds s p o h = grind arith

-- in a run that had not ended a commit works on the answer
commits_of : (kinds : Family) (s : MachineView) (i : Input) (o : Outcome) (t : MachineView) → s.end ≡ None → TellsEnabled kinds s i.process o → WorksOn kinds s i o t → Commits kinds s i o t
commits_of kinds s i o t none told h = grind arith

-- what holds of every state that a run leads to holds at each moment of a run
at_each_moment : (kinds : Family) (net : Network) (E : List Entry) (M : State) (P : State → Type 0) → IsRun kinds net E M → ((F : List Entry) (N : State) → IsRun kinds net F N → P N) → AtEachMoment kinds net E P
at_each_moment kinds net E M P run holds F G is = let parts = prefixes kinds net (start kinds net) M F G (rw is run) in (parts.0, parts.1, holds F parts.0 parts.1)

-- a body that comes back joins the others
bodies_back :
    (net : Network) (l m : List Standing) (bodies : List (Option Card)) (p : ℕ) (card : Card) → p < length bodies → card_of net p ≡ card → HasBodies net l bodies → ((q : ℕ) → q ≢ p → standing l q ≡ Out → standing m q ≡ Out)
    → HasBodies net m (set bodies p (Some card))
bodies_back net l m bodies p card within is has keeps =
    each_set (λ q (b : Option Card). q < length net.processes → standing m q ≢ Out → b ≡ Some (card_of net q)) bodies p (Some card) None within (λ there n. cc)
    (λ q o there n. ⊎_elim (λ e. absurd (n (keeps q o e))) (λ ne. has q there ne) (out_or_not (standing l q)))

module _ {kinds : Family} {admits : Admits} where
  -- a process that is neither ready nor out wants what it answered
  pub idle_wants : {net : Network} {M : State} {l : List Standing} → StandingsFit kinds admits net None M l → (p : ℕ) (x : Standing) → standing l p ≡ x → is_busy x ≡ false → wants kinds net M p ≡ parked_answer x
  idle_wants k p x e idle = grind (arith, k.wanted p, k.stopped p)

  pub sound_faithful :
      (signature : Card → Option Signature) (s : MachineView) (limit : ℕ) (bodies : List (Option Card)) → IsValid signature s.network → StaysWithin signature kinds → StaysWellTyped signature admits kinds
      → IsSound kinds admits s limit bodies → IsFaithful kinds admits s
  sound_faithful signature s limit bodies valid within well_typed h =
      let most = in_within s.standings in
      let many = h.keeps.one_each in
      let laid = h.laid in
      record {
        run = h.run;
        within = at_each_moment kinds s.network s.history s.state IsWithin h.run (within s.network valid);
        well_typed = at_each_moment kinds s.network s.history s.state (IsWellTyped admits s.network) h.run (well_typed s.network valid);
        justified = h.ends;
        none_held_back = enabled_busy h.keeps;
        wanted = λ p idle. idle_wants h.keeps p (standing s.standings p) refl idle;
        some_busy = h.busy;
        none_busy = h.idle;
        few_entries = h.few;
        few_commits = omega arith;
      }

  module _ {net : Network} {M : State} {E : List Entry} {l : List Standing} {end : Option End} {answers limit : ℕ} {bodies : List (Option Card)} (h : IsSound kinds admits (machine_view net M E l end answers) limit bodies) where
    -- there are at most as many commits as entries and processes
    pub commits_fit : answers ≤ length E + length net.processes
    commits_fit = let a = in_within l in let b = h.keeps.one_each in let c = h.laid in omega arith

    -- a process that is ready or out is live, and goes out or is made ready
    keeps_moved : (p : ℕ) (x : Standing) → is_busy (standing l p) ≡ true → is_busy x ≡ true → StandingsFit kinds admits net None M (set l p x)
    keeps_moved p x before after = keeps_busy h.keeps p x (standing_within l p (λ e. cc)) (λ q o f. cc) after (λ e. let ended = h.keeps.done p e in cc)

    pub sound_taken : (p : ℕ) → end ≡ None → standing l p ≡ Ready → IsSound kinds admits (machine_view net M E (set l p Out) end answers) limit (set bodies p None)
    sound_taken p none ready =
        let within : p < length l = standing_within l p (λ e. cc) in
        let now : standing (set l p Out) p ≡ Out = standing_set_same l p Out within in
        let count = moved_count waits l p Out within in
        let was : waits (standing l p) ≡ 0 = rw ready in
        let asked = h.asked none in
        let most = waiting_in (set l p Out) in
        let many = h.many_bodies in
        let one = h.keeps.one_each in
        record {
          run = h.run;
          keeps = keeps_moved p Out (rw ready) refl;
          limit_is = h.limit_is;
          many_bodies = length-set bodies p None ∙ h.many_bodies;
          has_bodies = each_set (λ q (b : Option Card). q < length net.processes → standing (set l p Out) q ≢ Out → b ≡ Some (card_of net q)) bodies p None None (omega arith) (λ there n. absurd (n now))
              (λ q o there n. h.has_bodies q there (λ e. n (standing_set_other l p q Out o ∙ e)));
          few = h.few;
          ends = h.ends;
          busy = λ e. busy_at (set l p Out) p (rw now);
          idle = λ stop e not. cc;
          asked = λ e. omega arith;
          laid = omega arith;
        }

    module _ (i : Input) (out : IsOutAt net M l i) where
      pub out_within : i.process < length l
      out_within = let is = out.out in standing_within l i.process (λ e. cc)

      out_bodies : i.process < length bodies
      out_bodies = let a = out_within in let b = h.many_bodies in let c = h.keeps.one_each in omega arith

      pub sound_back : end ≢ None → IsSound kinds admits (machine_view net M E (set l i.process Ready) end (answers + 1)) limit (set bodies i.process (Some i.card))
      sound_back over =
          let count = moved_count stays_in l i.process Ready out_within in
          let was : stays_in (standing l i.process) ≡ 0 = rw out.out in
          let laid = h.laid in
          record {
            run = h.run;
            keeps = keeps_moved i.process Ready (rw out.out) refl;
            limit_is = h.limit_is;
            many_bodies = length-set bodies i.process (Some i.card) ∙ h.many_bodies;
            has_bodies = bodies_back net l (set l i.process Ready) bodies i.process i.card out_bodies out.card h.has_bodies (λ q o e. standing_set_other l i.process q Ready o ∙ e);
            few = h.few;
            ends = h.ends;
            busy = λ e. absurd (over e);
            idle = λ stop e not. let busy = busy_at l i.process (rw out.out) in let idle = h.idle stop e not in cc;
            asked = λ e. absurd (over e);
            laid = omega arith;
          }

      -- its task is taken back
      pub sound_returned : IsSound kinds admits (machine_view net M E (set l i.process Ready) end answers) limit (set bodies i.process (Some i.card))
      sound_returned =
          let count = moved_count stays_in l i.process Ready out_within in
          let was : stays_in (standing l i.process) ≡ 0 = rw out.out in
          let waiting = moved_count waits l i.process Ready out_within in
          let waited : waits (standing l i.process) ≡ 0 = rw out.out in
          let here : standing (set l i.process Ready) i.process ≡ Ready = standing_set_same l i.process Ready out_within in
          let laid = h.laid in
          record {
            run = h.run;
            keeps = keeps_moved i.process Ready (rw out.out) refl;
            limit_is = h.limit_is;
            many_bodies = length-set bodies i.process (Some i.card) ∙ h.many_bodies;
            has_bodies = bodies_back net l (set l i.process Ready) bodies i.process i.card out_bodies out.card h.has_bodies (λ q o e. standing_set_other l i.process q Ready o ∙ e);
            few = h.few;
            ends = h.ends;
            busy = λ e. busy_at (set l i.process Ready) i.process (rw here);
            idle = λ stop e not. let busy = busy_at l i.process (rw out.out) in let idle = h.idle stop e not in cc;
            asked = λ e. let asked = h.asked e in omega arith;
            laid = omega arith;
          }

      -- the answer is worked on
      pub record Worked (o : Outcome) (t : MachineView) (left : ℕ) : Type 0 where
        pub commits : Commits kinds (machine_view net M E l end answers) i o t
        pub appends : Appends kinds (machine_view net M E l end answers) t (entries_appended o)
        pub tells : TellsEnabled kinds (machine_view net M E l end answers) i.process o
        pub back : standing t.standings i.process ≢ Out
        pub others : (q : ℕ) → q ≢ i.process → (standing t.standings q ≡ Out) ↔ (standing l q ≡ Out)
        pub sound : IsSound kinds admits t left (set bodies i.process (Some i.card))

      pub worked :
          end ≡ None → (o : Outcome) (N : State) (F : List Entry) (m : List Standing) (stop : Option End) (rest : ℕ) → Works kinds net (state_and_history M E limit) l i.process (answer_to kinds i) o (state_and_history N F rest) m stop
          → StandingsFit kinds admits net None N m → Worked o (machine_view net N F m stop (answers + 1)) rest
      worked none o N F m stop rest w k =
          let goes = works out_within w in
          let v = rw (goes.limit, h.limit_is) at w in
          let told : TellsEnabled kinds (machine_view net M E l end answers) i.process o = rw w.outcome_is
          (tells kinds net (machine_view net M E l end answers) (state_and_history M E limit) i.process (answer_to kinds i) w.reaction w.resolution w.between w.standings_between refl refl out_within w.reacts
          (resolution_few kinds net w.between w.standings_between w.resolution (state_and_history N F rest) m w.resolves)) in
          let ended = left kinds net w.between w.standings_between w.resolution (state_and_history N F rest) m (length F) stop w.resolves w.end_is in
          let longer : length F ≡ length E + length goes.entries = ap length goes.history ∙ length-append E goes.entries in
          let before : length E < net.budget = rw none at h.ends in
          let most = few_entries kinds (machine_view net M E l end answers) i.process o told in
          let was : waits (standing l i.process) ≡ 0 = rw out.out in
          let asked = h.asked none in
          let waiting = waiting_in m in
          let few : length F ≤ net.budget + 2 = omega arith in
          record {
            commits = commits_of kinds (machine_view net M E l end answers) i o (machine_view net N F m stop (answers + 1)) none told
                (record { before = none; network = refl; commits = refl; works = v; grows = λ not. grows_exactly kinds net v.between v.standings_between v.resolution (state_and_history N F (net.budget + 2)) m net.budget (length F) v.resolves (λ e. not (v.end_is ∙ e)) });
            appends = record { entries = goes.entries; history = goes.history; run = goes.run; count = goes.count };
            tells = told;
            back = λ e. (goes.sent i.process e).0 refl;
            others = λ q ne. (λ e. (goes.sent q e).1, λ e. goes.stay q (λ f. ne (cc)) e);
            sound = record {
              run = rw goes.history (run_both kinds net (start kinds net) M N E goes.entries h.run goes.run);
              keeps = k;
              limit_is = goes.limit ∙ h.limit_is;
              many_bodies = length-set bodies i.process (Some i.card) ∙ h.many_bodies;
              has_bodies = bodies_back net l m bodies i.process i.card out_bodies out.card h.has_bodies (λ q o e. goes.stay q (λ f. o (cc)) e);
              few = few;
              ends = left_stands kinds net N F m stop few ended;
              busy = left_busy kinds net ended;
              idle = left_idle kinds net ended;
              asked = λ e. omega arith;
              laid = omega arith;
            };
          }

-- an option that is not `Some` is `None`
pub none_of : (o : Option End) → is_some o ≡ false → o ≡ None
none_of o e = grind arith

-- an option that is `Some` is not `None`
pub some_of : (o : Option End) → is_some o ≡ true → o ≢ None
some_of o e f = grind arith

module _ (kinds : Family) (net : Network) where
  -- what a process does is the same whether it was ready or out
  acted_out : {s t : StateAndHistory} {l m : List Standing} {p : ℕ} {d : Deed} → Acted kinds net s l p d t m → Acted kinds net s (set l p Out) p d t m
  acted_out {l = l} {p = p} {d = d} h = record { does = h.does; entry = h.entry; moves = rw set-set h.moves }

  reacts_out : (s : StateAndHistory) (l : List Standing) (p : ℕ) (a : Answer) (r : Reaction) (t : StateAndHistory) (m : List Standing) → Reacts kinds net s l p a r t m → Reacts kinds net s (set l p Out) p a r t m
  reacts_out s l p a Waits t m h = (h.0, h.1, rw set-set h.2)
  reacts_out s l p a Acts t m h = (h.0, acted_out h.1)
  reacts_out s l p a HandsOn t m h =
      record { deed = h.deed; between = h.between; standings_between = h.standings_between; first = acted_out h.first; other = h.other; wanted = h.wanted; at_other_end = h.at_other_end; parked = h.parked; handed = h.handed; second = h.second }

  works_out :
      (s : StateAndHistory) (l : List Standing) (p : ℕ) (a : Answer) (o : Outcome) (t : StateAndHistory) (m : List Standing) (end : Option End) → Works kinds net s l p a o t m end → Works kinds net s (set l p Out) p a o t m end
  works_out s l p a o t m end w =
      record { reaction = w.reaction; between = w.between; standings_between = w.standings_between; reacts = reacts_out s l p a w.reaction w.between w.standings_between w.reacts; resolution = w.resolution; resolves = w.resolves; outcome_is = w.outcome_is; end_is = w.end_is }

-- a round keeps the invariant, and is one of the definitions
pub record Round (kinds : Family) (admits : Admits) (s t : MachineView) (limit : ℕ) (bodies : List (Option Card)) : Type 0 where
  pub sound : IsSound kinds admits t limit bodies
  pub goes : GoesRound kinds s t

pub goes_round :
    {kinds : Family} {admits : Admits} {net : Network} {M : State} {E : List Entry} {l : List Standing} {end : Option End} {commits limit : ℕ} {bodies : List (Option Card)} → IsSound kinds admits (machine_view net M E l end commits) limit bodies → (p : ℕ) (a : Answer) → end ≡ None → standing l p ≡ Ready → wants kinds net M p ≡ Some a
    → (o : Outcome) (N : State) (F : List Entry) (m : List Standing) (stop : Option End) (rest : ℕ) → Works kinds net (state_and_history M E limit) l p a o (state_and_history N F rest) m stop → StandingsFit kinds admits net None N m
    → Round kinds admits (machine_view net M E l end commits) (machine_view net N F m stop (commits + 1)) rest bodies
goes_round {kinds = kinds} {net = net} {M = M} {E = E} {l = l} {end = end} {commits = commits} {limit = limit} {bodies = bodies} h p a none ready wanted o N F m stop rest works k =
    let within : p < length l = standing_within l p (λ e. cc) in
    let live = live_of kinds net p (status M p) a wanted in
    let i : Input = input p (card_of net p) live.0 live.1.0 in
    let out : IsOutAt net M (set l p Out) i = record { out = standing_set_same l p Out within; card = refl; live = live.1.1 } in
    let one = h.keeps.one_each in
    let has = h.has_bodies p (omega arith) (λ e. cc) in
    let w = worked (sound_taken h p none ready) i out none o N F m stop rest (rw live.1.2 (works_out kinds net (state_and_history M E limit) l p a o (state_and_history N F rest) m stop works)) k in
    let seated : set (set bodies p None) p (Some (card_of net p)) ≡ bodies = rw (set-set, ← has) (set-get_or bodies p None) in
    record {
      sound = rw seated at w.sound;
      goes = record { input = i; between = machine_view net M E (set l p Out) end commits; outcome = o; takes = record { ready = ready; card = refl; live = live.1.1; after = refl }; commits = w.commits; appends = w.appends; tells = w.tells; back = w.back; others = w.others };
    }
