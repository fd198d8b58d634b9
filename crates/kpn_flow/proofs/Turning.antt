-- What a stretch does.
use Rattle.std.proofs.Common.{◌≡◌, ◌≢◌, List, [], ◌∷◌, ◌++◌, append-nil, append_assoc, length, length-append, refl, sym, ap, ◌∙◌, arith, ℕ, ◌+◌, ◌*◌, ◌<◌, ◌≤◌, None, false}
use Rattle.std.specs.List.{list_any, sum_by}
use Rattle.std.proofs.lemmas.Bool.{false_from_ne_true}
use Rattle.std.proofs.lemmas.List.Sums.{sum_by-set}
use Rattle.kpn_model.specs.declared.kinds.Answer.{Answer}
use Rattle.kpn_model.specs.declared.history.Deed.{Deed}
use Rattle.kpn_model.specs.declared.history.Deed.TheVariants.{Took, Put, Stopped as Halted}
use Rattle.kpn_model.specs.declared.history.Entry.{Entry}
use Rattle.kpn_model.specs.declared.history.Entry.TheVariants.{Did, Grew}
use Rattle.kpn_model.specs.Network.{Network, Family, Admits}
use Rattle.kpn_model.specs.History.{growths}
use Rattle.kpn_state.specs.StateAndHistory.{StateAndHistory}
use Rattle.kpn_state.specs.declared.standing.Standing.{Standing}
use Rattle.kpn_state.specs.declared.standing.Standing.TheVariants.{Ready, Out, Parked, Stopped as Ended}
use Rattle.kpn_state.specs.Standings.{standing, standing_after, is_busy, StandingsFit}
use Rattle.kpn_state.proofs.Placed.{standing_within, parked_not_ended}
use Rattle.kpn_commit.specs.declared.react.Reaction.{Reaction}
use Rattle.kpn_commit.specs.declared.react.Reaction.TheVariants.{Waits, Acts, HandsOn}
use Rattle.kpn_commit.specs.declared.resolution.Resolution.{Resolution}
use Rattle.kpn_commit.specs.Reactions.{Reacts}
use Rattle.kpn_commit.specs.Resolving.{Resolves, GrowsAndPuts}
use Rattle.kpn_commit.proofs.Working.{reaction_few}
use Rattle.kpn_machine.specs.Asking.{AreAsked}
use Rattle.kpn_machine.proofs.AskedInTurn.{asked_moves, asked_within}
use Rattle.kpn_machine.proofs.Moves.{resolves}
use Rattle.kpn_machine.proofs.Finishing.{some_ready}
use Rattle.kpn_flow.specs.Flows.{IsSettledIn}
use Rattle.kpn_flow.specs.Pauses.{OpenRun, NoneCanHelp}
use Rattle.kpn_flow.specs.Waits.{is_not_parked}
use Rattle.kpn_flow.proofs.Counting.{growths_both}
use Rattle.kpn_flow.proofs.Stretches.{run_both}

-- after its deed a process is not parked
acted_counts : (d : Deed) → is_not_parked (standing_after d) ≡ 1
acted_counts (Took c t) = refl
acted_counts (Put c t) = refl
acted_counts Halted = refl

module _ (kinds : Family) (admits : Admits) (net : Network) where
  -- after ready processes were asked no process is out
  pub asked_none_out :
      (until : ℕ) (rs : List Reaction) (s t : StateAndHistory) (l m : List Standing) → ((q : ℕ) → standing l q ≢ Out) → AreAsked kinds admits net until s l rs t m → (q : ℕ) → standing m q ≢ Out
  asked_none_out until [] s t l m none h q e = none q (sym (ap (λ (x : List Standing). standing x q) h.1) ∙ e)
  asked_none_out until (r ∷ rs) s t l m none h q e = asked_none_out until rs h.1 t h.2 m (λ x f. none x ((asked_moves h.3).sent x f).1) h.4 q e

  pub asked_settled :
      (until : ℕ) (rs : List Reaction) (s t : StateAndHistory) (l m : List Standing) → ((q : ℕ) → standing l q ≢ Out) → AreAsked kinds admits net until s l rs t m → StandingsFit kinds admits net None t.state m
      → IsSettledIn kinds admits net t.state m
  asked_settled until rs s t l m none h k = record { keeps = k; none_out = asked_none_out until rs s t l m none h }

  -- the last of them adds at most two entries
  pub asked_few : (until : ℕ) (rs : List Reaction) (s t : StateAndHistory) (l m : List Standing) → AreAsked kinds admits net until s l rs t m → length s.history ≤ until + 1 → length t.history ≤ until + 1
  asked_few until [] s t l m h few = rw h.0 few
  asked_few until (r ∷ rs) s t l m h few =
      let less = h.0 in
      let two = reaction_few kinds net s l h.3.process h.3.answer r h.1 h.2 h.3.reacts in
      asked_few until rs h.1 t h.2 m h.4 (omega arith)

  -- where nobody is asked nothing changes
  pub asked_nobody : (until : ℕ) (rs : List Reaction) (s t : StateAndHistory) (l m : List Standing) → length rs ≡ 0 → AreAsked kinds admits net until s l rs t m → t ≡ s
  asked_nobody until [] s t l m none h = h.0
  asked_nobody until (r ∷ rs) s t l m none h = absurd (omega arith)

  pub nobody_moved : (until : ℕ) (rs : List Reaction) (s t : StateAndHistory) (l m : List Standing) → length rs ≡ 0 → AreAsked kinds admits net until s l rs t m → m ≡ l
  nobody_moved until [] s t l m none h = h.1
  nobody_moved until (r ∷ rs) s t l m none h = absurd (omega arith)

  -- and the room stays
  pub asked_limit : (until : ℕ) (rs : List Reaction) (s t : StateAndHistory) (l m : List Standing) → AreAsked kinds admits net until s l rs t m → t.limit ≡ s.limit
  asked_limit until [] s t l m h = ap (λ (x : StateAndHistory). x.limit) h.0
  asked_limit until (r ∷ rs) s t l m h = asked_limit until rs h.1 t h.2 m h.4 ∙ (asked_moves h.3).limit

  pub resolved_settled :
      (s : StateAndHistory) (standings : List Standing) (x : Resolution) (t : StateAndHistory) (moved : List Standing) → ((q : ℕ) → standing standings q ≢ Out)
      → Resolves kinds net s standings x t moved → StandingsFit kinds admits net None t.state moved → IsSettledIn kinds admits net t.state moved
  resolved_settled s standings x t moved none h k = record { keeps = k; none_out = λ q e. none q ((resolves kinds net s standings x t moved h).sent q e).1 }

module _ (kinds : Family) (net : Network) (inputs outputs : List ℕ) where
  -- so many were asked: the entries that this added lead on, and each either did something or was parked
  pub record Turned (s t : StateAndHistory) (standings moved : List Standing) (asked grown : ℕ) : Type 0 where
    pub entries : List Entry
    pub history : t.history ≡ s.history ++ entries
    pub run : OpenRun kinds net inputs outputs s.state entries t.state
    pub grows : length (growths entries) ≡ grown
    pub goes : sum_by is_not_parked moved + asked ≤ sum_by is_not_parked standings + 2 * length entries

  -- what was added is the history, if there was none before
  pub record Alone (s t : StateAndHistory) (standings moved : List Standing) (asked grown : ℕ) : Type 0 where
    pub run : OpenRun kinds net inputs outputs s.state t.history t.state
    pub grows : length (growths t.history) ≡ grown
    pub goes : sum_by is_not_parked moved + asked ≤ sum_by is_not_parked standings + 2 * length t.history

  pub alone : (s t : StateAndHistory) (standings moved : List Standing) (asked grown : ℕ) → s.history ≡ [] → Turned s t standings moved asked grown → Alone s t standings moved asked grown
  alone s t standings moved asked grown none h =
      let is : t.history ≡ h.entries = h.history ∙ ap (λ (l : List Entry). l ++ h.entries) none in
      rw is (record { run = h.run; grows = h.grows; goes = h.goes })

  reacted_turned :
      (s : StateAndHistory) (standings : List Standing) (p : ℕ) (a : Answer) (r : Reaction) (t : StateAndHistory) (moved : List Standing) → p < length standings → standing standings p ≡ Ready → Reacts kinds net s standings p a r t moved
      → Turned s t standings moved 1 0
  reacted_turned s standings p a Waits t moved within ready h =
      let c = sum_by-set is_not_parked standings p (Parked a) Ended within in
      let one : is_not_parked (standing standings p) ≡ 1 = ap is_not_parked ready in
      let now = ap (λ (l : List Standing). sum_by is_not_parked l) h.2 in
      record { entries = []; history = ap (λ (x : StateAndHistory). x.history) h.1 ∙ sym (append-nil s.history); run = ap (λ (x : StateAndHistory). x.state) h.1; grows = refl; goes = omega arith }
  reacted_turned s standings p a Acts t moved within ready h =
      let c = sum_by-set is_not_parked standings p (standing_after h.0) Ended within in
      let one : is_not_parked (standing standings p) ≡ 1 = ap is_not_parked ready in
      let after = acted_counts h.0 in
      let now = ap (λ (l : List Standing). sum_by is_not_parked l) h.1.moves in
      record { entries = Did p h.0 ∷ []; history = ap (λ (x : StateAndHistory). x.history) h.1.entry; run = (t.state, h.1.does, refl); grows = refl; goes = omega arith }
  reacted_turned s standings p a HandsOn t moved within ready h =
      let e : Entry = Did p h.deed in
      let f : Entry = Did h.other h.handed in
      let first : h.between.history ≡ s.history ++ e ∷ [] = ap (λ (x : StateAndHistory). x.history) h.first.entry in
      let c = sum_by-set is_not_parked standings p (standing_after h.deed) Ended within in
      let one : is_not_parked (standing standings p) ≡ 1 = ap is_not_parked ready in
      let after = acted_counts h.deed in
      let there = standing_within h.standings_between h.other (λ x. parked_not_ended h.wanted (sym h.parked ∙ x)) in
      let d = sum_by-set is_not_parked h.standings_between h.other (standing_after h.handed) Ended there in
      let none : is_not_parked (standing h.standings_between h.other) ≡ 0 = ap is_not_parked h.parked in
      let last = acted_counts h.handed in
      let mid = ap (λ (l : List Standing). sum_by is_not_parked l) h.first.moves in
      let now = ap (λ (l : List Standing). sum_by is_not_parked l) h.second.moves in
      record {
        entries = e ∷ f ∷ [];
        history = ap (λ (x : StateAndHistory). x.history) h.second.entry ∙ ap (λ (l : List Entry). l ++ f ∷ []) first ∙ append_assoc s.history (e ∷ []) (f ∷ []);
        run = (h.between.state, h.first.does, (t.state, h.second.does, refl));
        grows = refl;
        goes = omega arith;
      }

  -- ready processes that are asked one after the other
  pub asked_turned :
      (admits : Admits) (until : ℕ) (rs : List Reaction) (s t : StateAndHistory) (l m : List Standing) → AreAsked kinds admits net until s l rs t m → Turned s t l m (length rs) 0
  asked_turned admits until [] s t l m h =
      let same = ap (λ (x : List Standing). sum_by is_not_parked x) h.1 in
      record { entries = []; history = ap (λ (x : StateAndHistory). x.history) h.0 ∙ sym (append-nil s.history); run = ap (λ (x : StateAndHistory). x.state) h.0; grows = refl; goes = omega arith }
  asked_turned admits until (r ∷ rs) s t l m h =
      let asked = h.3 in
      let one = reacted_turned s l asked.process asked.answer r h.1 h.2 (asked_within asked) asked.ready asked.reacts in
      let rest = asked_turned admits until rs h.1 t h.2 m h.4 in
      let first = one.goes in
      let second = rest.goes in
      let long = length-append one.entries rest.entries in
      record {
        entries = one.entries ++ rest.entries;
        history = rest.history ∙ ap (λ (x : List Entry). x ++ rest.entries) one.history ∙ append_assoc s.history one.entries rest.entries;
        run = run_both kinds net inputs outputs s.state h.1.state t.state one.entries rest.entries one.run rest.run;
        grows = omega (arith, growths_both one.entries rest.entries, one.grows, rest.grows);
        goes = omega arith;
      }

  -- a growth where the outside can't help, and the put that follows
  pub enlarged_turned :
      (s : StateAndHistory) (standings : List Standing) (t : StateAndHistory) (moved : List Standing) → NoneCanHelp kinds net inputs outputs s.state → GrowsAndPuts kinds net s standings t moved → Turned s t standings moved 1 1
  enlarged_turned s standings t moved none h =
      let e : Entry = Grew h.channel h.to in
      let f : Entry = Did h.writer (Put h.channel h.token) in
      let there = standing_within standings h.writer (λ x. parked_not_ended h.wanted (sym h.parked ∙ x)) in
      let c = sum_by-set is_not_parked standings h.writer Ready Ended there in
      let parked : is_not_parked (standing standings h.writer) ≡ 0 = ap is_not_parked h.parked in
      let now = ap (λ (l : List Standing). sum_by is_not_parked l) h.puts.moves in
      record {
        entries = e ∷ f ∷ [];
        history = ap (λ (x : StateAndHistory). x.history) h.puts.entry ∙ append_assoc s.history (e ∷ []) (f ∷ []);
        run = (h.grown, (h.grows, none), (t.state, h.puts.does, refl));
        grows = refl;
        goes = omega arith;
      }

-- if none is ready or out, none is busy
pub none_busy : (standings : List Standing) → ((p : ℕ) → standing standings p ≢ Out) → ((p : ℕ) → standing standings p ≢ Ready) → list_any is_busy standings ≡ false
none_busy standings out ready = false_from_ne_true (list_any is_busy standings) (λ e. some_ready standings e out ready)
