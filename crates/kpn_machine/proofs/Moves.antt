-- A commit as small steps: one process after the other moves on.
use Rattle.std.proofs.Common.{◌≡◌, ◌≢◌, ◌⊎◌, List, [], ◌∷◌, ◌++◌, append_assoc, append-nil, length, length-append, length-set, refl, ◌∙◌, arith, ℕ, ◌+◌, ◌<◌, ◌≤◌, Option, Some, None, set}
use Rattle.std.specs.List.{sum_by}
use Rattle.std.proofs.lemmas.List.Sums.{sum_by-set, sum_by-le, sum_by-le-sum_by}
use Rattle.kpn_model.specs.declared.kinds.Answer.{Answer}
use Rattle.kpn_model.specs.declared.history.Deed.{Deed}
use Rattle.kpn_model.specs.declared.history.Deed.TheVariants.{Put}
use Rattle.kpn_model.specs.declared.history.Entry.{Entry}
use Rattle.kpn_model.specs.declared.history.Entry.TheVariants.{Did, Grew}
use Rattle.kpn_model.specs.declared.history.End.{End}
use Rattle.kpn_model.specs.Network.{Network, Family}
use Rattle.kpn_model.specs.Semantics.{State, Run}
use Rattle.kpn_state.specs.StateAndHistory.{StateAndHistory}
use Rattle.kpn_state.specs.declared.standing.Standing.{Standing}
use Rattle.kpn_state.specs.declared.standing.Standing.TheVariants.{Ready, Out, Parked, Stopped}
use Rattle.kpn_state.specs.Standings.{standing, standing_after}
use Rattle.kpn_state.proofs.Placed.{acted_not_out, standing_within}
use Rattle.kpn_commit.specs.declared.react.Reaction.{Reaction}
use Rattle.kpn_commit.specs.declared.react.Reaction.TheVariants.{Waits, Acts, HandsOn}
use Rattle.kpn_commit.specs.declared.resolution.Resolution.{Resolution}
use Rattle.kpn_commit.specs.declared.resolution.Resolution.TheVariants.{Busy, Ended as Over, Enlarged}
use Rattle.kpn_commit.specs.declared.outcome.Outcome.{Outcome}
use Rattle.kpn_commit.specs.Reactions.{Acted, Reacts}
use Rattle.kpn_commit.specs.Resolving.{Resolves}
use Rattle.kpn_commit.specs.Works.{Works, acted_entries, resolution_entries, outcome_of}
use Rattle.kpn_commit.proofs.Keeping.{each_set}
use Rattle.kpn_machine.specs.MachineView.{waits, stays_in}
use Rattle.kpn_machine.specs.Commits.{entries_appended}

-- a process is out or it isn't
pub out_or_not : (x : Standing) → (x ≡ Out) ⊎ (x ≢ Out)
out_or_not x = grind arith

-- how a move changes a count
pub moved_count : (f : Standing → ℕ) (l : List Standing) (p : ℕ) (x : Standing) → p < length l → sum_by f (set l p x) + f (standing l p) ≡ sum_by f l + f x
moved_count f l p x within = sum_by-set f l p x Stopped within

-- at most those that are not out wait, and at most all processes are not out
waits_within : (x : Standing) → (waits x ≤ stays_in x) × (stays_in x ≤ 1)
waits_within x = grind arith

pub waiting_in : (l : List Standing) → sum_by waits l ≤ sum_by stays_in l
waiting_in l = sum_by-le-sum_by waits stays_in l (λ x. (waits_within x).0)

pub in_within : (l : List Standing) → sum_by stays_in l ≤ length l
in_within l = let all = sum_by-le stays_in 1 l (λ i d h. (waits_within _).1) in omega arith

-- 1, unless this process moves first and did not wait
abbrev waited : List Standing → Option ℕ → ℕ
waited l None = 1
waited l (Some p) = waits (standing l p)

module _ (kinds : Family) (net : Network) where
  -- a run, and one that follows it
  pub run_both : (M N O : State) (E F : List Entry) → Run kinds net M E N → Run kinds net N F O → Run kinds net M (E ++ F) O
  run_both M N O [] F r q = rw (← r) q
  run_both M N O (e ∷ E) F r q = (r.0, r.1, run_both r.0 N O E F r.2 q)

  -- small moves that append this many entries: no process goes out, none comes back but p, and entries and waiting processes
  -- together grow by one if p moves
  pub record Moves (s : StateAndHistory) (l : List Standing) (p : Option ℕ) (n : ℕ) (t : StateAndHistory) (m : List Standing) : Type 0 where
    pub entries : List Entry
    pub history : t.history ≡ s.history ++ entries
    pub run : Run kinds net s.state entries t.state
    pub count : length entries ≡ n
    pub limit : t.limit ≡ s.limit
    pub size : length m ≡ length l
    pub sent : (q : ℕ) → standing m q ≡ Out → (p ≢ Some q) × (standing l q ≡ Out)
    pub stay : (q : ℕ) → p ≢ Some q → standing l q ≡ Out → standing m q ≡ Out
    pub counted : sum_by waits l + 1 ≤ n + sum_by waits m + waited l p

  no_move : (s : StateAndHistory) (l : List Standing) → Moves s l None 0 s l
  no_move s l = record { entries = []; history = rw (append-nil s.history); run = refl; count = refl; limit = refl; size = refl; sent = λ q e. (λ f. cc, e); stay = λ q n e. e; counted = omega arith }

  -- one process moves on
  move :
      (s : StateAndHistory) (l : List Standing) (p : Option ℕ) (q : ℕ) (x : Standing) (es : List Entry) (t : StateAndHistory) → q < length l → waited l p ≡ waits (standing l q) → ((r : ℕ) → r ≢ q → p ≢ Some r) → (p ≢ Some q → standing l q ≢ Out)
      → x ≢ Out → 1 ≤ length es + waits x → t.history ≡ s.history ++ es → t.limit ≡ s.limit → Run kinds net s.state es t.state → Moves s l p (length es) t (set l q x)
  move s l p q x es t within same others was not_out some history limit run =
      let n = moved_count waits l q x within in
      record {
        entries = es;
        history = history;
        run = run;
        count = refl;
        limit = limit;
        size = length-set l q x;
        sent = each_set (λ r (y : Standing). y ≡ Out → (p ≢ Some r) × (standing l r ≡ Out)) l q x Stopped within (λ e. absurd (not_out e)) (λ r o e. (others r o, e));
        stay = each_set (λ r (y : Standing). p ≢ Some r → standing l r ≡ Out → y ≡ Out) l q x Stopped within (λ n e. absurd (was n e)) (λ r o n e. e);
        counted = omega arith;
      }

  -- p moves first, or a parked process does
  first :
      (s : StateAndHistory) (l : List Standing) (p : ℕ) (x : Standing) (es : List Entry) (t : StateAndHistory) → p < length l → x ≢ Out → 1 ≤ length es + waits x → t.history ≡ s.history ++ es → t.limit ≡ s.limit → Run kinds net s.state es t.state
      → Moves s l (Some p) (length es) t (set l p x)
  first s l p x es t within = move s l (Some p) p x es t within refl (λ r o e. o (cc)) (λ n. absurd (n refl))

  parked_one :
      (s : StateAndHistory) (l : List Standing) (q : ℕ) (a : Answer) (x : Standing) (es : List Entry) (t : StateAndHistory) → standing l q ≡ Parked a → x ≢ Out → 1 ≤ length es + waits x → t.history ≡ s.history ++ es → t.limit ≡ s.limit → Run kinds net s.state es t.state
      → Moves s l None (length es) t (set l q x)
  parked_one s l q a x es t parked = move s l None q x es t (standing_within l q (λ e. cc)) (rw parked) (λ r o e. cc) (λ n e. cc)

  -- more steps follow
  pub then : {s t u : StateAndHistory} {l m r : List Standing} {p : Option ℕ} {n k : ℕ} → Moves s l p n t m → Moves t m None k u r → Moves s l p (n + k) u r
  then {s = s} {t = t} {u = u} x y =
      record {
        entries = x.entries ++ y.entries;
        history = rw (y.history, x.history) (append_assoc s.history x.entries y.entries);
        run = run_both s.state t.state u.state x.entries y.entries x.run y.run;
        count = omega (arith, length-append x.entries y.entries);
        limit = y.limit ∙ x.limit;
        size = y.size ∙ x.size;
        sent = λ q e. x.sent q (y.sent q e).1;
        stay = λ q n e. y.stay q (λ f. cc) (x.stay q n e);
        counted = omega arith;
      }

  -- a deed
  act_first : {s t : StateAndHistory} {l m : List Standing} {p : ℕ} {d : Deed} → p < length l → Acted kinds net s l p d t m → Moves s l (Some p) 1 t m
  act_first {s = s} {t = t} {l = l} {p = p} {d = d} within h =
      rw h.moves (first s l p (standing_after d) (Did p d ∷ []) t within (acted_not_out d) (omega arith) (rw h.entry) (rw h.entry) (t.state, h.does, refl))

  act_parked : {s t : StateAndHistory} {l m : List Standing} {p : ℕ} {d : Deed} (a : Answer) → standing l p ≡ Parked a → Acted kinds net s l p d t m → Moves s l None 1 t m
  act_parked {s = s} {t = t} {l = l} {p = p} {d = d} a parked h =
      rw h.moves (parked_one s l p a (standing_after d) (Did p d ∷ []) t parked (acted_not_out d) (omega arith) (rw h.entry) (rw h.entry) (t.state, h.does, refl))

  -- a reaction's steps
  pub reacts : (s : StateAndHistory) (l : List Standing) (p : ℕ) (a : Answer) (r : Reaction) (t : StateAndHistory) (m : List Standing) → p < length l → Reacts kinds net s l p a r t m → Moves s l (Some p) (acted_entries r) t m
  reacts s l p a Waits t m within h = rw (h.1, h.2) (first s l p (Parked a) [] s within (λ e. cc) (omega arith) (rw (append-nil s.history)) refl refl)
  reacts s l p a Acts t m within h = act_first within h.1
  reacts s l p a HandsOn t m within h = then (act_first within h.first) (act_parked h.wanted h.parked h.second)

  -- what follows it
  pub resolves : (s : StateAndHistory) (l : List Standing) (x : Resolution) (t : StateAndHistory) (m : List Standing) → Resolves kinds net s l x t m → Moves s l None (resolution_entries x) t m
  resolves s l Busy t m h = rw (h.1, h.2) (no_move s l)
  resolves s l (Over end) t m h = rw (h.1, h.2) (no_move s l)
  resolves s l Enlarged t m h =
      let g = h.1 in
      let grew = Grew g.channel g.to in
      let put = Did g.writer (Put g.channel g.token) in
      rw g.puts.moves
      (parked_one s l g.writer g.wanted Ready (grew ∷ put ∷ []) t g.parked (λ e. cc) (omega arith) (rw g.puts.entry (append_assoc s.history (grew ∷ []) (put ∷ []))) (rw g.puts.entry) (g.grown, g.grows, (t.state, g.puts.does, refl)))

-- an outcome's number is that of both
entries_appended_is : (r : Reaction) (x : Resolution) → entries_appended (outcome_of r x) ≡ acted_entries r + resolution_entries x
entries_appended_is r x = grind arith

-- a commit's steps
pub works : {kinds : Family} {net : Network} {s : StateAndHistory} {l : List Standing} {p : ℕ} {a : Answer} {o : Outcome} {t : StateAndHistory} {m : List Standing} {end : Option End} → p < length l → Works kinds net s l p a o t m end → Moves kinds net s l (Some p) (entries_appended o) t m
works {kinds = kinds} {net = net} {s = s} {l = l} {p = p} {a = a} {t = t} {m = m} within w =
    rw (w.outcome_is, entries_appended_is w.reaction w.resolution) (then kinds net (reacts kinds net s l p a w.reaction w.between w.standings_between within w.reacts) (resolves kinds net w.between w.standings_between w.resolution t m w.resolves))
