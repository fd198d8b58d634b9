-- Taking and committing one process after another.
use Rattle.std.proofs.Common.{◌≡◌, ◌≢◌, ◌↔◌, ⊎_elim, List, [], ◌∷◌, ◌++◌, append_assoc, length, refl, subst, ◌∙◌, arith, ℕ, suc, ◌+◌, ◌≤◌, true, false, cond}
use Rattle.std.specs.List.{list_any, count_by}
use Rattle.std.proofs.lemmas.Bool.{cases_lt, cases_eq}
use Rattle.std.proofs.lemmas.List.{get_or_past, get_or_default}
use Rattle.std.proofs.lemmas.List.Sums.{get_or-le-sum_by, sum_by-le}
use Rattle.kpn_model.specs.Network.{Family}
use Rattle.kpn_body.specs.Input.{Input}
use Rattle.kpn_state.specs.declared.standing.Standing.{Standing}
use Rattle.kpn_state.specs.declared.standing.Standing.TheVariants.{Ready, Out, Stopped}
use Rattle.kpn_state.specs.Standings.{standing, is_busy, is_out}
use Rattle.kpn_state.proofs.Placed.{standing_set_other}
use Rattle.kpn_commit.specs.declared.outcome.Outcome.{Outcome}
use Rattle.kpn_machine.specs.MachineView.{MachineView}
use Rattle.kpn_machine.specs.Commits.{Commits, ContinuesRun, GoesRound, GoesRounds}
use Rattle.kpn_machine.proofs.Moves.{run_both}

-- 1 for a process that is out
abbrev weight : Standing → ℕ
weight x = cond (is_out x) 1 0

-- no other is counted
others_count : (x : Standing) → x ≢ Out → weight x ≤ 0
others_count x n = grind arith

-- if none is counted out, none is out
pub none_is_out : (l : List Standing) → count_by is_out l ≡ 0 → (p : ℕ) → standing l p ≢ Out
none_is_out l h p e =
    ⊎_elim (λ within. let one : weight (standing l p) ≡ 1 = rw e in let most = get_or-le-sum_by weight l p Stopped within in omega arith)
    (λ past. let none = get_or_past l p Stopped past in cc) (cases_lt p (length l))

-- and the converse
pub none_counted : (l : List Standing) → ((p : ℕ) → standing l p ≢ Out) → count_by is_out l ≡ 0
none_counted l h = let all = sum_by-le weight 0 l (λ i d within. others_count _ (λ e. h i (get_or_default l i Stopped d within ∙ e))) in omega arith

idle : (x : Standing) → x ≢ Ready → x ≢ Out → is_busy x ≡ false
idle x r o = grind arith

all_idle : (l : List Standing) → ((p : ℕ) → is_busy (standing l p) ≡ false) → list_any is_busy l ≡ false
all_idle [] h = refl
all_idle (x ∷ xs) h = rw (h 0) (all_idle xs (λ p. h (suc p)))

-- if some process is ready or out, and none is out, some is ready
pub some_ready : (l : List Standing) → list_any is_busy l ≡ true → ((p : ℕ) → standing l p ≢ Out) → ((p : ℕ) → standing l p ≢ Ready) → ⊥
some_ready l busy out ready = let none = all_idle l (λ p. idle (standing l p) (ready p) (out p)) in cc

module _ (kinds : Family) where
  -- a commit is in the same network, and the machine has taken one answer more
  commits_more : (s : MachineView) (i : Input) (o : Outcome) (t : MachineView) → Commits kinds s i o t → (t.network ≡ s.network) × (t.commits ≡ s.commits + 1)
  commits_more s i o t h = grind arith

module _ {kinds : Family} {s t : MachineView} (r : GoesRound kinds s t) where
  -- one process taken and committed is one more commit
  pub round_commits : t.commits ≡ s.commits + 1
  round_commits = rw r.takes.after at (commits_more kinds r.between r.input r.outcome t r.commits).1

  -- it goes on with the run
  pub round_goes : {first : MachineView} → ContinuesRun kinds first s → ContinuesRun kinds first t
  round_goes {first = first} goes =
      let same : r.between.network ≡ first.network = rw r.takes.after goes.network in
      let a = r.appends in
      record {
        network = (commits_more kinds r.between r.input r.outcome t r.commits).0 ∙ same;
        commits = let before = goes.commits in let more = round_commits in omega arith;
        entries = goes.entries ++ a.entries;
        history = rw (a.history, r.takes.after, goes.history) (append_assoc first.history goes.entries a.entries);
        run = run_both kinds first.network first.state s.state t.state goes.entries a.entries goes.run (rw (r.takes.after, goes.network) at a.run);
      }

  -- and leaves out exactly those that were out
  pub round_keeps_out : (p : ℕ) → (standing t.standings p ≡ Out) ↔ (standing s.standings p ≡ Out)
  round_keeps_out p =
      ⊎_elim
      (λ (x : p ≡ r.input.process). (λ out. let back = r.back in absurd (back (cc)), λ out. let ready = r.takes.ready in cc))
      (λ ne.
      let same : standing r.between.standings p ≡ standing s.standings p = rw r.takes.after (standing_set_other s.standings r.input.process p Out ne) in
      (λ out. let o = (r.others p ne).0 out in cc, λ out. (r.others p ne).1 (cc))) (cases_eq p r.input.process)

module _ (kinds : Family) where
  -- one more round
  pub rounds_more : (s : MachineView) (outcomes : List Outcome) (m t : MachineView) (r : GoesRound kinds m t) → GoesRounds kinds s outcomes m → GoesRounds kinds s (outcomes ++ r.outcome ∷ []) t
  rounds_more s [] m t r rounds = subst (λ (x : MachineView). GoesRounds kinds x (r.outcome ∷ []) t) rounds (t, r, refl, refl)
  rounds_more s (o ∷ outcomes) m t r rounds = (rounds.0, rounds.1, rounds.2, rounds_more rounds.0 outcomes m t r rounds.3)
