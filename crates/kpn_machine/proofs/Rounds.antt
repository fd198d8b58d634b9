-- Ready processes that are asked one after the other, and what then follows, are as many rounds of a machine.
use Rattle.std.proofs.Common.{◌≡◌, ◌↔◌, List, [], ◌∷◌, ◌++◌, append-nil, length, refl, sym, ap, subst, ◌∙◌, arith, ℕ, ◌+◌, ◌<◌, ◌≤◌, true, false, Option, None}
use Rattle.std.proofs.lemmas.Grind.{common_steps}
use Rattle.std.specs.List.{list_any}
use Rattle.kpn_model.specs.declared.kinds.Card.{Card}
use Rattle.kpn_model.specs.declared.history.End.{End}
use Rattle.kpn_model.specs.Network.{Network, Family, Admits}
use Rattle.kpn_state.specs.StateAndHistory.{StateAndHistory}
use Rattle.kpn_state.specs.declared.standing.Standing.{Standing}
use Rattle.kpn_state.specs.declared.standing.Standing.TheVariants.{Out}
use Rattle.kpn_state.specs.Standings.{standing, is_busy, StandingsFit}
use Rattle.kpn_state.proofs.Placed.{busy_at}
use Rattle.kpn_commit.specs.declared.react.Reaction.{Reaction}
use Rattle.kpn_commit.specs.declared.resolution.Resolution.{Resolution}
use Rattle.kpn_commit.specs.declared.resolution.Resolution.TheVariants.{Busy, Ended, Enlarged}
use Rattle.kpn_commit.specs.declared.outcome.Outcome.{Outcome}
use Rattle.kpn_commit.specs.Resolving.{Resolves}
use Rattle.kpn_commit.specs.Works.{Works, end_after, outcome_of}
use Rattle.kpn_commit.proofs.Working.{reaction_room}
use Rattle.kpn_machine.specs.MachineView.{MachineView, machine_view, IsSound}
use Rattle.kpn_machine.specs.Commits.{ContinuesRun, GoesRounds}
use Rattle.kpn_machine.specs.Asking.{IsAsked, AreAsked}
use Rattle.kpn_machine.proofs.AskedInTurn.{asked_moves, asked_within}
use Rattle.kpn_machine.proofs.Finishing.{round_goes, round_commits, round_keeps_out}
use Rattle.kpn_machine.proofs.Sound.{goes_round}

-- fewer entries than the budget don't spend it
unspent : (budget n : ℕ) → n < budget → end_after Busy budget n ≡ None
unspent budget n less = grind (arith, common_steps)

module _ (kinds : Family) (admits : Admits) (net : Network) where
  -- who is asked was busy
  asked_busy : (s t : StateAndHistory) (l m : List Standing) (r : Reaction) → IsAsked kinds admits net s l r t m → list_any is_busy l ≡ true
  asked_busy s t l m r h = let ready = h.ready in busy_at l h.process (rw ready refl)

  -- a process that is asked, and what then follows
  works_of :
      (s t u : StateAndHistory) (l m k : List Standing) (r : Reaction) (h : IsAsked kinds admits net s l r t m) (x : Resolution) → Resolves kinds net t m x u k → (end : Option End) → end ≡ end_after x net.budget (length u.history)
      → Works kinds net s l h.process h.answer (outcome_of r x) u k end
  works_of s t u l m k r h x resolves end is = record { reaction = r; between = t; standings_between = m; reacts = h.reacts; resolution = x; resolves = resolves; outcome_is = refl; end_is = is }

  -- so many rounds lead from one machine to another, which meets its invariant
  pub record Rounded (s : MachineView) (n : ℕ) (t : MachineView) (limit : ℕ) (bodies : List (Option Card)) : Type 0 where
    pub outcomes : List Outcome
    pub count : length outcomes ≡ n
    pub rounds : GoesRounds kinds s outcomes t
    pub sound : IsSound kinds admits t limit bodies

  -- nobody was asked, and some process is busy, so nothing follows
  nothing_follows :
      (bodies : List (Option Card)) (s u : StateAndHistory) (l k : List Standing) (commits : ℕ) → IsSound kinds admits (machine_view net s.state s.history l None commits) s.limit bodies → (x : Resolution) → Resolves kinds net s l x u k
      → (end : Option End) → end ≡ end_after x net.budget (length u.history) → Rounded (machine_view net s.state s.history l None commits) 0 (machine_view net u.state u.history k end commits) u.limit bodies
  nothing_follows bodies s u l k commits h Busy f end is =
      let less : length s.history < net.budget = h.ends in
      let none : end ≡ None = is ∙ ap (λ (y : StateAndHistory). end_after Busy net.budget (length y.history)) f.1 ∙ unspent net.budget (length s.history) less in
      rw (f.1, f.2, none) (record { outcomes = []; count = refl; rounds = refl; sound = h })
  nothing_follows bodies s u l k commits h (Ended e) f end is = let busy = h.busy refl in let idle = f.0 in absurd (cc)
  nothing_follows bodies s u l k commits h Enlarged f end is = let busy = h.busy refl in let idle = f.0 in absurd (cc)

  pub rounded :
      (bodies : List (Option Card)) (rs : List Reaction) (s t u : StateAndHistory) (l m k : List Standing) (commits : ℕ) → IsSound kinds admits (machine_view net s.state s.history l None commits) s.limit bodies → AreAsked kinds admits net net.budget s l rs t m
      → (x : Resolution) → Resolves kinds net t m x u k → StandingsFit kinds admits net None u.state k → (end : Option End) → end ≡ end_after x net.budget (length u.history)
      → Rounded (machine_view net s.state s.history l None commits) (length rs) (machine_view net u.state u.history k end (commits + length rs)) u.limit bodies
  rounded bodies [] s t u l m k commits h a x resolves keeps end is =
      let sum : commits ≡ commits + 0 = omega arith in
      subst (λ n. Rounded (machine_view net s.state s.history l None commits) 0 (machine_view net u.state u.history k end n) u.limit bodies) sum
      (nothing_follows bodies s u l k commits h x (subst (λ (y : StateAndHistory). Resolves kinds net y l x u k) a.0 (subst (λ (y : List Standing). Resolves kinds net t y x u k) a.1 resolves)) end is)
  rounded bodies (r ∷ []) s t u l m k commits h a x resolves keeps end is =
      let asked = a.3 in
      let there : Resolves kinds net a.1 a.2 x u k = subst (λ (y : StateAndHistory). Resolves kinds net y a.2 x u k) a.4.0 (subst (λ (y : List Standing). Resolves kinds net t y x u k) a.4.1 resolves) in
      let round = goes_round h asked.process asked.answer refl asked.ready asked.wanted (outcome_of r x) u.state u.history k end u.limit (works_of s a.1 u l a.2 k r asked x there end is) keeps in
      record { outcomes = round.goes.outcome ∷ []; count = refl; rounds = (_, round.goes, refl, refl); sound = round.sound }
  rounded bodies (r ∷ q ∷ rs) s t u l m k commits h a x resolves keeps end is =
      let asked = a.3 in
      let mid = a.1 in
      let between = a.2 in
      let next = a.4 in
      let busy = asked_busy mid next.1 between next.2 q next.3 in
      let on : Resolves kinds net mid between Busy mid between = (busy, refl, refl) in
      let none : None ≡ end_after Busy net.budget (length mid.history) = sym (unspent net.budget (length mid.history) next.0) in
      let round = goes_round h asked.process asked.answer refl asked.ready asked.wanted (outcome_of r Busy) mid.state mid.history between None mid.limit (works_of s mid mid l between between r asked Busy on None none) asked.keeps in
      let rest = rounded bodies (q ∷ rs) mid t u between m k (commits + 1) round.sound next x resolves keeps end is in
      let sum : (commits + 1) + length (q ∷ rs) ≡ commits + length (r ∷ q ∷ rs) = omega arith in
      subst (λ n. Rounded (machine_view net s.state s.history l None commits) (length (r ∷ q ∷ rs)) (machine_view net u.state u.history k end n) u.limit bodies) sum
      (record { outcomes = round.goes.outcome ∷ rest.outcomes; count = omega (arith, rest.count); rounds = (_, round.goes, refl, rest.rounds); sound = rest.sound })

  -- so many processes were asked, up to this end
  pub gone :
      (bodies : List (Option Card)) (s t u : StateAndHistory) (l m k : List Standing) (before : Option End) (commits n : ℕ) → IsSound kinds admits (machine_view net s.state s.history l before commits) s.limit bodies → before ≡ None
      → ((rs : List Reaction) × (length rs ≡ n) × AreAsked kinds admits net net.budget s l rs t m) → (x : Resolution) → Resolves kinds net t m x u k → StandingsFit kinds admits net None u.state k → (end : Option End) → end ≡ end_after x net.budget (length u.history)
      → Rounded (machine_view net s.state s.history l before commits) n (machine_view net u.state u.history k end (commits + n)) u.limit bodies
  gone bodies s t u l m k before commits n h none asked x resolves keeps end is = rw (none, ← asked.1) (rounded bodies asked.0 s t u l m k commits (rw none at h) asked.2 x resolves keeps end is)

  -- if no process is ready or out after the last of them, there is room for a growth and a put
  pub room_after :
      (rs : List Reaction) (s t : StateAndHistory) (l m : List Standing) → net.budget + 2 ≤ s.limit → (list_any is_busy l ≡ false → length s.history + 2 ≤ s.limit) → AreAsked kinds admits net net.budget s l rs t m → list_any is_busy m ≡ false → length t.history + 2 ≤ t.limit
  room_after [] s t l m limit room a idle = rw a.0 (room (rw a.1 at idle))
  room_after (r ∷ rs) s t l m limit room a idle =
      let asked = a.3 in
      let less = a.0 in
      let same = (asked_moves asked).limit in
      room_after rs a.1 t a.2 m (omega arith) (λ none. reaction_room kinds net s l asked.process asked.answer r a.1 a.2 (asked_within asked) (omega arith) asked.reacts none) a.4 idle

module _ (kinds : Family) where
  -- a machine goes on with its own run
  pub goes_nowhere : (s : MachineView) → ContinuesRun kinds s s
  goes_nowhere s = record { network = refl; commits = omega arith; entries = []; history = sym (append-nil s.history); run = refl }

  -- rounds go on with the run
  pub rounds_go : (first s t : MachineView) (outcomes : List Outcome) → GoesRounds kinds s outcomes t → ContinuesRun kinds first s → ContinuesRun kinds first t
  rounds_go first s t [] h goes = rw h goes
  rounds_go first s t (o ∷ outcomes) h goes = rounds_go first h.0 t outcomes h.3 (round_goes h.1 goes)

  -- each is one more commit
  pub rounds_commits : (s t : MachineView) (outcomes : List Outcome) → GoesRounds kinds s outcomes t → t.commits ≡ s.commits + length outcomes
  rounds_commits s t [] h = rw h (omega arith)
  rounds_commits s t (o ∷ outcomes) h = let one = round_commits h.1 in let rest = rounds_commits h.0 t outcomes h.3 in omega arith

  -- and they leave out exactly those that were out
  pub rounds_keep_out : (s t : MachineView) (outcomes : List Outcome) → GoesRounds kinds s outcomes t → (p : ℕ) → (standing t.standings p ≡ Out) ↔ (standing s.standings p ≡ Out)
  rounds_keep_out s t [] h p = rw h (λ e. e, λ e. e)
  rounds_keep_out s t (o ∷ outcomes) h p =
      let one = round_keeps_out h.1 p in
      let rest = rounds_keep_out h.0 t outcomes h.3 p in
      (λ e. one.0 (rest.0 e), λ e. rest.1 (one.1 e))

  -- more rounds follow
  pub rounds_both : (s m t : MachineView) (first second : List Outcome) → GoesRounds kinds s first m → GoesRounds kinds m second t → GoesRounds kinds s (first ++ second) t
  rounds_both s m t [] second a b = subst (λ (x : MachineView). GoesRounds kinds x second t) a b
  rounds_both s m t (o ∷ first) second a b = (a.0, a.1, a.2, rounds_both a.0 m t first second a.3 b)

  -- and none leads to the same machine
  pub rounds_none : (s t : MachineView) (outcomes : List Outcome) → length outcomes ≡ 0 → GoesRounds kinds s outcomes t → t ≡ s
  rounds_none s t [] none h = h
  rounds_none s t (o ∷ outcomes) none h = absurd (omega arith)
