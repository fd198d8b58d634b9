-- The growths of any run are a prefix of those of a run that is over.
use Rattle.std.proofs.Common.{◌≡◌, ⊎_elim, List, [], ◌∷◌, ◌++◌, refl, sym, ap, ◌∙◌, ℕ, subst, min, ◌+◌}
use Rattle.kpn_model.specs.History.{IsPrefixOf, growths}
use Rattle.kpn_model.specs.declared.history.Entry.{Entry}
use Rattle.kpn_model.specs.declared.history.Entry.TheVariants.{Did, Grew}
use Rattle.kpn_model.specs.Network.{Network, Family}
use Rattle.kpn_model.specs.Semantics.{State, capacity, Transition, Run, Grows}
use Rattle.kpn_model.specs.Endings.{IsOver}
use Rattle.kpn_model.specs.declared.history.End.{End}
use Rattle.kpn_laws.proofs.Lists.{push_split, prefix_cases, prefix_to_push}
use Rattle.kpn_laws.proofs.Views.{growths_push_did, growths_push_grew}
use Rattle.kpn_laws.proofs.Runs.{run_induction}
use Rattle.kpn_laws.proofs.Kept.{IsFresh}
use Rattle.kpn_laws.proofs.Standstill.{same_stand}
use Rattle.kpn_laws.proofs.Causes.{chosen_same, over_quiet, over_grows_not}

module _ (kinds : Family) (net : Network) where
  -- a growth of a run happened at some point of it
  pub record HasGrown (S : State) (gs : List (ℕ × ℕ)) (g : ℕ × ℕ) : Type 0 where
    pub before : List Entry
    pub state : State
    pub next : State
    pub run : Run kinds net S before state
    pub growths_are : growths before ≡ gs
    pub grows : Grows kinds net state g.0 g.1 next

  -- each growth of a run happened after those before it
  pub growth_at :
      (S : State) (E : List Entry) (M : State) → Run kinds net S E M → (gs : List (ℕ × ℕ)) (g : ℕ × ℕ) (rest : List (ℕ × ℕ))
      → growths E ≡ gs ++ g ∷ rest → HasGrown S gs g
  growth_at S =
      run_induction kinds net (λ H _. (gs : List (ℕ × ℕ)) (g : ℕ × ℕ) (rest : List (ℕ × ℕ)) → growths H ≡ gs ++ g ∷ rest → HasGrown S gs g) S
      (λ gs g rest e. absurd (none gs g rest e)) (λ H M e N before ih s. step H M e N before ih s)
    where
      none : (gs : List (ℕ × ℕ)) (g : ℕ × ℕ) (rest : List (ℕ × ℕ)) → [] ≡ gs ++ g ∷ rest → ⊥
      none [] g rest e = cc
      none (x ∷ gs) g rest e = cc

      step :
          (H : List Entry) (M : State) (e : Entry) (N : State) → Run kinds net S H M
          → ((gs : List (ℕ × ℕ)) (g : ℕ × ℕ) (rest : List (ℕ × ℕ)) → growths H ≡ gs ++ g ∷ rest → HasGrown S gs g) → Transition kinds net M e N
          → (gs : List (ℕ × ℕ)) (g : ℕ × ℕ) (rest : List (ℕ × ℕ)) → growths (H ++ e ∷ []) ≡ gs ++ g ∷ rest → HasGrown S gs g
      step H M (Did p d) N before ih s gs g rest e = ih gs g rest (sym (growths_push_did H p d) ∙ e)
      step H M (Grew c to) N before ih s gs g rest e =
          ⊎_elim
          (λ (x : (growths H ≡ gs) × ((c, to) ≡ g)). record { before = H; state = M; next = N; run = before; growths_are = x.0; grows = subst (λ (y : ℕ × ℕ). Grows kinds net M y.0 y.1 N) x.1 s })
          (λ (x : (ws : List (ℕ × ℕ)) × (growths H ≡ gs ++ g ∷ ws)). ih gs g x.0 x.1)
          (push_split (growths H) gs rest (c, to) g (sym (growths_push_grew H c to) ∙ e))

  -- a growth is determined by its channel and its capacity
  pair_same : (c to : ℕ) (g : ℕ × ℕ) → c ≡ g.0 → to ≡ g.1 → (c, to) ≡ g
  pair_same c to g p q = λ i. (p i, q i)

  -- the growths of any run are a prefix of those of a run that is over
  pub growths_prefix :
      (S : State) → IsFresh kinds net S → (E : List Entry) (M : State) (a : End) → Run kinds net S E M → IsOver kinds net M a
      → (F : List Entry) (N : State) → Run kinds net S F N → IsPrefixOf (growths F) (growths E)
  growths_prefix S fresh E M a run over =
      run_induction kinds net (λ H _. IsPrefixOf (growths H) (growths E)) S (growths E, refl) (λ H K e L before ih s. step H K e L before ih s)
    where
      step :
          (H : List Entry) (K : State) (e : Entry) (L : State) → Run kinds net S H K → IsPrefixOf (growths H) (growths E) → Transition kinds net K e L
          → IsPrefixOf (growths (H ++ e ∷ [])) (growths E)
      step H K (Did p d) L before ih s = subst (λ g. IsPrefixOf g (growths E)) (sym (growths_push_did H p d)) ih
      step H K (Grew c to) L before ih s =
          ⊎_elim
          (λ (same : growths H ≡ growths E).
          let e = same_stand kinds net S fresh H E K M before s.artificial.quiet run (over_quiet kinds net M a over) same in
          absurd (over_grows_not kinds net M a c to L over (subst (λ x. Grows kinds net x c to L) e s)))
          (λ (m : (g : ℕ × ℕ) × ((rest : List (ℕ × ℕ)) × (growths E ≡ growths H ++ g ∷ rest))).
          let at = growth_at S E M run (growths H) m.0 m.1.0 m.1.1 in
          let e = same_stand kinds net S fresh at.before H at.state K at.run at.grows.artificial.quiet before s.artificial.quiet at.growths_are in
          let there = subst (λ x. Grows kinds net x m.0.0 m.0.1 at.next) e at.grows in
          let one : c ≡ m.0.0 = chosen_same kinds net K c m.0.0 s.chosen there.chosen in
          let two : to ≡ m.0.1 = s.to_is ∙ ap (λ x. min (capacity K x + net.step) net.ceiling) one ∙ sym there.to_is in
          let pair = pair_same c to m.0 one two in
          subst (λ g. IsPrefixOf g (growths E)) (sym (growths_push_grew H c to)) (prefix_to_push (growths H) (growths E) m.1.0 m.0 (c, to) m.1.1 pair))
          (prefix_cases (growths H) (growths E) ih)
