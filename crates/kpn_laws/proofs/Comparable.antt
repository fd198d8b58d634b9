-- The deeds of a process in any two runs are prefix-comparable.
use Rattle.std.proofs.Common.{◌≡◌, inl, ⊎_elim, List, [], ◌∷◌, ◌++◌, refl, sym, ℕ, subst, ne_eqb}
use Rattle.std.proofs.lemmas.Bool.{cases_eq}
use Rattle.kpn_model.specs.History.{ArePrefixComparable, deeds}
use Rattle.kpn_model.specs.declared.history.Deed.{Deed}
use Rattle.kpn_model.specs.declared.history.Entry.{Entry}
use Rattle.kpn_model.specs.declared.history.Entry.TheVariants.{Did, Grew}
use Rattle.kpn_model.specs.Network.{Network, Family}
use Rattle.kpn_model.specs.Semantics.{State, Transition, Run}
use Rattle.kpn_laws.proofs.Lists.{comparable_push}
use Rattle.kpn_laws.proofs.Views.{deeds_push_same, deeds_push_other, deeds_push_grew}
use Rattle.kpn_laws.proofs.Follows.{follows_same}
use Rattle.kpn_laws.proofs.Runs.{run_induction}
use Rattle.kpn_laws.proofs.Kept.{IsFresh, Kept}
use Rattle.kpn_laws.proofs.KeptByDeeds.{deed_follows}
use Rattle.kpn_laws.proofs.KeptByRuns.{kept_run}

module _ (kinds : Family) (net : Network) where
  -- what holds of q's deeds after a deed of p, by whether q is p
  pub at_deeds_push :
      (P : ℕ → List Deed → Type 0) (H : List Entry) (p : ℕ) (d : Deed) → P p (deeds H p ++ d ∷ []) → ((q : ℕ) → P q (deeds H q)) → (q : ℕ)
      → P q (deeds (H ++ Did p d ∷ []) q)
  at_deeds_push P H p d here others q =
      ⊎_elim
      (λ (e : q ≡ p). subst (λ x. P x (deeds (H ++ Did p d ∷ []) x)) (sym e) (subst (λ l. P p l) (sym (deeds_push_same H p d)) here))
      (λ ne. subst (λ l. P q l) (sym (deeds_push_other H p q d (ne_eqb p q (λ e. ne (sym e))))) (others q))
      (cases_eq q p)

  -- the deeds of a process in any two runs are prefix-comparable
  pub runs_comparable :
      (S S' : State) → IsFresh kinds net S → IsFresh kinds net S' → (F : List Entry) (N : State) → Run kinds net S' F N → (E : List Entry) (M : State)
      → Run kinds net S E M → (p : ℕ) → ArePrefixComparable (deeds E p) (deeds F p)
  runs_comparable S S' fresh fresh' F N run' =
      let kf = kept_run kinds net S' fresh' F N run' in
      run_induction kinds net (λ H _. (q : ℕ) → ArePrefixComparable (deeds H q) (deeds F q)) S (λ q. inl (deeds F q, refl))
      (λ H M e K before ih s. comparable_step H M e K (kept_run kinds net S fresh H M before) kf ih s)
    where
      comparable_step :
          (H : List Entry) (M : State) (e : Entry) (K : State) → Kept kinds net S H M → Kept kinds net S' F N
          → ((q : ℕ) → ArePrefixComparable (deeds H q) (deeds F q)) → Transition kinds net M e K → (q : ℕ) → ArePrefixComparable (deeds (H ++ e ∷ []) q) (deeds F q)
      comparable_step H M (Grew c to) K k kf ih s q = subst (λ l. ArePrefixComparable l (deeds F q)) (sym (deeds_push_grew H c to q)) (ih q)
      comparable_step H M (Did p d) K k kf ih s q =
          let now = deed_follows kinds net S H M k p d s.answer s.wanted s.is_deed in
          at_deeds_push (λ q l. ArePrefixComparable l (deeds F q)) H p d
          (comparable_push (deeds H p) (deeds F p) d (ih p) (λ e rest h. follows_same kinds net (deeds H) (deeds F) p (deeds H p) d e ih now (kf.follows p (deeds H p) e rest h))) ih q
