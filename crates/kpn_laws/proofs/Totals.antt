-- A history is as long as the deeds of all processes and the growths.
use Rattle.std.proofs.Common.{◌≡◌, ◌≤◌, ⊎_elim, List, [], ◌∷◌, ◌++◌, length, refl, sym, ap, ◌∙◌, arith, length-append, ℕ, ◌≢◌, ◌<◌, ne_eqb, ◌+◌, suc, zero, add-zero}
use Rattle.std.proofs.lemmas.Bool.{cases_eq}
use Rattle.kpn_model.specs.declared.history.Entry.{Entry}
use Rattle.kpn_model.specs.declared.history.Entry.TheVariants.{Did, Grew}
use Rattle.kpn_model.specs.History.{deeds, growths}
use Rattle.kpn_model.specs.Network.{Network, Family}
use Rattle.kpn_model.specs.Semantics.{State, Transition, Run}
use Rattle.kpn_laws.proofs.Views.{deeds_push_same, deeds_push_other, deeds_push_grew, growths_push_did, growths_push_grew}
use Rattle.kpn_laws.proofs.Transitions.{live_within}
use Rattle.kpn_laws.proofs.Runs.{run_induction}
use Rattle.kpn_laws.proofs.Kept.{IsFresh, Kept}
use Rattle.kpn_laws.proofs.KeptByRuns.{kept_run}

module _ (kinds : Family) (net : Network) where
  -- f summed over the numbers below n
  abbrev pub total : ℕ → (ℕ → ℕ) → ℕ
  total zero f = 0
  total (suc n) f = total n f + f n

  -- sums of the same numbers are the same
  total_same : (n : ℕ) (f g : ℕ → ℕ) → ((i : ℕ) → i < n → f i ≡ g i) → total n f ≡ total n g
  total_same zero f g h = refl
  total_same (suc n) f g h = let a = total_same n f g (λ i l. h i (omega arith)) in let b = h n (omega arith) in omega arith

  -- sums of no greater numbers are no greater
  pub total_le : (n : ℕ) (f g : ℕ → ℕ) → ((i : ℕ) → f i ≤ g i) → total n f ≤ total n g
  total_le zero f g h = omega arith
  total_le (suc n) f g h = let a = total_le n f g h in let b = h n in omega arith

  -- a sum of zeros is zero
  total_none : (n : ℕ) → total n (λ i. 0) ≡ 0
  total_none zero = refl
  total_none (suc n) = let h = total_none n in omega arith

  -- a sum with one more in one term is one more
  total_more : (n p : ℕ) (f g : ℕ → ℕ) → p < n → g p ≡ f p + 1 → ((i : ℕ) → i ≢ p → g i ≡ f i) → total n g ≡ total n f + 1
  total_more zero p f g l at others = omega arith
  total_more (suc n) p f g l at others =
      ⊎_elim
      (λ (e : n ≡ p).
      let a = total_same n g f (λ i h. others i (λ (q : i ≡ p). omega arith)) in
      let b : g n ≡ f n + 1 = ap g e ∙ at ∙ ap (λ x. f x + 1) (sym e) in
      omega arith)
      (λ (ne : n ≡ p → ⊥).
      let a = total_more n p f g (omega arith) at others in
      let b = others n ne in
      omega arith)
      (cases_eq n p)

  -- a history has the deeds of all processes and the growths
  pub entries_total :
      (S : State) → IsFresh kinds net S → (E : List Entry) (M : State) → Run kinds net S E M
      → length E ≡ total (length net.processes) (λ p. length (deeds E p)) + length (growths E)
  entries_total S fresh = run_induction kinds net (λ H _. length H ≡ total (length net.processes) (λ p. length (deeds H p)) + length (growths H)) S (sym (total_none (length net.processes)) ∙ sym (add-zero _)) (λ H M e N before ih s. step H M e N (kept_run kinds net S fresh H M before) ih s)
    where
      step :
          (H : List Entry) (M : State) (e : Entry) (N : State) → Kept kinds net S H M
          → length H ≡ total (length net.processes) (λ p. length (deeds H p)) + length (growths H) → Transition kinds net M e N
          → length (H ++ e ∷ []) ≡ total (length net.processes) (λ p. length (deeds (H ++ e ∷ []) p)) + length (growths (H ++ e ∷ []))
      step H M (Did p d) N k ih s =
          let within = live_within kinds net M p s.answer s.wanted in
          let m = total_more (length net.processes) p (λ q. length (deeds H q)) (λ q. length (deeds (H ++ Did p d ∷ []) q)) (omega (arith, k.processes))
          (ap length (deeds_push_same H p d) ∙ length-append (deeds H p) (d ∷ []))
          (λ i ne. ap length (deeds_push_other H p i d (ne_eqb p i (λ e. ne (sym e))))) in
          let g = ap length (growths_push_did H p d) in
          let l = length-append H (Did p d ∷ []) in
          omega arith
      step H M (Grew c to) N k ih s =
          let m = total_same (length net.processes) (λ q. length (deeds (H ++ Grew c to ∷ []) q)) (λ q. length (deeds H q)) (λ i _. ap length (deeds_push_grew H c to i)) in
          let g = ap length (growths_push_grew H c to) ∙ length-append (growths H) ((c, to) ∷ []) in
          let l = length-append H (Grew c to ∷ []) in
          omega arith
