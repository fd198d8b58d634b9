-- The endless loop, by the limit of its approximations.
use Rattle.std.proofs.Common.{◌≡◌, ◌≤◌, ◌<◌, ℕ, zero, suc, List, [], ◌∷◌, length, refl, ap, ◌∙◌, arith, get_or, Some, None, slice_get}
use Rattle.std.proofs.lemmas.List.{get_or_past}
use Rattle.kpn_model.specs.declared.token.Token.{Token}
use Rattle.kpn_model.specs.declared.token.Token.TheVariants.{Word}
use Rattle.kpn_model.specs.Network.{Network}
use Rattle.kpn_standard.specs.Standard.{standard}
use Rattle.kpn_streams.specs.Solving.{HasEquation, Approximates, IsLimitOf}
use Rattle.test_laws.specs.Building.{numbers}
use Rattle.example_streams.specs.Endless.{endless, for_ever, EndlessLoop}
use Rattle.example_streams.proofs.Laws.{Laws}

module _ (laws : Laws) (v k : ℕ) where
  abbrev net : Network
  net = endless v k

  abbrev lists : (ℕ → List ℕ) → List (List ℕ)
  lists X = (v ∷ X 1) ∷ X 0 ∷ X 0 ∷ []

  abbrev approximation : ℕ → ℕ → List ℕ
  approximation zero c = []
  approximation (suc m) c = get_or (lists (approximation m)) c []

  equations : (X : ℕ → List ℕ) (c : ℕ) → c < length net.channels → HasEquation standard net (λ b. numbers (X b)) c (numbers (get_or (lists X) c []))
  equations X zero h = laws.equation net (λ b. numbers (X b)) 0 (numbers (v ∷ X 1)) 1 (numbers (v ∷ X 1) ∷ []) refl (laws.prefix v (0 ∷ 0 ∷ []) (X 1)) refl
  equations X (suc zero) h = laws.equation net (λ b. numbers (X b)) 1 (numbers (X 0)) 1 (numbers (X 0) ∷ numbers (X 0) ∷ []) refl (laws.copy (0 ∷ 0 ∷ 0 ∷ []) (X 0)) refl
  equations X (suc (suc zero)) h = laws.equation net (λ b. numbers (X b)) 2 (numbers (X 0)) 1 (numbers (X 0) ∷ numbers (X 0) ∷ []) refl (laws.copy (0 ∷ 0 ∷ 0 ∷ []) (X 0)) refl
  equations X (suc (suc (suc c))) h = absurd (omega arith)

  none_beyond : (m c : ℕ) → length net.channels ≤ c → numbers (approximation m c) ≡ []
  none_beyond zero c past = refl
  none_beyond (suc m) c past = let X = approximation m in ap (λ l. numbers l) (get_or_past (lists X) c [] past)

  approximates : Approximates standard net (λ m c. numbers (approximation m c))
  approximates = record { begins = λ c. refl; next = λ m c h. equations (approximation m) c h; beyond = none_beyond }

  -- some approximation has a token at each place
  abbrev IsThere : ℕ → ℕ → Type 0
  IsThere c n = (m : ℕ) × (slice_get (numbers (approximation m c)) n ≡ Some (Word v))

  comes : (n : ℕ) → IsThere 0 n
  comes zero = (1, refl)
  comes (suc n) = let x = comes n in (suc (suc x.0), x.1)

  -- and no other
  is_v : (m c n : ℕ) (t : Token) → slice_get (numbers (approximation m c)) n ≡ Some t → for_ever v c n ≡ Some t
  is_v zero c n t e = let none : None ≡ Some t = e in absurd cc
  is_v (suc m) zero zero t e = e
  is_v (suc m) zero (suc n) t e = is_v m 1 n t e
  is_v (suc m) (suc zero) n t e = is_v m 0 n t e
  is_v (suc m) (suc (suc zero)) n t e = is_v m 0 n t e
  is_v (suc m) (suc (suc (suc c))) n t e = let none : None ≡ Some t = e in absurd cc

  limit : IsLimitOf (λ m c. numbers (approximation m c)) (for_ever v)
  limit c n t = (there c, λ x. is_v x.0 c n t x.1)
    where
      there : (c : ℕ) → for_ever v c n ≡ Some t → (m : ℕ) × (slice_get (numbers (approximation m c)) n ≡ Some t)
      there zero e = let x = comes n in (x.0, x.1 ∙ e)
      there (suc zero) e = let x = comes n in (suc x.0, x.1 ∙ e)
      there (suc (suc zero)) e = let x = comes n in (suc x.0, x.1 ∙ e)
      there (suc (suc (suc c))) e = let none : None ≡ Some t = e in absurd cc

-- so its streams are endless
pub endless_loop : Laws → EndlessLoop
endless_loop laws v k = laws.limit (endless v k) (λ m c. numbers (approximation laws v k m c)) (for_ever v) (approximates laws v k) (limit laws v k)
