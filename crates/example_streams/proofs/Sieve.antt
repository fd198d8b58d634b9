-- The sieve.
use Rattle.std.proofs.Common.{◌≡◌, ◌<◌, ◌%◌, ◌==◌, ℕ, zero, suc, Bool, true, false, not, if◌then◌else◌, List, [], ◌∷◌, length, refl, sym, ap, ◌∙◌, arith, map}
use Rattle.std.specs.Prelude.{zip, filter}
use Rattle.std.specs.List.{range_with_len}
use Rattle.std.proofs.lemmas.List.{map-append, get_or_past}
use Rattle.kpn_model.specs.declared.token.Token.{Token}
use Rattle.kpn_model.specs.declared.token.Token.TheVariants.{Word, Flag}
use Rattle.kpn_model.specs.Network.{Network}
use Rattle.kpn_standard.specs.Standard.{standard}
use Rattle.kpn_streams.specs.Functions.{divided, flagged}
use Rattle.kpn_streams.specs.Solving.{HasEquation}
use Rattle.test_laws.specs.Building.{numbers}
use Rattle.example_streams.specs.Arriving.{arriving}
use Rattle.example_streams.specs.Sieve.{sieve, multiples, others, stage, sieve_streams, Sieve}
use Rattle.example_streams.proofs.Laws.{Laws}

-- a number that its flag lets through comes before the others
flagged_one : (test flag : Bool) (x : ℕ) (ps : List (Bool × ℕ)) → map (λ (p : Bool × ℕ). p.1) (if test then (flag, x) ∷ ps else ps) ≡ (if test then x ∷ map (λ (p : Bool × ℕ). p.1) ps else map (λ (p : Bool × ℕ). p.1) ps)
flagged_one true flag x ps = refl
flagged_one false flag x ps = refl

-- those whose flag says that m divides them, and the others
flagged_multiples : (m : ℕ) (xs : List ℕ) → flagged (divided m xs) xs ≡ multiples m xs
flagged_multiples m [] = refl
flagged_multiples m (x ∷ xs) =
    flagged_one (x % m == 0) (x % m == 0) x (filter (λ p. p.0) (zip (divided m xs) xs)) ∙ ap (λ l. if x % m == 0 then x ∷ l else l) (flagged_multiples m xs)

flagged_others : (m : ℕ) (xs : List ℕ) → flagged (map not (divided m xs)) xs ≡ others m xs
flagged_others m [] = refl
flagged_others m (x ∷ xs) =
    flagged_one (not (x % m == 0)) (not (x % m == 0)) x (filter (λ p. p.0) (zip (map not (divided m xs)) xs))
    ∙ ap (λ l. if not (x % m == 0) then x ∷ l else l) (flagged_others m xs)

module _ (laws : Laws) (a b c : ℕ) (xs : List ℕ) (from n : ℕ) (takes : ℕ → ℕ) where
  abbrev net : Network
  net = sieve a b c xs from n takes

  -- what comes to the stages
  abbrev first : List ℕ
  first = arriving xs from n

  abbrev second : List ℕ
  second = others a first

  abbrev third : List ℕ
  third = others b second

  abbrev lists : List (List Token)
  lists = stage a first (stage b second (stage c third (numbers (others c third) ∷ [])))

  abbrev X : ℕ → List Token
  X = sieve_streams a b c first

  abbrev of_count : List (List Token)
  of_count = numbers (range_with_len from n) ∷ []

  abbrev of_copy : List ℕ → List (List Token)
  of_copy ys = numbers ys ∷ numbers ys ∷ []

  abbrev of_divides : ℕ → List ℕ → List (List Token)
  of_divides m ys = map (λ f. Flag f) (divided m ys) ∷ []

  abbrev of_switch : ℕ → List ℕ → List (List Token)
  of_switch m ys = numbers (flagged (map not (divided m ys)) ys) ∷ numbers (flagged (divided m ys) ys) ∷ []

  -- each equation
  equations : (d : ℕ) → d < length net.channels → HasEquation standard net X d (X d)
  equations zero h = laws.equation net X 0 (X 0) 0 of_count refl (laws.count from n (0 ∷ [])) (map-append (λ x. Word x) xs (range_with_len from n))
  equations (suc zero) h = laws.equation net X 1 (X 1) 1 (of_copy first) refl (laws.copy (0 ∷ 0 ∷ 0 ∷ []) first) refl
  equations (suc (suc zero)) h = laws.equation net X 2 (X 2) 1 (of_copy first) refl (laws.copy (0 ∷ 0 ∷ 0 ∷ []) first) refl
  equations (suc (suc (suc zero))) h = laws.equation net X 3 (X 3) 1 (of_divides a first) refl (laws.divides a (0 ∷ 0 ∷ []) first) refl
  equations (suc (suc (suc (suc zero)))) h = laws.equation net X 4 (X 4) 2 (of_switch a first) refl (laws.switch (0 ∷ 0 ∷ 0 ∷ []) first (divided a first)) (ap (λ l. numbers l) (sym (flagged_multiples a first)))
  equations (suc (suc (suc (suc (suc zero))))) h = laws.equation net X 5 (X 5) 2 (of_switch a first) refl (laws.switch (0 ∷ 0 ∷ 0 ∷ []) first (divided a first)) (ap (λ l. numbers l) (sym (flagged_others a first)))
  equations (suc (suc (suc (suc (suc (suc zero)))))) h = laws.equation net X 6 (X 6) 1 (of_copy second) refl (laws.copy (0 ∷ 0 ∷ 0 ∷ []) second) refl
  equations (suc (suc (suc (suc (suc (suc (suc zero))))))) h = laws.equation net X 7 (X 7) 1 (of_copy second) refl (laws.copy (0 ∷ 0 ∷ 0 ∷ []) second) refl
  equations (suc (suc (suc (suc (suc (suc (suc (suc zero)))))))) h = laws.equation net X 8 (X 8) 1 (of_divides b second) refl (laws.divides b (0 ∷ 0 ∷ []) second) refl
  equations (suc (suc (suc (suc (suc (suc (suc (suc (suc zero))))))))) h = laws.equation net X 9 (X 9) 2 (of_switch b second) refl (laws.switch (0 ∷ 0 ∷ 0 ∷ []) second (divided b second)) (ap (λ l. numbers l) (sym (flagged_multiples b second)))
  equations (suc (suc (suc (suc (suc (suc (suc (suc (suc (suc zero)))))))))) h = laws.equation net X 10 (X 10) 2 (of_switch b second) refl (laws.switch (0 ∷ 0 ∷ 0 ∷ []) second (divided b second)) (ap (λ l. numbers l) (sym (flagged_others b second)))
  equations (suc (suc (suc (suc (suc (suc (suc (suc (suc (suc (suc zero))))))))))) h = laws.equation net X 11 (X 11) 1 (of_copy third) refl (laws.copy (0 ∷ 0 ∷ 0 ∷ []) third) refl
  equations (suc (suc (suc (suc (suc (suc (suc (suc (suc (suc (suc (suc zero)))))))))))) h = laws.equation net X 12 (X 12) 1 (of_copy third) refl (laws.copy (0 ∷ 0 ∷ 0 ∷ []) third) refl
  equations (suc (suc (suc (suc (suc (suc (suc (suc (suc (suc (suc (suc (suc zero))))))))))))) h = laws.equation net X 13 (X 13) 1 (of_divides c third) refl (laws.divides c (0 ∷ 0 ∷ []) third) refl
  equations (suc (suc (suc (suc (suc (suc (suc (suc (suc (suc (suc (suc (suc (suc zero)))))))))))))) h = laws.equation net X 14 (X 14) 2 (of_switch c third) refl (laws.switch (0 ∷ 0 ∷ 0 ∷ []) third (divided c third)) (ap (λ l. numbers l) (sym (flagged_multiples c third)))
  equations (suc (suc (suc (suc (suc (suc (suc (suc (suc (suc (suc (suc (suc (suc (suc zero))))))))))))))) h = laws.equation net X 15 (X 15) 2 (of_switch c third) refl (laws.switch (0 ∷ 0 ∷ 0 ∷ []) third (divided c third)) (ap (λ l. numbers l) (sym (flagged_others c third)))
  equations (suc (suc (suc (suc (suc (suc (suc (suc (suc (suc (suc (suc (suc (suc (suc (suc d)))))))))))))))) h = absurd (omega arith)

-- so the network computes them
pub has_sieve : Laws → Sieve
has_sieve laws a b c xs from n takes =
    laws.ordered (sieve a b c xs from n takes) (sieve_streams a b c (arriving xs from n))
    (record { equations = equations laws a b c xs from n takes; beyond = λ d past. get_or_past (lists laws a b c xs from n takes) d [] past })
    (laws.order (sieve a b c xs from n takes) refl)
