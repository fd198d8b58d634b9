-- The running sums.
use Rattle.std.proofs.Common.{◌≡◌, ◌<◌, ◌+◌, ◌%◌, ◌^◌, ℕ, zero, suc, List, [], ◌∷◌, length, refl, sym, ap, ◌∙◌, subst, arith, get_or, take, sum}
use Rattle.std.specs.List.{range_with_len}
use Rattle.std.proofs.lemmas.List.{map-append, take_all, get_or_past}
use Rattle.std.proofs.lemmas.List.Sums.{sum_by-cons}
use Rattle.kpn_model.specs.declared.token.Token.{Token}
use Rattle.kpn_model.specs.declared.token.Token.TheVariants.{Word}
use Rattle.kpn_model.specs.Network.{Network}
use Rattle.kpn_standard.specs.Standard.{standard}
use Rattle.kpn_laws.specs.Alone.{Streams, BeginsWith}
use Rattle.kpn_laws.specs.Equations.{Obeys}
use Rattle.kpn_streams.specs.Functions.{sums}
use Rattle.kpn_streams.specs.Solving.{HasEquation, Solves}
use Rattle.test_laws.specs.Building.{numbers}
use Rattle.example_streams.specs.Arriving.{arriving, on_channels}
use Rattle.example_streams.specs.RunningSums.{running_sums, sums_so_far, running_streams, RunningSums, SumsAreSums}
use Rattle.example_streams.proofs.Laws.{Laws}

-- with no sum before it nothing is added
sums_of_none : (xs : List ℕ) → sums xs [] ≡ []
sums_of_none [] = refl
sums_of_none (x ∷ xs) = refl

-- the sum of a number and the sum before it, which may have been taken modulo 2^64
next_sum : (s x : ℕ) → (x + s % 2 ^ 64) % 2 ^ 64 ≡ (s + x) % 2 ^ 64
next_sum s x = omega arith

-- so many sums and the one before give one sum more
sums_of_sums : (xs : List ℕ) (s m : ℕ) → sums xs (s % 2 ^ 64 ∷ take m (sums_so_far s xs)) ≡ take (suc m) (sums_so_far s xs)
sums_of_sums [] s m = refl
sums_of_sums (x ∷ xs) s zero = ap (λ y. y ∷ sums xs []) (next_sum s x) ∙ ap (λ l. (s + x) % 2 ^ 64 ∷ l) (sums_of_none xs)
sums_of_sums (x ∷ xs) s (suc m) =
    ap (λ y. y ∷ sums xs ((s + x) % 2 ^ 64 ∷ take m (sums_so_far (s + x) xs))) (next_sum s x)
    ∙ ap (λ l. (s + x) % 2 ^ 64 ∷ l) (sums_of_sums xs (s + x) m)

-- all sums and the one before the first give all sums
sums_of_all : (xs : List ℕ) → sums xs (0 ∷ sums_so_far 0 xs) ≡ sums_so_far 0 xs
sums_of_all xs =
    let S = sums_so_far 0 xs in
    let all : take (length S) S ≡ S = take_all (length S) S (omega arith) in
    ap (λ l. sums xs (0 ∷ l)) (sym all) ∙ sums_of_sums xs 0 (length S) ∙ take_all (suc (length S)) S (omega arith)

module _ (laws : Laws) (xs : List ℕ) (from n k : ℕ) where
  abbrev net : Network
  net = running_sums xs from n k

  abbrev all : List ℕ
  all = arriving xs from n

  -- the sums that have come after m rounds
  abbrev first_sums : ℕ → List ℕ
  first_sums m = take m (sums_so_far 0 all)

  -- what arrives, whatever the channels have
  arrives : (X : ℕ → List Token) → HasEquation standard net X 0 (numbers all)
  arrives X = laws.equation net X 0 (numbers all) 0 (numbers (range_with_len from n) ∷ []) refl (laws.count from n (0 ∷ [])) (map-append (λ x. Word x) xs (range_with_len from n))

  -- what each pre-fixed point has
  module _ (U : Streams) (obeys : Obeys standard net U) where
    -- what arrives at the adder
    arrived : BeginsWith (U 0) (numbers all)
    arrived = laws.step net (λ c. []) U 0 (numbers all) obeys (λ c. tt) (arrives (λ c. []))

    -- if m sums have come back, one more is made
    module _ (m : ℕ) (back : BeginsWith (U 1) (numbers (0 ∷ first_sums m))) where
      abbrev Y : ℕ → List Token
      Y = on_channels (numbers all ∷ numbers (0 ∷ first_sums m) ∷ [])

      begin : (b : ℕ) → BeginsWith (U b) (Y b)
      begin zero = arrived
      begin (suc zero) = back
      begin (suc (suc b)) = tt

      made : BeginsWith (U 2) (numbers (first_sums (suc m)))
      made =
          laws.step net Y U 2 (numbers (first_sums (suc m))) obeys begin
          (laws.equation net Y 2 (numbers (first_sums (suc m))) 2 (numbers (sums all (0 ∷ first_sums m)) ∷ []) refl (laws.add (0 ∷ 0 ∷ 0 ∷ []) all (0 ∷ first_sums m))
          (ap (λ l. numbers l) (sym (sums_of_sums all 0 m))))

    -- what is made comes back after the start token, and to the sink
    module _ (ys : List ℕ) (there : BeginsWith (U 2) (numbers ys)) where
      abbrev X : ℕ → List Token
      X = on_channels ([] ∷ [] ∷ numbers ys ∷ [])

      begins : (b : ℕ) → BeginsWith (U b) (X b)
      begins zero = tt
      begins (suc zero) = tt
      begins (suc (suc zero)) = there
      begins (suc (suc (suc b))) = tt

      comes_back : BeginsWith (U 1) (numbers (0 ∷ ys))
      comes_back =
          laws.step net X U 1 (numbers (0 ∷ ys)) obeys begins
          (laws.equation net X 1 (numbers (0 ∷ ys)) 1 (numbers ys ∷ numbers ys ∷ []) refl (laws.copy (0 ∷ 0 ∷ 0 ∷ []) ys) refl)

      comes_out : BeginsWith (U 3) (numbers ys)
      comes_out =
          laws.step net X U 3 (numbers ys) obeys begins
          (laws.equation net X 3 (numbers ys) 1 (numbers ys ∷ numbers ys ∷ []) refl (laws.copy (0 ∷ 0 ∷ 0 ∷ []) ys) refl)

    -- so m sums come back
    come_back : (m : ℕ) → BeginsWith (U 1) (numbers (0 ∷ first_sums m))
    come_back zero = comes_back [] tt
    come_back (suc m) = comes_back (first_sums (suc m)) (made m (come_back m))

    -- and all are made
    all_made : BeginsWith (U 2) (numbers (sums_so_far 0 all))
    all_made =
        let S = sums_so_far 0 all in
        subst (λ l. BeginsWith (U 2) (numbers l)) (take_all (suc (length S)) S (omega arith)) (made (length S) (come_back (length S)))

    all_below : (c : ℕ) → BeginsWith (U c) (running_streams all c)
    all_below zero = arrived
    all_below (suc zero) = comes_back (sums_so_far 0 all) all_made
    all_below (suc (suc zero)) = all_made
    all_below (suc (suc (suc zero))) = comes_out (sums_so_far 0 all) all_made
    all_below (suc (suc (suc (suc c)))) = tt

  -- the sums solve the equations
  abbrev lists : List (List Token)
  lists = numbers all ∷ numbers (0 ∷ sums_so_far 0 all) ∷ numbers (sums_so_far 0 all) ∷ numbers (sums_so_far 0 all) ∷ []

  abbrev Z : ℕ → List Token
  Z = running_streams all

  equations : (c : ℕ) → c < length net.channels → HasEquation standard net Z c (Z c)
  equations zero h = arrives Z
  equations (suc zero) h =
      laws.equation net Z 1 (Z 1) 1 (numbers (sums_so_far 0 all) ∷ numbers (sums_so_far 0 all) ∷ []) refl (laws.copy (0 ∷ 0 ∷ 0 ∷ []) (sums_so_far 0 all)) refl
  equations (suc (suc zero)) h =
      laws.equation net Z 2 (Z 2) 2 (numbers (sums all (0 ∷ sums_so_far 0 all)) ∷ []) refl (laws.add (0 ∷ 0 ∷ 0 ∷ []) all (0 ∷ sums_so_far 0 all))
      (ap (λ l. numbers l) (sym (sums_of_all all)))
  equations (suc (suc (suc zero))) h =
      laws.equation net Z 3 (Z 3) 1 (numbers (sums_so_far 0 all) ∷ numbers (sums_so_far 0 all) ∷ []) refl (laws.copy (0 ∷ 0 ∷ 0 ∷ []) (sums_so_far 0 all)) refl
  equations (suc (suc (suc (suc c)))) h = absurd (omega arith)

  solve : Solves standard net Z
  solve = record { equations = equations; beyond = λ c past. get_or_past lists c [] past }

-- so the network computes them
pub has_running_sums : Laws → RunningSums
has_running_sums laws xs from n k =
    laws.computed (running_sums xs from n k) (running_streams (arriving xs from n)) (solve laws xs from n k) (all_below laws xs from n k)

-- at place k stands the sum of s and the numbers up to there
place_of_sums : (xs : List ℕ) (s k : ℕ) → k < length xs → get_or (sums_so_far s xs) k 0 ≡ (s + sum (take (suc k) xs)) % 2 ^ 64
place_of_sums [] s k h = absurd (omega arith)
place_of_sums (x ∷ xs) s zero h = let one : s + x ≡ s + sum (x ∷ []) = omega (arith, sum_by-cons (λ y. y) x []) in ap (λ y. y % 2 ^ 64) one
place_of_sums (x ∷ xs) s (suc k) h =
    let moved : (s + x) + sum (take (suc k) xs) ≡ s + sum (x ∷ take (suc k) xs) = omega (arith, sum_by-cons (λ y. y) x (take (suc k) xs)) in
    place_of_sums xs (s + x) k (omega arith) ∙ ap (λ y. y % 2 ^ 64) moved

pub sums_are_sums : SumsAreSums
sums_are_sums xs k h =
    let next : suc k ≡ k + 1 = omega arith in
    let none : 0 + sum (take (suc k) xs) ≡ sum (take (suc k) xs) = omega arith in
    place_of_sums xs 0 k h ∙ ap (λ y. y % 2 ^ 64) (none ∙ ap (λ i. sum (take i xs)) next)
