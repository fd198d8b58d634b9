-- The digits of packed arguments.
use Rattle.std.proofs.Common.{◌≡◌, ◌∙◌, ℕ, zero, suc, ◌+◌, ◌*◌, ◌/◌, ◌%◌, ◌^◌, ◌<◌, ◌≤◌, nat_lt, true, List, [], ◌∷◌, length, take, drop, refl, sym, ap, subst, arith, All, ◌⊎◌, inl, inr}
use Rattle.std.proofs.Math.Nat.{div-div-eq-div-mul, zero-div, pow-suc}
use Rattle.std.proofs.lemmas.List.{get_or-take, get_or-drop, length-take}
use Rattle.std.proofs.lemmas.List.Elements.{All-head, All-tail, All-take, All-drop}
use Rattle.std.proofs.lemmas.Bool.Decides.{nat_tests}
use Rattle.kpn_model.specs.declared.kinds.Card.{Card}
use Rattle.kpn_standard.specs.Locals.{at}
use Rattle.kpn_formula.specs.Cards.{digit, digits_from, digits}
use Rattle.kpn_formula.specs.Shapes.{has_digits}
use Rattle.kpn_formula.specs.Spelling.{packed, IsDigit, args_of}

packed_zero : (n : ℕ) → 0 / n % 32 ≡ 0
packed_zero n = rw zero-div refl

-- digit i of the number of digits
pub digit_packed : (ds : List ℕ) (i : ℕ) → All IsDigit ds → packed ds / 32 ^ i % 32 ≡ at ds i
digit_packed [] i small = packed_zero (32 ^ i)
digit_packed (d ∷ ds) zero small = let first : d < 32 = All-head IsDigit d ds small in omega arith
digit_packed (d ∷ ds) (suc i) small =
    let first : d < 32 = All-head IsDigit d ds small in
    let over : (d + 32 * packed ds) / 32 ≡ packed ds = omega arith in
    let split : 32 ^ suc i ≡ 32 * 32 ^ i = omega (arith, pow-suc 32 i) in
    ap (λ n. (d + 32 * packed ds) / n % 32) split
    ∙ ap (λ n. n % 32) (sym (div-div-eq-div-mul (d + 32 * packed ds) 32 (32 ^ i)))
    ∙ ap (λ n. n / 32 ^ i % 32) over
    ∙ digit_packed ds i (All-tail IsDigit d ds small)

-- n digits make a number below 32 ^ n
pub packed_bound : (n : ℕ) (ds : List ℕ) → All IsDigit ds → length ds ≤ n → packed ds < 32 ^ n
packed_bound zero [] small few = omega arith
packed_bound zero (d ∷ ds) small few = absurd (omega (arith, few))
packed_bound (suc n) [] small few = omega (arith, packed_bound n [] small (omega arith), pow-suc 32 n)
packed_bound (suc n) (d ∷ ds) small few =
    let first : d < 32 = All-head IsDigit d ds small in
    let rest : packed ds < 32 ^ n = packed_bound n ds (All-tail IsDigit d ds small) (omega (arith, few)) in
    omega (arith, pow-suc 32 n)

pub rest_bound : (d : ℕ) (ds all : List ℕ) → all ≡ d ∷ ds → All IsDigit all → length all ≤ 12 → (d < 32) × (packed ds < 2 ^ 55)
rest_bound d ds all is small few =
    let digits : All IsDigit (d ∷ ds) = subst (λ xs. All IsDigit xs) is small in
    (All-head IsDigit d ds digits, packed_bound 11 ds (All-tail IsDigit d ds digits) (omega (arith, few, ap length is)))

-- digits that are equal at each place
pub digits_at : (card : Card) (i n : ℕ) (ds : List ℕ) → length ds ≡ n → ((k : ℕ) → k < n → digit card (i + k) ≡ at ds k) → digits_from card i n ≡ ds
digits_at card i zero [] long same = refl
digits_at card i zero (d ∷ ds) long same = absurd (omega (arith, long))
digits_at card i (suc n) [] long same = absurd (omega (arith, long))
digits_at card i (suc n) (d ∷ ds) long same =
    let first : digit card i ≡ d = subst (λ j. digit card j ≡ d) (omega arith) (same 0 (omega arith)) in
    let rest : digits_from card (i + 1) n ≡ ds =
    digits_at card (i + 1) n ds (omega (arith, long)) (λ k below. subst (λ j. digit card j ≡ at ds k) (omega arith) (same (suc k) (omega arith))) in
    rw (first, rest) refl

-- a digit of one of three arguments
chunk : (ds : List ℕ) (start i : ℕ) → All IsDigit ds → i < 12 → packed (take 12 (drop start ds)) / 32 ^ i % 32 ≡ at ds (start + i)
chunk ds start i small below =
    digit_packed (take 12 (drop start ds)) i (All-take IsDigit 12 (drop start ds) (All-drop IsDigit start ds small))
    ∙ get_or-take 12 (drop start ds) i 0 below
    ∙ get_or-drop start ds i 0

first_chunk : (ds : List ℕ) (i : ℕ) → All IsDigit ds → i < 12 → packed (take 12 ds) / 32 ^ i % 32 ≡ at ds i
first_chunk ds i small below = digit_packed (take 12 ds) i (All-take IsDigit 12 ds small) ∙ get_or-take 12 ds i 0 below

third : (k : ℕ) → k < 36 → (k / 12 ≡ 0) ⊎ ((k / 12 ≡ 1) ⊎ (k / 12 ≡ 2))
third k below = grind arith

digit_of : (kind : ℕ) (ds : List ℕ) (k : ℕ) → All IsDigit ds → k < 36 → digit (record { kind = kind; args = args_of ds }) k ≡ at ds k
digit_of kind ds k small below = elim (third k below) [
  | inl e ↦ rw e (first_chunk ds (k % 12) small (omega arith) ∙ ap (λ i. at ds i) (omega (arith, e)))
  | inr (inl e) ↦ rw e (chunk ds 12 (k % 12) small (omega arith) ∙ ap (λ i. at ds i) (omega (arith, e)))
  | inr (inr e) ↦ rw e (chunk ds 24 (k % 12) small (omega arith) ∙ ap (λ i. at ds i) (omega (arith, e)))
]

-- a card of 36 digits has these digits
pub digits_packed : (kind : ℕ) (ds : List ℕ) → length ds ≡ 36 → All IsDigit ds → digits (record { kind = kind; args = args_of ds }) ≡ ds
unfolding digits
digits_packed kind ds long small = digits_at (record { kind = kind; args = args_of ds }) 0 36 ds long (λ k below. subst (λ j. digit (record { kind = kind; args = args_of ds }) j ≡ at ds k) (omega arith) (digit_of kind ds k small below))

below_limit : (n : ℕ) → n < 2 ^ 60 → nat_lt n (2 ^ 60) ≡ true
below_limit n small = grind (arith, nat_tests)

-- and its arguments have 60 bits
pub packed_has_digits : (kind : ℕ) (ds : List ℕ) → length ds ≡ 36 → All IsDigit ds → has_digits (record { kind = kind; args = args_of ds }) ≡ true
packed_has_digits kind ds long small =
    let first = below_limit (packed (take 12 ds)) (packed_bound 12 (take 12 ds) (All-take IsDigit 12 ds small) (omega (arith, length-take 12 ds))) in
    let second = below_limit (packed (take 12 (drop 12 ds))) (packed_bound 12 (take 12 (drop 12 ds)) (All-take IsDigit 12 (drop 12 ds) (All-drop IsDigit 12 ds small)) (omega (arith, length-take 12 (drop 12 ds)))) in
    let third_one = below_limit (packed (take 12 (drop 24 ds))) (packed_bound 12 (take 12 (drop 24 ds)) (All-take IsDigit 12 (drop 24 ds) (All-drop IsDigit 24 ds small)) (omega (arith, length-take 12 (drop 24 ds)))) in
    rw (first, second, third_one) refl
