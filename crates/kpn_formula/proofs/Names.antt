-- The names of formulas.
use Rattle.std.proofs.Common.{◌≡◌, ◌≢◌, ◌∙◌, ℕ, zero, suc, ◌+◌, ◌*◌, ◌^◌, ◌<◌, ◌≤◌, ◌==◌, ◌&&◌, if◌then◌else◌, Bool, true, false, List, [], ◌∷◌, length, get_or, Option, Some, None, Result, Ok, Err, decimal, bytes_eq, MatchResult, refl, sym, ap, subst, arith, eqb-true}
use Rattle.std.proofs.Math.Nat.{pow-suc}
use Rattle.std.specs.Str.Parse.{ParsesUnsigned, AllDigits, digits_value, without_leading_plus}
use Rattle.std.proofs.lemmas.Fmt.{first_decimal, parse-decimal, decimal-digits_value, digits_value-decimal}
use Rattle.std.proofs.lemmas.Str.Parse.{IsNumeralModel, numerals_by_value, tells_digits, without_leading_plus_none}
use Rattle.std.proofs.lemmas.Slice.Eq.{bytes_eq-Decides}
use Rattle.kpn_model.specs.declared.token.Sort.{Sort}
use Rattle.kpn_model.specs.declared.token.Sort.TheVariants.{Words, Flags}
use Rattle.kpn_rounds.specs.Steps.{count}
use Rattle.kpn_formula.specs.declared.shape.Shape.{Shape}
use Rattle.kpn_formula.specs.Shapes.{flags, is_kind, is_allowed, number_of, shape_numbered, states_of}
use Rattle.kpn_formula.specs.Formulas.{kind_name, kind_if, named, named_by, number_behind}

own : IsNumeralModel (AllDigits 10) (digits_value 10)
own = numerals_by_value (AllDigits 10) tells_digits

-- a numeral begins with a digit other than 0
pub other_first : (ds : List ℕ) (c n : ℕ) → get_or ds 0 0 ≡ c → c ≤ 48 → 0 < n → n < 2 ^ 16 → ds ≢ decimal n
other_first ds c n first small some fits = λ is. let digit = first_decimal n some (omega arith) in absurd (omega (arith, digit, first, ap (λ xs. get_or xs 0 0) is))

-- what is parsed of digits
pub parsed_numeral : {E : Type 0} (ds : List ℕ) (r : Result ℕ E) → ParsesUnsigned 16 10 ds r → get_or ds 0 0 ≢ 48 → get_or ds 0 0 ≢ 43 → MatchResult r (λ n. ds ≡ decimal n) (λ _. (n : ℕ) → 0 < n → n < 2 ^ 16 → ds ≢ decimal n)
parsed_numeral ds (Ok n) parses no_zero no_plus =
    let same : without_leading_plus ds ≡ ds = without_leading_plus_none ds no_plus in
    let facts = subst (λ xs. ((0 < length xs) × AllDigits 10 xs) × (digits_value 10 xs < 2 ^ 16)) same parses.0 in
    let value : n ≡ digits_value 10 ds = parses.1 ∙ ap (λ xs. digits_value 10 xs) same in
    sym (ap (λ k. decimal k) value ∙ decimal-digits_value own ds facts.0.1 facts.0.0 (λ zero_first. absurd (no_zero zero_first)) (omega (arith, facts.1)))
parsed_numeral ds (Err e) parses no_zero no_plus = λ n some fits is. let parsed = parse-decimal 16 n ds (Err e) fits (omega arith) is parses in cc

flags_bound : (ports : List (Option Sort)) → flags ports < 2 ^ length ports
flags_bound [] = omega arith
flags_bound (None ∷ ports) = omega (arith, flags_bound ports, pow-suc 2 (length ports))
flags_bound (Some Words ∷ ports) = omega (arith, flags_bound ports, pow-suc 2 (length ports))
flags_bound (Some Flags ∷ ports) = omega (arith, flags_bound ports, pow-suc 2 (length ports))

count_bound : (ports : List (Option Sort)) → count ports < 4
count_bound [] = omega arith
count_bound (None ∷ ports) = omega arith
count_bound (Some a ∷ []) = omega arith
count_bound (Some a ∷ None ∷ ports) = omega arith
count_bound (Some a ∷ Some b ∷ []) = omega arith
count_bound (Some a ∷ Some b ∷ None ∷ ports) = omega arith
count_bound (Some a ∷ Some b ∷ Some c ∷ ports) = omega arith

second_of : (a b : Bool) → (a && b) ≡ true → b ≡ true
second_of true b is = is
second_of false b is = cc

-- the number of a kind is below 2^13
kind_bound : (n : ℕ) → is_kind n ≡ true → n < 2 ^ 13
kind_bound n is =
    let s = shape_numbered n in
    let same : number_of s ≡ n = eqb-true (number_of s) n (second_of (is_allowed s) (number_of s == n) is) in
    let ins_bits : flags s.ins < 8 = flags_bound s.ins in
    let outs_bits : flags s.outs < 8 = flags_bound s.outs in
    let few : number_of s < 2 ^ 13 = bound (states_of n) (count s.ins) (count s.outs) (flags s.ins) (flags s.outs) (omega arith) (count_bound s.ins) (count_bound s.outs) ins_bits outs_bits in
    subst (λ k. k < 2 ^ 13) same few
  where
    bound : (k i o f g : ℕ) → k < 8 → i < 4 → o < 4 → f < 8 → g < 8 → k + 8 * (i + 4 * (o + 4 * (f + 8 * g))) < 2 ^ 13
    bound k i o f g k_small i_small o_small f_small g_small = omega arith

some_kind : (n : ℕ) → is_kind n ≡ true → 0 < n
some_kind zero is = cc
some_kind (suc n) is = omega arith

named_if : (same kind : Bool) (n : ℕ) → (same ≡ true → kind ≡ true → ⊥) → None ≡ kind_if (same && kind) n
named_if true true n wrong = absurd (wrong refl refl)
named_if true false n wrong = refl
named_if false true n wrong = refl
named_if false false n wrong = refl

-- a name that is no kind's
pub not_named : (name : List ℕ) → ((n : ℕ) → 0 < n → n < 2 ^ 16 → name ≢ kind_name n) → None ≡ named name
not_named name none =
    let n = number_behind name in
    named_if (bytes_eq name (kind_name n)) (is_kind n) n (λ same kind. none n (some_kind n kind) (omega (arith, kind_bound n kind)) ((bytes_eq-Decides name (kind_name n)).0 same))

-- the name of a number
named_of : (name : List ℕ) (n : ℕ) → n < 2 ^ 16 → name ≡ kind_name n → named name ≡ kind_if (is_kind n) n
named_of name n small is =
    let number : number_behind name ≡ n = ap (λ xs. number_behind xs) is ∙ digits_value-decimal own n (omega arith) in
    let same : bytes_eq name (kind_name n) ≡ true = (bytes_eq-Decides name (kind_name n)).1 is in
    ap (λ k. named_by k name) number ∙ if_same (bytes_eq name (kind_name n)) (is_kind n) same
  where
    if_same : (b kind : Bool) → b ≡ true → kind_if (b && kind) n ≡ kind_if kind n
    if_same true kind holds = refl
    if_same false kind holds = cc

kind_picked : (kind : Bool) (n : ℕ) (s t : Shape) (found : Option (ℕ × ℕ)) → Some s ≡ (if kind then Some t else None) → found ≡ kind_if kind n → Some (n, 3) ≡ found
kind_picked true n s t found some is = sym is
kind_picked false n s t found some is = cc

kind_missed : (kind : Bool) (n : ℕ) (t : Shape) (found : Option (ℕ × ℕ)) → None ≡ (if kind then Some t else None) → found ≡ kind_if kind n → None ≡ found
kind_missed true n t found none is = cc
kind_missed false n t found none is = sym is

pub is_named : (name : List ℕ) (n : ℕ) (s : Shape) → n < 2 ^ 16 → name ≡ kind_name n → Some s ≡ (if is_kind n then Some (shape_numbered n) else None) → Some (n, 3) ≡ named name
is_named name n s small is some = kind_picked (is_kind n) n s (shape_numbered n) (named name) some (named_of name n small is)

pub names_none : (name : List ℕ) (n : ℕ) → n < 2 ^ 16 → name ≡ kind_name n → None ≡ (if is_kind n then Some (shape_numbered n) else None) → None ≡ named name
names_none name n small is none = kind_missed (is_kind n) n (shape_numbered n) (named name) none (named_of name n small is)
