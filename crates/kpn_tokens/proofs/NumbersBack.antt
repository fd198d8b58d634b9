-- The text of a word says the word.
use Rattle.std.proofs.Common.{◌≡◌, ◌<◌, ◌≤◌, ◌+◌, ◌-◌, ◌*◌, ◌/◌, ◌%◌, ◌^◌, ◌∙◌, ◌++◌, ℕ, zero, suc, Bool, true, false, not, inl, inr, List, [], ◌∷◌, Ok, Some, decimal, length, refl, sym, ap, append_assoc, append-nil, length-append, arith}
use Rattle.std.proofs.Math.Nat.{div-div-eq-div-mul, div-le_self, mod-eq_of_lt, pow-succ'}
use Rattle.std.proofs.lemmas.Bool.{and_right, and_parts, cases_Bool, eqb-true, le-leb, le-ltb, leb-true, lt-ltb, ne_eqb}
use Rattle.std.proofs.lemmas.Fmt.{decimal_is_IsNumeral}
use Rattle.std.proofs.lemmas.Int.Digits.{digits_push}
use Rattle.std.proofs.lemmas.List.Folds.{list_all-append}
use Rattle.std.proofs.lemmas.Str.{digit_value_digit}
use Rattle.std.proofs.lemmas.Str.Parse.{digit_from_value}
use Rattle.std.specs.Char.{digit_value}
use Rattle.std.specs.Int.{IsInRange}
use Rattle.std.specs.List.{after_first, before_first, list_all, list_any}
use Rattle.std.specs.Prelude.{◌==◌, ◌&&◌, ◌||◌, nat_le, slice_index}
use Rattle.std.specs.Str.Parse.{AllDigits, IsNumeral, digits_value, digits_value_after}
use Rattle.kpn_model.specs.declared.token.Sort.TheVariants.{Words}
use Rattle.kpn_model.specs.declared.token.Token.TheVariants.{Word}
use Rattle.kpn_tokens.specs.declared.layouts.Decimals.{Decimals}
use Rattle.kpn_tokens.specs.Numbers.{digits_said, is_below_zero, is_digit, is_hexadecimal, is_point, is_underscore, last_digits, number_said, token_said, units_text, word_said, word_text}
use Rattle.kpn_tokens.proofs.Digits.{after_both}
use Rattle.kpn_tokens.proofs.Places.{none_after, none_before}
use Rattle.kpn_tokens.proofs.Plain.{after_after, are_plain, before_after, place_none}

-- tests of decimal digits
all_pass : (test : ℕ → Bool) → ((b : ℕ) → IsInRange 48 57 b → test b ≡ true) → (ds : List ℕ) → AllDigits 10 ds → list_all test ds ≡ true
all_pass test each [] h = refl
all_pass test each (b ∷ bs) h = rw (each b (digit_from_value b h.0), all_pass test each bs h.1) refl

none_pass : (test : ℕ → Bool) → ((b : ℕ) → IsInRange 48 57 b → test b ≡ false) → (ds : List ℕ) → AllDigits 10 ds → list_any test ds ≡ false
none_pass test each [] h = refl
none_pass test each (b ∷ bs) h = rw (each b (digit_from_value b h.0)) (none_pass test each bs h.1)

some_pass : (ds : List ℕ) → IsNumeral 10 ds → list_any (is_digit 10) ds ≡ true
some_pass [] h = absurd (omega (arith, h.0))
some_pass (b ∷ bs) h = rw (lt-ltb (digit_value b) 10 h.1.0) refl

digits_both : (xs ys : List ℕ) → AllDigits 10 xs → AllDigits 10 ys → AllDigits 10 (xs ++ ys)
digits_both [] ys h k = k
digits_both (x ∷ xs) ys h k = (h.0, digits_both xs ys h.1 k)

digit_said : (b : ℕ) → IsInRange 48 57 b → is_digit 10 b ≡ true
digit_said b h = lt-ltb (digit_value b) 10 (omega (arith, digit_value_digit b h))

-- what decimal digits say
pub said_is : (places after : ℕ) (ds : List ℕ) → IsNumeral 10 ds → after ≤ places → digits_said places 10 ds after ≡ Ok (digits_value 10 ds * 10 ^ (places - after))
said_is places after ds h few =
    let some = some_pass ds h in
    let all = all_pass (λ b. is_digit 10 b || is_underscore b) (λ b r. rw (digit_said b r) refl) ds h.1 in
    let plain = none_pass is_underscore (λ b r. ne_eqb b 95 (λ e. absurd (omega arith))) ds h.1 in
    rw (some, all, plain, le-ltb places after few) refl

-- the last digits of a number
last_are_digits : (k n : ℕ) → AllDigits 10 (last_digits k n)
last_are_digits zero n = tt
last_are_digits (suc k) n =
    let small : n % 10 < 10 = omega arith in
    let value = digit_value_digit (48 + n % 10) (omega arith, omega arith) in
    digits_push 10 (last_digits k (n / 10)) (48 + n % 10) (last_are_digits k (n / 10)) (omega arith)

last_length : (k n : ℕ) → length (last_digits k n) ≡ k
last_length zero n = refl
last_length (suc k) n = omega (arith, length-append (last_digits k (n / 10)) ((48 + n % 10) ∷ []), last_length k (n / 10))

pub last_value : (k n : ℕ) → digits_value_after 10 (n / 10 ^ k) (last_digits k n) ≡ n
last_value zero n = omega arith
last_value (suc k) n =
    let value = digit_value_digit (48 + n % 10) (omega arith, omega arith) in
    let tenth : n / 10 ^ suc k ≡ n / 10 / 10 ^ k = sym (div-div-eq-div-mul n 10 (10 ^ k) ∙ ap (λ m. n / m) power) in
    let both = after_both 10 (n / 10 ^ suc k) (last_digits k (n / 10)) ((48 + n % 10) ∷ []) in
    let before : digits_value_after 10 (n / 10 ^ suc k) (last_digits k (n / 10)) ≡ n / 10 = rw tenth (last_value k (n / 10)) in
    let digit : digit_value (48 + n % 10) ≡ n % 10 = omega arith in
    let sum : n / 10 * 10 + n % 10 ≡ n = omega arith in
    both ∙ ap (λ m. m * 10 + digit_value (48 + n % 10)) before ∙ rw digit sum
  where
    power : 10 * 10 ^ k ≡ 10 ^ suc k
    power = sym (pow-succ' 10 k)

-- a text of digits, in which a point may stand
abbrev pub is_figure : ℕ → Bool
is_figure b = nat_le 46 b && nat_le b 57

abbrev pub are_figures : List ℕ → Bool
are_figures text = list_all is_figure text

figure_range : (b : ℕ) → is_figure b ≡ true → (46 ≤ b) × (b ≤ 57)
figure_range b e = let (low, high) = and_parts (nat_le 46 b) (nat_le b 57) e in (leb-true 46 b low, leb-true b 57 high)

figure_at : (text : List ℕ) (i : ℕ) → are_figures text ≡ true → slice_index text i ≤ 57
figure_at [] i h = omega arith
figure_at (b ∷ bs) zero h = let (first, more) = and_parts (is_figure b) (are_figures bs) h in (figure_range b first).1
figure_at (b ∷ bs) (suc i) h = let (first, more) = and_parts (is_figure b) (are_figures bs) h in figure_at bs i more

pub figure_first : (text : List ℕ) → are_figures text ≡ true → 0 < length text → 46 ≤ slice_index text 0
figure_first [] h some = absurd (omega arith)
figure_first (b ∷ bs) h some = let (first, more) = and_parts (is_figure b) (are_figures bs) h in (figure_range b first).0

pub figures_plain : (text : List ℕ) → are_figures text ≡ true → are_plain text ≡ true
figures_plain [] h = refl
figures_plain (b ∷ bs) h =
    let (first, more) = and_parts (is_figure b) (are_figures bs) h in
    let range = figure_range b first in
    rw (le-leb 45 b (omega (arith, range.0)), le-leb b 57 range.1) (figures_plain bs more)

pub digits_figures : (ds : List ℕ) → AllDigits 10 ds → are_figures ds ≡ true
digits_figures ds h = all_pass is_figure (λ b r. rw (le-leb 46 b (omega (arith, r.0)), le-leb b 57 r.1) refl) ds h

pub no_point : (ds : List ℕ) → AllDigits 10 ds → list_any is_point ds ≡ false
no_point ds h = none_pass is_point (λ b r. ne_eqb b 46 (λ e. absurd (omega (arith, r.0)))) ds h

pub not_hexadecimal : (text : List ℕ) → are_figures text ≡ true → is_hexadecimal text ≡ false
not_hexadecimal text h =
    let high = figure_at text 1 h in
    let small : (slice_index text 1 == 120) ≡ false = ne_eqb (slice_index text 1) 120 (λ e. absurd (omega arith)) in
    let great : (slice_index text 1 == 88) ≡ false = ne_eqb (slice_index text 1) 88 (λ e. absurd (omega arith)) in
    rw (small, great) (and_right (slice_index text 0 == 48) false refl)

module _ (k n : ℕ) (small : n < 2 ^ 64) where
  whole_numeral : IsNumeral 10 (decimal (n / 10 ^ k)) × (digits_value 10 (decimal (n / 10 ^ k)) ≡ n / 10 ^ k)
  whole_numeral = decimal_is_IsNumeral (n / 10 ^ k) (omega (arith, div-le_self n (10 ^ k)))

  numeral : IsNumeral 10 (decimal n) × (digits_value 10 (decimal n) ≡ n)
  numeral = decimal_is_IsNumeral n small

  -- the text without a point, and with one
  without_point : (k == 0) ≡ true → units_text k n ≡ decimal n
  without_point e = rw e refl

  with_point : (k == 0) ≡ false → units_text k n ≡ decimal (n / 10 ^ k) ++ 46 ∷ last_digits k n
  with_point e = rw e (append_assoc (decimal (n / 10 ^ k)) (46 ∷ []) (last_digits k n))

  pub units_figures : are_figures (units_text k n) ≡ true
  units_figures = elim (cases_Bool (k == 0)) [
    | inl e ↦ rw (without_point e) (digits_figures (decimal n) numeral.0.1)
    | inr e ↦
        let first = digits_figures (decimal (n / 10 ^ k)) whole_numeral.0.1 in
        let more = digits_figures (last_digits k n) (last_are_digits k n) in
        rw (with_point e, list_all-append is_figure (decimal (n / 10 ^ k)) (46 ∷ last_digits k n), first) more
  ]

  pub units_some : 0 < length (units_text k n)
  units_some = elim (cases_Bool (k == 0)) [
    | inl e ↦ rw (without_point e) numeral.0.0
    | inr e ↦ rw (with_point e) (omega (arith, length-append (decimal (n / 10 ^ k)) (46 ∷ last_digits k n)))
  ]

  parts_said : (before after : List ℕ) → before_first is_point (units_text k n) ≡ before → after_first is_point (units_text k n) ≡ after → IsNumeral 10 (before ++ after) → length after ≤ k
      → digits_value 10 (before ++ after) * 10 ^ (k - length after) ≡ n → number_said k (units_text k n) ≡ Ok n
  parts_said before after b a h few e =
      rw (not_hexadecimal (units_text k n) units_figures, b, a, said_is k (length after) (before ++ after) h few, e) refl

  pub number_back : number_said k (units_text k n) ≡ Ok n
  number_back = elim (cases_Bool (k == 0)) [
    | inl e ↦
        let none = place_none is_point (decimal n) (no_point (decimal n) numeral.0.1) in
        let zero_is : k ≡ 0 = eqb-true k 0 e in
        let all = append-nil (decimal n) in
        let value : digits_value 10 (decimal n ++ []) * 10 ^ (k - 0) ≡ n = rw (all, zero_is, numeral.1) (omega arith) in
        parts_said (decimal n) [] (rw (without_point e) (none_before is_point (decimal n) none)) (rw (without_point e) (none_after is_point (decimal n) none)) (rw all numeral.0) (omega arith) value
    | inr e ↦
        let first = decimal (n / 10 ^ k) in
        let last = last_digits k n in
        let none = no_point first whole_numeral.0.1 in
        let size = last_length k n in
        let both : digits_value 10 (first ++ last) ≡ n = after_both 10 0 first last ∙ ap (λ m. digits_value_after 10 m last) whole_numeral.1 ∙ last_value k n in
        let no_more : k - length last ≡ 0 = omega arith in
        let value : digits_value 10 (first ++ last) * 10 ^ (k - length last) ≡ n = rw (both, no_more) (omega arith) in
        parts_said first last (rw (with_point e) (before_after is_point first 46 last none refl)) (rw (with_point e) (after_after is_point first 46 last none refl))
        (omega (arith, length-append first last, whole_numeral.0.0), digits_both first last whole_numeral.0.1 (last_are_digits k n)) (omega arith) value
  ]

module _ (decimals : Decimals) (word : ℕ) (small : word < 2 ^ 64) where
  below_text : is_below_zero decimals word ≡ true → word_text decimals word ≡ 45 ∷ units_text decimals.digits (2 ^ 64 - word)
  below_text e = rw e refl

  above_text : is_below_zero decimals word ≡ false → word_text decimals word ≡ units_text decimals.digits word
  above_text e = rw e refl

  below_high : is_below_zero decimals word ≡ true → 2 ^ 63 ≤ word
  below_high e = let (signed, high) = and_parts (not decimals.is_unsigned) (nat_le (2 ^ 63) word) e in leb-true (2 ^ 63) word high

  pub word_plain : are_plain (word_text decimals word) ≡ true
  word_plain = elim (cases_Bool (is_below_zero decimals word)) [
    | inl e ↦ let high = below_high e in rw (below_text e) (figures_plain (units_text decimals.digits (2 ^ 64 - word)) (units_figures decimals.digits (2 ^ 64 - word) (omega arith)))
    | inr e ↦ rw (above_text e) (figures_plain (units_text decimals.digits word) (units_figures decimals.digits word small))
  ]

  pub word_some : 0 < length (word_text decimals word)
  word_some = elim (cases_Bool (is_below_zero decimals word)) [
    | inl e ↦ rw (below_text e) (omega arith)
    | inr e ↦ rw (above_text e) (units_some decimals.digits word small)
  ]

  pub word_back : word_said decimals.digits (word_text decimals word) ≡ Ok word
  word_back = elim (cases_Bool (is_below_zero decimals word)) [
    | inl e ↦
        let high = below_high e in
        let number = number_back decimals.digits (2 ^ 64 - word) (omega arith) in
        let fits : nat_le (2 ^ 64 - word) (2 ^ 63) ≡ true = le-leb (2 ^ 64 - word) (2 ^ 63) (omega arith) in
        let back : 2 ^ 64 - (2 ^ 64 - word) ≡ word = omega arith in
        let same : (2 ^ 64 - (2 ^ 64 - word)) % 2 ^ 64 ≡ word = rw back (mod-eq_of_lt small) in
        rw (below_text e, number, fits, same) refl
    | inr e ↦
        let text = units_text decimals.digits word in
        let first = figure_first text (units_figures decimals.digits word small) (units_some decimals.digits word small) in
        let no_minus : (slice_index text 0 == 45) ≡ false = ne_eqb (slice_index text 0) 45 (λ f. absurd (omega arith)) in
        let no_plus : (slice_index text 0 == 43) ≡ false = ne_eqb (slice_index text 0) 43 (λ f. absurd (omega arith)) in
        let number = number_back decimals.digits word small in
        rw (above_text e, no_minus, no_plus, number, lt-ltb word (2 ^ 64) small) refl
  ]

  pub token_back : token_said decimals Words (word_text decimals word) ≡ Ok (Some (Word word))
  token_back = rw word_back refl
