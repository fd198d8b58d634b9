-- Texts of digits, small letters, `-`, `.` and `/`, in which nothing else than a token can be read.
use Rattle.std.proofs.Common.{◌≡◌, ◌≤◌, ◌+◌, ◌++◌, ℕ, zero, suc, Bool, true, false, inl, inr, List, [], ◌∷◌, length, drop, refl, arith}
use Rattle.std.proofs.Math.Seq.{take-append_seam}
use Rattle.std.proofs.lemmas.Bool.{agree_below, agree_below_at, and_parts, cases_Bool, leb-true, ne_eqb, or_cases}
use Rattle.std.proofs.lemmas.Str.{IsUtf8-from_ascii, chars-IsAscii, encodes-IsAscii, is_utf8-from_IsUtf8}
use Rattle.std.specs.Char.{is_whitespace}
use Rattle.std.specs.List.{after_first, before_first, list_all, list_any, position_or_len}
use Rattle.std.specs.Prelude.{◌==◌, ◌&&◌, ◌||◌, IsAscii, nat_le, slice_index}
use Rattle.std.specs.Str.{drop_trailing_whitespace, is_utf8, skip_leading_whitespace, trim, trim_end, trim_start}
use Rattle.csv.specs.Reading.{strip_bom}
use Rattle.kpn_tokens.proofs.Lines.{no_mark}

abbrev pub is_plain : ℕ → Bool
is_plain b = (nat_le 45 b && nat_le b 57) || (nat_le 97 b && nat_le b 122)

abbrev pub are_plain : List ℕ → Bool
are_plain text = list_all is_plain text

pub plain_small : (b : ℕ) → is_plain b ≡ true → (45 ≤ b) × (b ≤ 122)
plain_small b e = elim (or_cases (nat_le 45 b && nat_le b 57) (nat_le 97 b && nat_le b 122) e) [
  | inl h ↦ let (low, high) = and_parts (nat_le 45 b) (nat_le b 57) h in (leb-true 45 b low, omega (arith, leb-true b 57 high))
  | inr h ↦ let (low, high) = and_parts (nat_le 97 b) (nat_le b 122) h in (omega (arith, leb-true 97 b low), leb-true b 122 high)
]

-- a test that no plain byte passes
pub never : (test : ℕ → Bool) → agree_below (λ b. is_plain b && test b) (λ b. false) 123 ≡ true → (b : ℕ) → is_plain b ≡ true → test b ≡ false
never test e b plain =
    let small = plain_small b plain in
    let both : (is_plain b && test b) ≡ false = agree_below_at (λ b. is_plain b && test b) (λ b. false) 123 b e (omega (arith, small.1)) in
    rw plain at both

pub none_passes : (test : ℕ → Bool) → agree_below (λ b. is_plain b && test b) (λ b. false) 123 ≡ true → (text : List ℕ) → are_plain text ≡ true → list_any test text ≡ false
none_passes test e [] h = refl
none_passes test e (b ∷ bs) h =
    let (plain, more) = and_parts (is_plain b) (are_plain bs) h in
    rw (never test e b plain) (none_passes test e bs more)

-- what stands before the first byte that passes, if it is this one
module _ (test : ℕ → Bool) where
  pub place_after : (text : List ℕ) (b : ℕ) (rest : List ℕ) → list_any test text ≡ false → test b ≡ true → position_or_len test (text ++ b ∷ rest) ≡ length text
  place_after [] b rest h e = rw e refl
  place_after (c ∷ cs) b rest h e = elim (cases_Bool (test c)) [
    | inl p ↦ cc (rw p at h)
    | inr p ↦ rw (p, place_after cs b rest (rw p at h) e) (omega arith)
  ]

  pub before_after : (text : List ℕ) (b : ℕ) (rest : List ℕ) → list_any test text ≡ false → test b ≡ true → before_first test (text ++ b ∷ rest) ≡ text
  before_after text b rest h e = rw (place_after text b rest h e) (take-append_seam text (b ∷ rest))

  pub after_after : (text : List ℕ) (b : ℕ) (rest : List ℕ) → list_any test text ≡ false → test b ≡ true → after_first test (text ++ b ∷ rest) ≡ rest
  after_after text b rest h e = rw (place_after text b rest h e) (drop_all_of text)
    where
      drop_all_of : (xs : List ℕ) → drop (length xs + 1) (xs ++ b ∷ rest) ≡ rest
      drop_all_of [] = refl
      drop_all_of (x ∷ xs) = let one : suc (length xs) + 1 ≡ suc (length xs + 1) = omega arith in rw one (drop_all_of xs)

  pub place_none : (text : List ℕ) → list_any test text ≡ false → position_or_len test text ≡ length text
  place_none [] h = refl
  place_none (c ∷ cs) h = elim (cases_Bool (test c)) [
    | inl p ↦ cc (rw p at h)
    | inr p ↦ rw (p, place_none cs (rw p at h)) (omega arith)
  ]

pub plain_ascii : (text : List ℕ) → are_plain text ≡ true → IsAscii text
plain_ascii [] h i = omega arith
plain_ascii (b ∷ bs) h zero = let (plain, more) = and_parts (is_plain b) (are_plain bs) h in omega (arith, plain_small b plain)
plain_ascii (b ∷ bs) h (suc i) = let (plain, more) = and_parts (is_plain b) (are_plain bs) h in plain_ascii bs more i

pub plain_utf8 : (text : List ℕ) → are_plain text ≡ true → is_utf8 text ≡ true
plain_utf8 text h = is_utf8-from_IsUtf8 text (IsUtf8-from_ascii text (plain_ascii text h))

-- there are no blanks to trim
skips_none : (text : List ℕ) → are_plain text ≡ true → skip_leading_whitespace text ≡ text
skips_none [] h = refl
skips_none (b ∷ bs) h = let (plain, more) = and_parts (is_plain b) (are_plain bs) h in rw (never is_whitespace refl b plain) refl

drops_none : (text : List ℕ) → are_plain text ≡ true → drop_trailing_whitespace text ≡ text
drops_none [] h = refl
drops_none (b ∷ bs) h = let (plain, more) = and_parts (is_plain b) (are_plain bs) h in rw (never is_whitespace refl b plain, drops_none bs more) refl

pub plain_trim : (text : List ℕ) → are_plain text ≡ true → trim text ≡ text
unfolding trim_start trim_end
plain_trim text h =
    let ascii = plain_ascii text h in
    let start : trim_start text ≡ text = rw (chars-IsAscii text ascii, skips_none text h, encodes-IsAscii text ascii) refl in
    rw (start, chars-IsAscii text ascii, drops_none text h, encodes-IsAscii text ascii) refl

-- there is no byte order mark
pub plain_unmarked : (text : List ℕ) → are_plain text ≡ true → strip_bom text ≡ text
plain_unmarked text h =
    let ascii = plain_ascii text h 0 in
    let other : (slice_index text 0 == 0xEF) ≡ false = ne_eqb (slice_index text 0) 0xEF (λ e. absurd (omega arith)) in
    no_mark text (rw other refl)
