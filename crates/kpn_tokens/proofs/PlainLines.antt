-- A line of decimal digits says a word.
use Rattle.std.proofs.Common.{◌≡◌, ◌<◌, ◌≤◌, ◌+◌, ◌-◌, ◌*◌, ◌%◌, ◌^◌, ◌∙◌, ◌++◌, ℕ, suc, true, false, List, [], ◌∷◌, Ok, Some, length, length-append, take, drop, refl, sym, ap, subst, append-nil, arith}
use Rattle.std.proofs.lemmas.Bool.{le-leb, lt-ltb, ne_eqb}
use Rattle.std.proofs.lemmas.List.{drop_more, length-take-le, take-append-drop}
use Rattle.std.proofs.lemmas.Str.Parse.{digits_value_short, numerals_by_value, tells_digits}
use Rattle.std.specs.List.{before_first, position_or_len}
use Rattle.std.specs.Prelude.{◌==◌, slice_index}
use Rattle.std.specs.Str.Parse.{AllDigits, IsNumeral, digits_value}
use Rattle.csv.specs.Reading.{strip_bom}
use Rattle.kpn_model.specs.declared.token.Sort.TheVariants.{Words}
use Rattle.kpn_model.specs.declared.token.Token.TheVariants.{Word}
use Rattle.kpn_tokens.specs.declared.layouts.Decimals.{Decimals}
use Rattle.kpn_tokens.specs.Numbers.{is_point, number_said, token_said, word_said}
use Rattle.kpn_tokens.specs.WordLines.{IsNumberLine, IsWordLine}
use Rattle.kpn_tokens.specs.Records.{cell, text_said}
use Rattle.kpn_tokens.specs.Rows.{is_line_feed}
use Rattle.kpn_tokens.proofs.Lines.{filled_cell}
use Rattle.kpn_tokens.proofs.NumbersBack.{are_figures, digits_figures, figure_first, figures_plain, no_point, not_hexadecimal, said_is}
use Rattle.kpn_tokens.proofs.Places.{none_after, none_before}
use Rattle.kpn_tokens.proofs.Plain.{are_plain, before_after, none_passes, place_after, place_none, plain_trim, plain_unmarked, plain_utf8}

-- so many digits say a number below this
pub few_digits : (ds : List ℕ) (k : ℕ) → AllDigits 10 ds → length ds ≤ k → digits_value 10 ds < 10 ^ k
few_digits ds k h few = digits_value_short (numerals_by_value (AllDigits 10) tells_digits) ds k h few

module _ (ds : List ℕ) (h : IsNumeral 10 ds) where
  figures : are_figures ds ≡ true
  figures = digits_figures ds h.1

  number : number_said 0 ds ≡ Ok (digits_value 10 ds)
  number =
      let none = place_none is_point ds (no_point ds h.1) in
      let all = append-nil ds in
      let once : digits_value 10 ds * 1 ≡ digits_value 10 ds = omega arith in
      rw (not_hexadecimal ds figures, none_before is_point ds none, none_after is_point ds none, said_is 0 0 (ds ++ []) (rw all h) (omega arith), all, once) refl

  plus : digits_value 10 ds < 2 ^ 64 → word_said 0 ds ≡ Ok (digits_value 10 ds)
  plus small =
      let first = figure_first ds figures h.0 in
      let no_minus : (slice_index ds 0 == 45) ≡ false = ne_eqb (slice_index ds 0) 45 (λ f. absurd (omega arith)) in
      let no_plus : (slice_index ds 0 == 43) ≡ false = ne_eqb (slice_index ds 0) 43 (λ f. absurd (omega arith)) in
      rw (no_minus, no_plus, number, lt-ltb (digits_value 10 ds) (2 ^ 64) small) refl

  minus : digits_value 10 ds ≤ 2 ^ 63 → word_said 0 (45 ∷ ds) ≡ Ok ((2 ^ 64 - digits_value 10 ds) % 2 ^ 64)
  minus small = rw (number, le-leb (digits_value 10 ds) (2 ^ 63) small) refl

-- what a plain text says in a line
module _ (decimals : Decimals) (whole : decimals.digits ≡ 0) (text : List ℕ) (word : ℕ) (plain : are_plain text ≡ true) (some : 0 < length text) (says : word_said 0 text ≡ Ok word) where
  in_cell : cell text ≡ text
  in_cell =
      let comment = none_before (λ b. b == 35) text (place_none (λ b. b == 35) text (none_passes (λ b. b == 35) refl text plain)) in
      let comma = none_before (λ b. b == 44) text (place_none (λ b. b == 44) text (none_passes (λ b. b == 44) refl text plain)) in
      rw (comment, comma) (plain_trim text plain)

  said : token_said decimals Words text ≡ Ok (Some (Word word))
  said = rw (whole, says) refl

  plain_said : text_said decimals Words (strip_bom text) ≡ Ok (Some (Word word))
  plain_said = rw (plain_unmarked text plain, plain_utf8 text plain, in_cell) (filled_cell decimals Words text (λ e. absurd (omega arith)) ∙ said)

-- a line of a plain text
plain_line : (text line : List ℕ) (more : List ℕ) (word : ℕ) → text ≡ line ++ 10 ∷ more → are_plain line ≡ true → 0 < length line → word_said 0 line ≡ Ok word → IsWordLine text (length line) word
plain_line text line more word e plain some says =
    let none = none_passes is_line_feed refl line plain in
    let place : position_or_len is_line_feed text ≡ length line = ap (λ l. position_or_len is_line_feed l) e ∙ place_after is_line_feed line 10 more none refl in
    let before : before_first is_line_feed text ≡ line = ap (λ l. before_first is_line_feed l) e ∙ before_after is_line_feed line 10 more none refl in
    record {
      ends = sym place;
      within = omega (arith, ap length e, length-append line (10 ∷ more));
      says = λ decimals whole. rw before (plain_said decimals whole line word plain some says);
    }

module _ (text : List ℕ) (count number : ℕ) (h : IsNumberLine text count number) where
  -- where the line ends
  split : text ≡ take count text ++ 10 ∷ drop (count + 1) text
  split =
      sym (take-append-drop count text)
      ∙ ap (λ l. take count text ++ l) (drop_more text count 0 h.within)
      ∙ ap (λ b. take count text ++ b ∷ drop (count + 1) text) h.ended

  size : length (take count text) ≡ count
  size = length-take-le count text (omega (arith, h.within))

  small : digits_value 10 (take count text) < 10 ^ 18
  small = few_digits (take count text) 18 h.digits.1 (omega (arith, size, h.few))

  pub number_line : IsWordLine text count number
  number_line =
      let fits : digits_value 10 (take count text) < 2 ^ 64 = omega (arith, small) in
      let line = plain_line text (take count text) (drop (count + 1) text) (digits_value 10 (take count text)) split (figures_plain (take count text) (figures (take count text) h.digits)) h.digits.0 (plus (take count text) h.digits fits) in
      subst (λ n. IsWordLine text n number) size (subst (λ w. IsWordLine text (length (take count text)) w) (sym h.value) line)

  -- after a minus the number's opposite is read
  pub number_line_below : (above : List ℕ) (word : ℕ) → above ≡ 45 ∷ text → word ≡ (2 ^ 64 - number) % 2 ^ 64 → IsWordLine above (count + 1) word
  number_line_below above word minus_first e =
      let fits : digits_value 10 (take count text) ≤ 2 ^ 63 = omega (arith, small) in
      let same : (2 ^ 64 - digits_value 10 (take count text)) % 2 ^ 64 ≡ word = ap (λ n. (2 ^ 64 - n) % 2 ^ 64) (sym h.value) ∙ sym e in
      let long : suc (length (take count text)) ≡ count + 1 = omega (arith, size) in
      let parts : above ≡ 45 ∷ (take count text ++ 10 ∷ drop (count + 1) text) = minus_first ∙ ap (λ l. 45 ∷ l) split in
      let line = plain_line above (45 ∷ take count text) (drop (count + 1) text) ((2 ^ 64 - digits_value 10 (take count text)) % 2 ^ 64) parts (figures_plain (take count text) (figures (take count text) h.digits)) (omega arith) (minus (take count text) h.digits fits) in
      subst (λ n. IsWordLine above n word) long (subst (λ w. IsWordLine above (suc (length (take count text))) w) same line)
