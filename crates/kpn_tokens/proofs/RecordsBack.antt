-- The record of a token says the token.
use Rattle.std.proofs.Common.{◌≡◌, ◌<◌, ◌∙◌, ◌++◌, ℕ, true, false, List, [], ◌∷◌, Ok, Some, length, length-append, refl, sym, subst, append_assoc, arith}
use Rattle.std.specs.List.{flat_map}
use Rattle.std.specs.Prelude.{◌==◌}
use Rattle.kpn_model.specs.declared.token.Sort.{Sort}
use Rattle.kpn_model.specs.declared.token.Sort.TheVariants.{Words, Flags}
use Rattle.kpn_model.specs.declared.token.Token.{Token}
use Rattle.kpn_model.specs.declared.token.Token.TheVariants.{Word, Flag}
use Rattle.kpn_tokens.specs.declared.layouts.Decimals.{Decimals}
use Rattle.kpn_tokens.specs.declared.layouts.Layout.{Layout}
use Rattle.kpn_tokens.specs.declared.layouts.Layout.TheVariants.{Lines}
use Rattle.kpn_tokens.specs.Numbers.{token_said, token_text}
use Rattle.kpn_tokens.specs.Records.{AllFit, IsOf, Say, cell, first, fits, next, nothing, record_said, record_text, rest}
use Rattle.kpn_tokens.specs.Rows.{is_line_feed}
use Rattle.kpn_tokens.proofs.Lines.{filled_cell}
use Rattle.kpn_tokens.proofs.NumbersBack.{token_back, word_plain, word_some}
use Rattle.kpn_tokens.proofs.Plain.{after_after, are_plain, before_after, none_passes, place_none, plain_trim, plain_unmarked, plain_utf8}
use Rattle.kpn_tokens.proofs.Places.{none_before}

-- whatever comes after it, the record of a token is the first one, and says the token
pub record IsBack (layout : Layout) (sort : Sort) (token : Token) : Type 0 where
  pub some : 0 < length (record_text layout token)
  pub says : (more : List ℕ) → record_said layout sort (first layout (record_text layout token ++ more)) ≡ Ok (Some token)
  pub leaves : (more : List ℕ) → rest layout (record_text layout token ++ more) ≡ more

-- and so the records of many say them all
pub say_all : (layout : Layout) (sort : Sort) → ((token : Token) → IsOf sort token → fits layout token ≡ true → IsBack layout sort token) → (tokens : List Token) → AllFit layout sort tokens
    → Say layout sort (flat_map (record_text layout) tokens) tokens
say_all layout sort back [] h = nothing refl
say_all layout sort back (token ∷ tokens) h =
    let is = back token h.0 h.1 in
    let more = flat_map (record_text layout) tokens in
    let text = record_text layout token ++ more in
    let some : 0 < length text = omega (arith, is.some, length-append (record_text layout token) more) in
    next (Some token) some (is.says more) (subst (λ l. Say layout sort l tokens) (sym (is.leaves more)) (say_all layout sort back tokens h.2))

-- the text of a token is plain, and says it
pub record IsPlainText (decimals : Decimals) (sort : Sort) (token : Token) : Type 0 where
  pub plain : are_plain (token_text decimals token) ≡ true
  pub some : 0 < length (token_text decimals token)
  pub said : token_said decimals sort (token_text decimals token) ≡ Ok (Some token)

pub plain_text : (decimals : Decimals) (sort : Sort) (token : Token) → IsOf sort token → IsPlainText decimals sort token
plain_text decimals Words (Word n) h = record { plain = word_plain decimals n h; some = word_some decimals n h; said = token_back decimals n h }
plain_text decimals Words (Flag b) h = absurd h
plain_text decimals Flags (Word n) h = absurd h
plain_text decimals Flags (Flag true) h = record { plain = refl; some = omega arith; said = refl }
plain_text decimals Flags (Flag false) h = record { plain = refl; some = omega arith; said = refl }

module _ (decimals : Decimals) (sort : Sort) (token : Token) (of : IsOf sort token) where
  is : IsPlainText decimals sort token
  is = plain_text decimals sort token of

  line_cell : cell (token_text decimals token) ≡ token_text decimals token
  line_cell =
      let comment = none_before (λ b. b == 35) (token_text decimals token) (place_none (λ b. b == 35) (token_text decimals token) (none_passes (λ b. b == 35) refl (token_text decimals token) is.plain)) in
      let comma = none_before (λ b. b == 44) (token_text decimals token) (place_none (λ b. b == 44) (token_text decimals token) (none_passes (λ b. b == 44) refl (token_text decimals token) is.plain)) in
      rw (comment, comma) (plain_trim (token_text decimals token) is.plain)

  line_said : record_said (Lines decimals) sort (token_text decimals token) ≡ Ok (Some token)
  line_said =
      let some : length (token_text decimals token) ≡ 0 → ⊥ = λ e. absurd (omega (arith, is.some)) in
      rw (plain_unmarked (token_text decimals token) is.plain, plain_utf8 (token_text decimals token) is.plain, line_cell) (filled_cell decimals sort (token_text decimals token) some ∙ is.said)

  pub line_back : IsBack (Lines decimals) sort token
  line_back =
      let joined = λ (more : List ℕ). append_assoc (token_text decimals token) (10 ∷ []) more in
      let none = none_passes is_line_feed refl (token_text decimals token) is.plain in
      record {
        some = omega (arith, length-append (token_text decimals token) (10 ∷ []));
        says = λ more. rw (joined more, before_after is_line_feed (token_text decimals token) 10 more none refl) line_said;
        leaves = λ more. rw (joined more) (after_after is_line_feed (token_text decimals token) 10 more none refl);
      }
