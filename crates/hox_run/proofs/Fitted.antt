-- Tokens that fit a layout, or don't.
use Rattle.std.proofs.Common.{◌≡◌, ◌+◌, ◌<◌, ℕ, Bool, true, false, cond, nat_lt, not, inl, inr, List, [], ◌∷◌, Option, Some, None, is_some, length, take, unwrap_or, refl, ap, sym, ◌∙◌, arith}
use Rattle.std.proofs.lemmas.Bool.{cases_Bool, ltb-true}
use Rattle.std.proofs.lemmas.List.Sums.{sum_by-append}
use Rattle.std.specs.List.{count_by, position, position_or_len}
use Rattle.std.proofs.lemmas.List.{take_all}
use Rattle.kpn_model.specs.declared.token.Token.{Token}
use Rattle.kpn_tokens.specs.declared.layouts.Layout.{Layout}
use Rattle.kpn_tokens.specs.Records.{clips, fits, misfits}
use Rattle.hox_run.specs.declared.files.StreamFile.{StreamFile}
use Rattle.hox_run.specs.Telling.{first_misfit, fitted, fitting}

-- where none is counted, none passes
none_passes : {X : Type 0} (test : X → Bool) (xs : List X) → count_by test xs ≡ 0 → position_or_len test xs ≡ length xs
none_passes test [] e = refl
none_passes test (x ∷ xs) e =
    let both : (0 + cond (test x) 1 0) + count_by test xs ≡ 0 = sym (sum_by-append (λ y. cond (test y) 1 0) (x ∷ []) xs) ∙ e in
    elim (cases_Bool (test x)) [
      | inl h ↦ absurd (omega (arith, rw h at both))
      | inr h ↦ rw h (omega (arith, none_passes test xs (omega (arith, rw h at both))))
    ]

none_found : {X : Type 0} (test : X → Bool) (xs : List X) → count_by test xs ≡ 0 → position test xs ≡ None
none_found {X} test xs e = by (nat_lt (position_or_len test xs) (length xs)) refl
  where
    by : (y : Bool) → nat_lt (position_or_len test xs) (length xs) ≡ y → cond y (Some (position_or_len test xs)) None ≡ None
    by true h = let less : position_or_len test xs < length xs = ltb-true (position_or_len test xs) (length xs) h in absurd (omega (arith, none_passes test xs e))
    by false h = refl

module _ (layout : Layout) (tokens : List Token) where
  -- all fit, or are clipped
  pub all_fit : (n : ℕ) → n ≡ misfits layout tokens → (clips layout ≡ false → n ≡ 0) → first_misfit layout tokens ≡ None
  all_fit n count unclipped = by (clips layout) refl
    where
      by : (c : Bool) → clips layout ≡ c → cond c None (position (λ token. not (fits layout token)) tokens) ≡ None
      by true e = refl
      by false e = none_found (λ token. not (fits layout token)) tokens (sym count ∙ unclipped e)

  pub all_fitting : first_misfit layout tokens ≡ None → fitting layout tokens ≡ tokens
  all_fitting none = ap (λ (o : Option ℕ). take (unwrap_or o (length tokens)) tokens) none ∙ take_all (length tokens) tokens (omega arith)

  pub cut_fitting : (place : ℕ) → clips layout ≡ false → position (λ token. not (fits layout token)) tokens ≡ Some place → fitting layout tokens ≡ take place tokens
  cut_fitting place unclipped at =
      let first : first_misfit layout tokens ≡ Some place = ap (λ c. cond c None (position (λ token. not (fits layout token)) tokens)) unclipped ∙ at in
      ap (λ (o : Option ℕ). take (unwrap_or o (length tokens)) tokens) first

  clipped_is : (n : ℕ) → n ≡ misfits layout tokens → (clips layout ≡ false → n ≡ 0) → n ≡ cond (clips layout) (misfits layout tokens) 0
  clipped_is n count unclipped = by (clips layout) refl
    where
      by : (c : Bool) → clips layout ≡ c → n ≡ cond c (misfits layout tokens) 0
      by true e = count
      by false e = unclipped e

  file_by : (items : List Token) (n : ℕ) (misfit : Bool) → items ≡ fitting layout tokens → n ≡ cond (clips layout) (misfits layout tokens) 0 → misfit ≡ is_some (first_misfit layout tokens)
      → (let file : StreamFile = record { tokens = items; clipped = n; is_misfit = misfit } in file ≡ fitted layout tokens)
  file_by items n misfit a b c = cc

  -- so the file has all tokens
  pub whole_file : (items : List Token) (n : ℕ) → items ≡ tokens → n ≡ misfits layout tokens → (clips layout ≡ false → n ≡ 0)
      → (let file : StreamFile = record { tokens = items; clipped = n; is_misfit = false } in file ≡ fitted layout tokens)
  whole_file items n same count unclipped =
      let none = all_fit n count unclipped in
      let is : false ≡ is_some (first_misfit layout tokens) = ap (λ (o : Option ℕ). is_some o) (sym none) in
      let clipped = clipped_is n count unclipped in
      file_by items n false (same ∙ sym (all_fitting none)) clipped is

  -- or those up to one that does not fit
  pub cut_file : (items : List Token) (place : ℕ) → items ≡ take place tokens → clips layout ≡ false → position (λ token. not (fits layout token)) tokens ≡ Some place
      → (let file : StreamFile = record { tokens = items; clipped = 0; is_misfit = true } in file ≡ fitted layout tokens)
  cut_file items place same unclipped at =
      let first : first_misfit layout tokens ≡ Some place = ap (λ c. cond c None (position (λ token. not (fits layout token)) tokens)) unclipped ∙ at in
      let front : fitting layout tokens ≡ take place tokens = cut_fitting place unclipped at in
      let is : true ≡ is_some (first_misfit layout tokens) = ap (λ (o : Option ℕ). is_some o) (sym first) in
      let clipped : 0 ≡ cond (clips layout) (misfits layout tokens) 0 = ap (λ c. cond c (misfits layout tokens) 0) (sym unclipped) in
      file_by items 0 true (same ∙ sym front) clipped is
