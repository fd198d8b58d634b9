-- Files of several channels, one after the other.
use Rattle.std.proofs.Common.{◌≡◌, ◌<◌, ◌≤◌, ◌+◌, ◌++◌, ◌==◌, ℕ, zero, suc, true, false, List, [], ◌∷◌, get_or, length, drop, min, if◌then◌else◌, sym, ap, ◌∙◌, refl, arith}
use Rattle.hox_run.specs.declared.files.StreamFile.{StreamFile}
use Rattle.hox_format.specs.Forms.{form}
use Rattle.hox_format.specs.Tables.{decimals_of}
use Rattle.hox_files.specs.declared.pairs.Pair.{Pair}
use Rattle.hox_files.specs.Pairs.{begins, group_in, groups}
use Rattle.hox_execute.specs.Reports.{columns, file_text, file_texts}
use Rattle.hox_files.proofs.Firsts.{left_at}
use Rattle.hox_files.proofs.Parted.{nothing_left}

-- the files of several channels from a pair on that begins one, or does not
pub group_left : (pairs : List Pair) (k : ℕ) (d : Pair) → k < length pairs → begins (get_or pairs k d) ≡ true → groups (drop k pairs) ≡ record { first = get_or pairs k d; pairs = group_in (drop k pairs) } ∷ [] ++ groups (drop (k + 1) pairs)
group_left pairs k d within e =
    let here : Pair = get_or pairs k d in
    let later = drop (k + 1) pairs in
    let next : groups (drop k pairs) ≡ (if begins here then record { first = here; pairs = group_in (here ∷ later) } ∷ groups later else groups later) = ap groups (left_at pairs k d within) in
    next ∙ ap (λ b. if b then record { first = here; pairs = group_in (here ∷ later) } ∷ groups later else groups later) e
    ∙ ap (λ (l : List Pair). record { first = here; pairs = group_in l } ∷ groups later) (sym (left_at pairs k d within))

pub no_group_left : (pairs : List Pair) (k : ℕ) (d : Pair) → k < length pairs → begins (get_or pairs k d) ≡ false → groups (drop k pairs) ≡ groups (drop (k + 1) pairs)
no_group_left pairs k d within e =
    let here : Pair = get_or pairs k d in
    let later = drop (k + 1) pairs in
    let next : groups (drop k pairs) ≡ (if begins here then record { first = here; pairs = group_in (here ∷ later) } ∷ groups later else groups later) = ap groups (left_at pairs k d within) in
    next ∙ ap (λ b. if b then record { first = here; pairs = group_in (here ∷ later) } ∷ groups later else groups later) e

-- no file of a stream
abbrev no_file : StreamFile
no_file = record { tokens = []; clipped = 0; is_misfit = false }

columns_none : (pairs : List Pair) → columns pairs [] ≡ []
columns_none [] = refl
columns_none (p ∷ ps) = refl

texts_none : (rate : ℕ) (pairs : List Pair) → file_texts rate pairs [] ≡ []
texts_none rate [] = refl
texts_none rate (p ∷ ps) = refl

-- behind the last pair or the last file there is nothing
pub columns_end : (pairs : List Pair) (files : List StreamFile) (k : ℕ) → min (length pairs) (length files) ≤ k → columns (drop k pairs) (drop k files) ≡ []
columns_end [] files k h = ap (λ (l : List Pair). columns l (drop k files)) (nothing_left [] k (omega arith))
columns_end (p ∷ ps) [] k h = ap (columns (drop k (p ∷ ps))) (nothing_left [] k (omega arith)) ∙ columns_none (drop k (p ∷ ps))
columns_end (p ∷ ps) (x ∷ xs) zero h = absurd (omega (arith, h))
columns_end (p ∷ ps) (x ∷ xs) (suc k) h = columns_end ps xs k (omega (arith, h))

pub texts_end : (rate : ℕ) (pairs : List Pair) (files : List StreamFile) (k : ℕ) → min (length pairs) (length files) ≤ k → file_texts rate (drop k pairs) (drop k files) ≡ []
texts_end rate [] files k h = ap (λ (l : List Pair). file_texts rate l (drop k files)) (nothing_left [] k (omega arith))
texts_end rate (p ∷ ps) [] k h = ap (file_texts rate (drop k (p ∷ ps))) (nothing_left [] k (omega arith)) ∙ texts_none rate (drop k (p ∷ ps))
texts_end rate (p ∷ ps) (x ∷ xs) zero h = absurd (omega (arith, h))
texts_end rate (p ∷ ps) (x ∷ xs) (suc k) h = texts_end rate ps xs k (omega (arith, h))

module _ (pairs : List Pair) (files : List StreamFile) (k : ℕ) (d : Pair) (within : k < length pairs) (among : k < length files) where
  -- a column more
  pub column_left : columns (drop k pairs) (drop k files) ≡ record { decimals = decimals_of (form (get_or pairs k d).format); tokens = (get_or files k no_file).tokens } ∷ columns (drop (k + 1) pairs) (drop (k + 1) files)
  column_left = ap (λ (l : List Pair). columns l (drop k files)) (left_at pairs k d within) ∙ ap (columns (get_or pairs k d ∷ drop (k + 1) pairs)) (left_at files k no_file among)

  -- the texts of files from a pair on that is the first of its file, or is not
  texts_left : (rate : ℕ) → file_texts rate (drop k pairs) (drop k files)
      ≡ (if (get_or pairs k d).place == 0 then file_text rate (drop k pairs) (drop k files) ∷ file_texts rate (drop (k + 1) pairs) (drop (k + 1) files) else file_texts rate (drop (k + 1) pairs) (drop (k + 1) files))
  texts_left rate =
      let here : Pair = get_or pairs k d in
      let file : StreamFile = get_or files k no_file in
      let ps = drop (k + 1) pairs in
      let fs = drop (k + 1) files in
      let whole = ap (λ (l : List Pair). file_texts rate l (drop k files)) (left_at pairs k d within) ∙ ap (file_texts rate (here ∷ ps)) (left_at files k no_file among) in
      let text : file_text rate (here ∷ ps) (file ∷ fs) ≡ file_text rate (drop k pairs) (drop k files) =
      ap (λ (l : List Pair). file_text rate l (file ∷ fs)) (sym (left_at pairs k d within)) ∙ ap (file_text rate (drop k pairs)) (sym (left_at files k no_file among)) in
      whole ∙ ap (λ (t : List ℕ). if here.place == 0 then t ∷ file_texts rate ps fs else file_texts rate ps fs) text

  pub text_left : (rate : ℕ) → (get_or pairs k d).place ≡ 0 → file_texts rate (drop k pairs) (drop k files) ≡ file_text rate (drop k pairs) (drop k files) ∷ file_texts rate (drop (k + 1) pairs) (drop (k + 1) files)
  text_left rate e = texts_left rate ∙ ap (λ (n : ℕ). if n == 0 then file_text rate (drop k pairs) (drop k files) ∷ file_texts rate (drop (k + 1) pairs) (drop (k + 1) files) else file_texts rate (drop (k + 1) pairs) (drop (k + 1) files)) e

  pub no_text_left : (rate : ℕ) → ((get_or pairs k d).place == 0) ≡ false → file_texts rate (drop k pairs) (drop k files) ≡ file_texts rate (drop (k + 1) pairs) (drop (k + 1) files)
  no_text_left rate e = texts_left rate ∙ ap (λ b. if b then file_text rate (drop k pairs) (drop k files) ∷ file_texts rate (drop (k + 1) pairs) (drop (k + 1) files) else file_texts rate (drop (k + 1) pairs) (drop (k + 1) files)) e
