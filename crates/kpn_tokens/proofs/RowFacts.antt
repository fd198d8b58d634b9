-- The rows of a line, as they are read one after the other.
use Rattle.std.proofs.Common.{◌≡◌, ◌<◌, ◌+◌, ◌-◌, ◌∙◌, ◌++◌, ℕ, zero, suc, true, false, inl, inr, List, [], ◌∷◌, Option, Some, None, Ok, Err, Bor, length, length-append, refl, sym, ap, arith}
use Rattle.std.proofs.lemmas.Bool.{cases_Bool}
use Rattle.std.specs.Prelude.{◌==◌, ◌&&◌}
use Rattle.csv.specs.Machine.{next_record}
use Rattle.csv.specs.Reading.{ReadRecord, Reached, is_bom, records, records_from, source_of, strip_bom}
use Rattle.csv.specs.declared.parser.Config.{Config}
use Rattle.csv.specs.declared.parser.State.{State}
use Rattle.csv.specs.declared.parser.State.TheVariants as st
use Rattle.csv.specs.declared.reader.Reader.{Reader}
use Rattle.csv.proofs.ReadFacts.{rows-end, rows-more}
use Rattle.kpn_tokens.specs.declared.layouts.RecordFault.TheVariants.{OpenQuote, TwoRows}
use Rattle.kpn_tokens.specs.Rows.{config_of, is_open, row_in, rows_of}
use Rattle.kpn_tokens.specs.declared.layouts.Separator.{Separator}

-- the bytes that a reader of a slice has left
abbrev pub left : Bor (List ℕ) → Option (List ℕ)
left s = Some s.now

module _ (cfg : Config) where
  -- rows that were read are the first of all
  reached_first : (rows : List (List (List ℕ))) (k : ℕ) (s s2 : State) (xs ys : List ℕ) → Reached cfg s xs rows s2 ys → records_from cfg (length rows + k) s xs ≡ rows ++ records_from cfg k s2 ys
  unfolding Reached records_from
  reached_first [] k s s2 xs ys (same_state, same) = let none : 0 + k ≡ k = omega arith in rw (none, same_state, same) refl
  reached_first (r ∷ rs) k s s2 xs ys (p, next, is, more) =
      let one : suc (length rs) + k ≡ suc (length rs + k) = omega arith in
      rw (one, next, is) (ap (λ (rows : List (List (List ℕ))). p.0 ∷ rows) (reached_first rs k p.1 s2 p.2 ys more))

  -- nothing comes after the last row
  none_left : (k : ℕ) (s : State) (xs : List ℕ) → next_record cfg s [] [] xs ≡ None → records_from cfg k s xs ≡ []
  unfolding records_from
  none_left zero s xs e = refl
  none_left (suc k) s xs e = rw e refl

-- a text of one row
pub one_row_of : (cfg : Config) (xs : List ℕ) (row : List (List ℕ)) → next_record cfg st.StartRecord [] [] xs ≡ Some (row, st.StartRecord, []) → records cfg xs ≡ row ∷ []
unfolding Reached next_record
one_row_of cfg xs row e =
    let count : length xs + 1 ≡ length {A = List (List ℕ)} (row ∷ []) + length xs = omega arith in
    ap (λ n. records_from cfg n st.StartRecord xs) count ∙ reached_first cfg (row ∷ []) (length xs) st.StartRecord st.StartRecord xs [] ((row, st.StartRecord, []), e, refl, (refl, refl))
    ∙ ap (λ (rows : List (List (List ℕ))). row ∷ rows) (none_left cfg (length xs) st.StartRecord [] refl)

-- a line with its line feed is not empty, without a byte order mark too
some_left : (line : List ℕ) → 0 < length (strip_bom (line ++ 10 ∷ []))
unfolding strip_bom
some_left [] = omega arith
some_left (a ∷ []) = omega arith
some_left (a ∷ b ∷ []) = elim (cases_Bool ((a == 0xEF) && (b == 0xBB))) [ inl h ↦ rw h (omega arith) | inr h ↦ rw h (omega arith) ]
some_left (a ∷ b ∷ c ∷ rest) = elim (cases_Bool (is_bom a b c)) [
  | inl h ↦ rw h (omega (arith, length-append rest (10 ∷ [])))
  | inr h ↦ rw h (omega arith)
]

module _ (separator : Separator) (line : List ℕ) where
  abbrev text : List ℕ
  text = strip_bom (line ++ 10 ∷ [])

  abbrev reads : Reader (Bor (List ℕ)) → List (List (List ℕ)) → List ℕ → Type 0
  reads a rows y = Reached (config_of separator) st.StartRecord text rows a.state y

  all_rows : (rows : List (List (List ℕ))) (s : State) (y : List ℕ) (k : ℕ) → length rows + k ≡ length text + 1 → Reached (config_of separator) st.StartRecord text rows s y
      → rows_of separator line ≡ rows ++ records_from (config_of separator) k s y
  all_rows rows s y k e r = ap (λ n. records_from (config_of separator) n st.StartRecord text) (sym e) ∙ reached_first (config_of separator) rows k st.StartRecord s text y r

  module _ (a b : Reader (Bor (List ℕ))) (config : a.config ≡ config_of separator) (source : source_of left a ≡ Some text) (start : a.state ≡ st.StartRecord) where
    -- no row was found
    pub no_row : (fields : List (List ℕ)) → ReadRecord left a b false fields → row_in separator line ≡ Ok None
    unfolding Reached
    no_row fields r =
        let none = rows-end left a b fields (config_of separator) text config source r in
        let rows : rows_of separator line ≡ [] = none_left (config_of separator) (length text + 1) st.StartRecord text (rw start at none) in
        rw rows refl

    -- a row was found, and it is the first
    pub first_row : (row : List (List ℕ)) → ReadRecord left a b true row → (y : List ℕ) × (source_of left b ≡ Some y) × reads b (row ∷ []) y
    unfolding Reached
    first_row row r = rows-more left a b row (config_of separator) st.StartRecord text text [] config source (sym start, refl) r

    module _ (d : Reader (Bor (List ℕ))) (row : List (List ℕ)) (first : ReadRecord left a b true row) where
      -- and no other
      pub one_row : (other : List (List ℕ)) → ReadRecord left b d false other → rows_of separator line ≡ row ∷ []
      one_row other r =
          let (y, source_b, reached) = first_row row first in
          let none = rows-end left b d other (config_of separator) y (first.2 ∙ config) source_b r in
          all_rows (row ∷ []) b.state y (length text) (omega arith) reached ∙ ap (λ (rows : List (List (List ℕ))). row ∷ rows) (none_left (config_of separator) (length text) b.state y none)

      -- or another
      pub two_rows : (other : List (List ℕ)) → ReadRecord left b d true other → row_in separator line ≡ Err TwoRows
      two_rows other r =
          let (y, source_b, reached) = first_row row first in
          let (z, source_d, both) = rows-more left b d other (config_of separator) st.StartRecord text y (row ∷ []) (first.2 ∙ config) source_b reached r in
          let rows = all_rows (row ∷ other ∷ []) d.state z (length text - 1) (omega (arith, some_left line)) both in
          rw rows refl

      pub shut_row : (other : List (List ℕ)) → ReadRecord left b d false other → is_open row ≡ false → row_in separator line ≡ Ok (Some row)
      shut_row other r e = rw (one_row other r, e) refl

      pub open_row : (other : List (List ℕ)) → ReadRecord left b d false other → is_open row ≡ true → row_in separator line ≡ Err OpenQuote
      open_row other r e = rw (one_row other r, e) refl
