-- A token in the field of its column is read back.
use Rattle.std.proofs.Common.{◌≡◌, ◌<◌, ◌∙◌, ◌++◌, ℕ, zero, suc, true, false, List, [], ◌∷◌, Ok, Some, length, length-append, refl, ap, append_assoc, append-nil, arith}
use Rattle.std.proofs.lemmas.Bool.{and_parts, ne_eqb}
use Rattle.std.specs.List.{list_any}
use Rattle.std.specs.Prelude.{◌==◌, replicate}
use Rattle.csv.specs.Machine.{next_record}
use Rattle.csv.specs.Reading.{strip_bom}
use Rattle.csv.specs.Records.{field_at}
use Rattle.csv.specs.declared.parser.State.TheVariants as st
use Rattle.kpn_model.specs.declared.token.Sort.{Sort}
use Rattle.kpn_model.specs.declared.token.Token.{Token}
use Rattle.kpn_tokens.specs.declared.layouts.Column.{Column}
use Rattle.kpn_tokens.specs.declared.layouts.Layout.TheVariants.{Fields}
use Rattle.kpn_tokens.specs.declared.layouts.Separator.{Separator}
use Rattle.kpn_tokens.specs.declared.layouts.Separator.TheVariants.{Comma, Semicolon, Tab}
use Rattle.kpn_tokens.specs.Numbers.{token_text}
use Rattle.kpn_tokens.specs.Records.{IsOf, record_said}
use Rattle.kpn_tokens.specs.Rows.{config_of, field_text, is_line_feed, is_open, row_in, rows_of, separator_byte}
use Rattle.kpn_tokens.proofs.Fields.{filled_field}
use Rattle.kpn_tokens.proofs.Lines.{no_mark}
use Rattle.kpn_tokens.proofs.Plain.{after_after, are_plain, before_after, is_plain, never, none_passes, plain_small, plain_trim, plain_utf8}
use Rattle.kpn_tokens.proofs.RecordsBack.{IsBack, plain_text}
use Rattle.kpn_tokens.proofs.RowFacts.{one_row_of}

-- no plain byte is a separator, and no separator ends a line or begins quotes
pub not_separator : (separator : Separator) (b : ℕ) → is_plain b ≡ true → (b == separator_byte separator) ≡ false
not_separator Comma b h = never (λ b. b == 44) refl b h
not_separator Semicolon b h = never (λ b. b == 59) refl b h
not_separator Tab b h = never (λ b. b == 9) refl b h

pub separator_no_line_feed : (separator : Separator) → is_line_feed (separator_byte separator) ≡ false
separator_no_line_feed Comma = refl
separator_no_line_feed Semicolon = refl
separator_no_line_feed Tab = refl

separator_no_mark : (separator : Separator) → (separator_byte separator == 0xEF) ≡ false
separator_no_mark Comma = refl
separator_no_mark Semicolon = refl
separator_no_mark Tab = refl

module _ (separator : Separator) where
  -- plain bytes join the field
  pub joins : (fields : List (List ℕ)) (field text tail : List ℕ) → are_plain text ≡ true
      → next_record (config_of separator) st.InField fields field (text ++ tail) ≡ next_record (config_of separator) st.InField fields (field ++ text) tail
  unfolding next_record
  joins fields field [] tail h = rw (append-nil field) refl
  joins fields field (b ∷ bs) tail h =
      let (plain, more) = and_parts (is_plain b) (are_plain bs) h in
      rw (not_separator separator b plain, never (λ b. b == 13) refl b plain, never (λ b. b == 10) refl b plain)
      (joins fields (field ++ b ∷ []) bs tail more ∙ ap (λ f. next_record (config_of separator) st.InField fields f tail) (append_assoc field (b ∷ []) bs))

  -- the first of them begins a field
  pub begins : (fields : List (List ℕ)) (b : ℕ) (tail : List ℕ) → is_plain b ≡ true
      → next_record (config_of separator) st.StartField fields [] (b ∷ tail) ≡ next_record (config_of separator) st.InField fields (b ∷ []) tail
  unfolding next_record
  begins fields b tail plain =
      rw (never (λ b. b == 34) refl b plain, not_separator separator b plain, never (λ b. b == 13) refl b plain, never (λ b. b == 10) refl b plain) refl

  pub begins_row : (b : ℕ) (tail : List ℕ) → is_plain b ≡ true
      → next_record (config_of separator) st.StartRecord [] [] (b ∷ tail) ≡ next_record (config_of separator) st.StartField [] [] (b ∷ tail)
  unfolding next_record
  begins_row b tail plain =
      rw (never (λ b. b == 34) refl b plain, not_separator separator b plain, never (λ b. b == 13) refl b plain, never (λ b. b == 10) refl b plain) refl

-- the line feed ends the row
pub ends : (separator : Separator) (fields : List (List ℕ)) (field : List ℕ) → next_record (config_of separator) st.InField fields field (10 ∷ []) ≡ Some (fields ++ field ∷ [], st.StartRecord, [])
unfolding next_record
ends Comma fields field = refl
ends Semicolon fields field = refl
ends Tab fields field = refl

-- a separator ends an empty field
parts : (separator : Separator) (fields : List (List ℕ)) (tail : List ℕ)
    → next_record (config_of separator) st.StartField fields [] (separator_byte separator ∷ tail) ≡ next_record (config_of separator) st.StartField (fields ++ [] ∷ []) [] tail
unfolding next_record
parts Comma fields tail = refl
parts Semicolon fields tail = refl
parts Tab fields tail = refl

parts_row : (separator : Separator) (tail : List ℕ)
    → next_record (config_of separator) st.StartRecord [] [] (separator_byte separator ∷ tail) ≡ next_record (config_of separator) st.StartField [] [] (separator_byte separator ∷ tail)
unfolding next_record
parts_row Comma tail = refl
parts_row Semicolon tail = refl
parts_row Tab tail = refl

module _ (separator : Separator) where
  empties : (count : ℕ) (fields : List (List ℕ)) (tail : List ℕ)
      → next_record (config_of separator) st.StartField fields [] (replicate count (separator_byte separator) ++ tail) ≡ next_record (config_of separator) st.StartField (fields ++ replicate count []) [] tail
  empties zero fields tail = rw (append-nil fields) refl
  empties (suc k) fields tail =
      parts separator fields (replicate k (separator_byte separator) ++ tail) ∙ empties k (fields ++ [] ∷ []) tail
      ∙ ap (λ fs. next_record (config_of separator) st.StartField fs [] tail) (append_assoc fields ([] ∷ []) (replicate k []))

  -- the row of a token in its field
  row_read : (place : ℕ) (text : List ℕ) → are_plain text ≡ true → 0 < length text
      → next_record (config_of separator) st.StartField [] [] (replicate place (separator_byte separator) ++ (text ++ 10 ∷ [])) ≡ Some (replicate place [] ++ text ∷ [], st.StartRecord, [])
  row_read place [] h some = absurd (omega arith)
  row_read place (b ∷ bs) h some =
      let (plain, more) = and_parts (is_plain b) (are_plain bs) h in
      empties place [] ((b ∷ bs) ++ 10 ∷ []) ∙ begins separator (replicate place []) b (bs ++ 10 ∷ []) plain ∙ joins separator (replicate place []) (b ∷ []) bs (10 ∷ []) more
      ∙ ends separator (replicate place []) (b ∷ bs)

  begun : (place : ℕ) (text : List ℕ) → are_plain text ≡ true → 0 < length text
      → next_record (config_of separator) st.StartRecord [] [] (replicate place (separator_byte separator) ++ (text ++ 10 ∷ [])) ≡ next_record (config_of separator) st.StartField [] [] (replicate place (separator_byte separator) ++ (text ++ 10 ∷ []))
  begun place [] h some = absurd (omega arith)
  begun zero (b ∷ bs) h some = begins_row separator b (bs ++ 10 ∷ []) (and_parts (is_plain b) (are_plain bs) h).0
  begun (suc k) (b ∷ bs) h some = parts_row separator (replicate k (separator_byte separator) ++ ((b ∷ bs) ++ 10 ∷ []))

  unmarked : (place : ℕ) (text : List ℕ) → are_plain text ≡ true → 0 < length text
      → strip_bom (replicate place (separator_byte separator) ++ (text ++ 10 ∷ [])) ≡ replicate place (separator_byte separator) ++ (text ++ 10 ∷ [])
  unmarked place [] h some = absurd (omega arith)
  unmarked zero (b ∷ bs) h some =
      let small = plain_small b (and_parts (is_plain b) (are_plain bs) h).0 in
      let other : (b == 0xEF) ≡ false = ne_eqb b 0xEF (λ e. absurd (omega arith)) in
      no_mark ((b ∷ bs) ++ 10 ∷ []) (rw other refl)
  unmarked (suc k) (b ∷ bs) h some = no_mark (replicate (suc k) (separator_byte separator) ++ ((b ∷ bs) ++ 10 ∷ [])) (rw (separator_no_mark separator) refl)

  -- its fields
  shut : (place : ℕ) (text : List ℕ) → are_plain text ≡ true → is_open (replicate place [] ++ text ∷ []) ≡ false
  shut zero text h = rw (none_passes is_line_feed refl text h) refl
  shut (suc k) text h = shut k text h

  found : (place : ℕ) (text : List ℕ) → field_at (replicate place [] ++ text ∷ []) place ≡ Some text
  unfolding field_at
  found zero text = refl
  found (suc k) text = found k text

  no_line_feed : (place : ℕ) (text : List ℕ) → are_plain text ≡ true → list_any is_line_feed (replicate place (separator_byte separator) ++ text) ≡ false
  no_line_feed zero text h = none_passes is_line_feed refl text h
  no_line_feed (suc k) text h = rw (separator_no_line_feed separator) (no_line_feed k text h)

  row_is : (place : ℕ) (text : List ℕ) → are_plain text ≡ true → 0 < length text → row_in separator (replicate place (separator_byte separator) ++ text) ≡ Ok (Some (replicate place [] ++ text ∷ []))
  row_is place text h some =
      let joined = append_assoc (replicate place (separator_byte separator)) text (10 ∷ []) in
      let rows : rows_of separator (replicate place (separator_byte separator) ++ text) ≡ (replicate place [] ++ text ∷ []) ∷ [] =
      rw (joined, unmarked place text h some) (one_row_of (config_of separator) (replicate place (separator_byte separator) ++ (text ++ 10 ∷ [])) (replicate place [] ++ text ∷ []) (begun place text h some ∙ row_read place text h some)) in
      rw (rows, shut place text h) refl

module _ (column : Column) (sort : Sort) (token : Token) (of : IsOf sort token) where
  field_line_said : record_said (Fields column) sort (field_text column token) ≡ Ok (Some token)
  field_line_said =
      let text = token_text column.decimals token in
      let is = plain_text column.decimals sort token of in
      let row = row_is column.separator column.place text is.plain is.some in
      let some : length text ≡ 0 → ⊥ = λ e. absurd (omega (arith, is.some)) in
      rw (row, found column.separator column.place text, plain_utf8 text is.plain, plain_trim text is.plain) (filled_field column.decimals sort text some ∙ is.said)

  pub field_back : IsBack (Fields column) sort token
  field_back =
      let text = token_text column.decimals token in
      let is = plain_text column.decimals sort token of in
      let joined = λ (more : List ℕ). append_assoc (field_text column token) (10 ∷ []) more in
      let none = no_line_feed column.separator column.place text is.plain in
      record {
        some = omega (arith, length-append (field_text column token) (10 ∷ []));
        says = λ more. rw (joined more, before_after is_line_feed (field_text column token) 10 more none refl) field_line_said;
        leaves = λ more. rw (joined more) (after_after is_line_feed (field_text column token) 10 more none refl);
      }
