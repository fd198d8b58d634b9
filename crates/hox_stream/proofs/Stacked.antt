-- Full rows, and what stands under them: the rows of columns.
use Rattle.std.proofs.Common.{◌≡◌, ◌<◌, ◌∙◌, ◌++◌, ℕ, zero, suc, true, false, List, [], ◌∷◌, Option, Some, None, append_assoc, drop, get_or, is_some, length, map, refl, sym, ap, subst, arith}
use Rattle.std.proofs.KnownBytes.{Appends-trans}
use Rattle.std.proofs.lemmas.List.{length-map}
use Rattle.std.proofs.lemmas.List.Concat.{flat_map-append}
use Rattle.std.specs.Io.KnownBytes.{Appends}
use Rattle.std.specs.List.{AllByRecursion, flat_map}
use Rattle.kpn_model.specs.declared.token.Token.{Token}
use Rattle.kpn_tokens.specs.declared.layouts.Cell.{Cell}
use Rattle.kpn_tokens.specs.declared.tables.Table.{Table}
use Rattle.kpn_tokens.specs.Records.{listed}
use Rattle.kpn_tokens.specs.Tables.{ColumnView, below, first_cell, longest, no_column, row_text, rows, rows_text, table_text}
use Rattle.hox_stream.specs.Ports.{written_of}
use Rattle.hox_stream.specs.Tables.{EndsTable, IsFullRow, WritesTable, column_in, column_of, columns_of, heads_of, lane_at, no_cell, taken_columns}
use Rattle.hox_stream.specs.Views.{HeadView, LaneView, TableView, no_lane}
use Rattle.hox_stream.proofs.Tabled.{as_many, head_same}

-- a row is put on columns
abbrev onto : List Cell → List ColumnView → List ColumnView
onto [] columns = columns
onto (cell ∷ cells) [] = []
onto (cell ∷ cells) (column ∷ columns) = record { decimals = column.decimals; tokens = listed cell.token ++ column.tokens } ∷ onto cells columns

abbrev stacked : List (List Cell) → List ColumnView → List ColumnView
stacked [] columns = columns
stacked (row ∷ rows) columns = onto row (stacked rows columns)

-- columns with these heads
abbrev Agree : List HeadView → List ColumnView → Type 0
Agree [] [] = Unit {0}
Agree [] (c ∷ cs) = ⊥
Agree (h ∷ hs) [] = ⊥
Agree (h ∷ hs) (c ∷ cs) = (c.decimals ≡ h.decimals) × Agree hs cs

agree_lanes : (lanes : List LaneView) → Agree (heads_of lanes) (columns_of lanes)
agree_lanes [] = tt
agree_lanes (l ∷ ls) = (refl, agree_lanes ls)

agree_onto : (hs : List HeadView) (row : List Cell) (cs : List ColumnView) → IsFullRow hs row → Agree hs cs → Agree hs (onto row cs)
agree_onto [] [] [] full a = tt
agree_onto [] [] (c ∷ cs) full a = absurd a
agree_onto [] (x ∷ xs) cs full a = absurd full
agree_onto (h ∷ hs) [] cs full a = absurd full
agree_onto (h ∷ hs) (x ∷ xs) [] full a = absurd a
agree_onto (h ∷ hs) (x ∷ xs) (c ∷ cs) full a = (a.0, agree_onto hs xs cs full.2 a.1)

agree_stacked : (hs : List HeadView) (rs : List (List Cell)) (cs : List ColumnView) → AllByRecursion (IsFullRow hs) rs → Agree hs cs → Agree hs (stacked rs cs)
agree_stacked hs [] cs full a = a
agree_stacked hs (r ∷ rs) cs full a = agree_onto hs r (stacked rs cs) full.0 (agree_stacked hs rs cs full.1 a)

-- the row is the first one then
cell_of : (h : HeadView) (x : Cell) (c : ColumnView) → x.decimals ≡ h.decimals → is_some x.token ≡ true → c.decimals ≡ h.decimals
    → (first_cell (record { decimals = c.decimals; tokens = listed x.token ++ c.tokens }) ≡ x) × (drop 1 (listed x.token ++ c.tokens) ≡ c.tokens)
cell_of h x c same some head = by x.token refl some
  where
    by : (o : Option Token) → x.token ≡ o → is_some o ≡ true → (first_cell (record { decimals = c.decimals; tokens = listed x.token ++ c.tokens }) ≡ x) × (drop 1 (listed x.token ++ c.tokens) ≡ c.tokens)
    by None e s = cc
    by (Some t) e s = (
      ap (λ (o : Option Token). first_cell (record { decimals = c.decimals; tokens = listed o ++ c.tokens })) e ∙ ap (λ d. record { decimals = d; token = Some t }) (head ∙ sym same) ∙ ap (λ (o : Option Token). record { decimals = x.decimals; token = o }) (sym e),
      ap (λ (o : Option Token). drop 1 (listed o ++ c.tokens)) e,
    )

top_is : (hs : List HeadView) (row : List Cell) (cs : List ColumnView) → IsFullRow hs row → Agree hs cs → (map first_cell (onto row cs) ≡ row) × (map below (onto row cs) ≡ cs)
top_is [] [] [] full a = (refl, refl)
top_is [] [] (c ∷ cs) full a = absurd a
top_is [] (x ∷ xs) cs full a = absurd full
top_is (h ∷ hs) [] cs full a = absurd full
top_is (h ∷ hs) (x ∷ xs) [] full a = absurd a
top_is (h ∷ hs) (x ∷ xs) (c ∷ cs) full a =
    let one = cell_of h x c full.0 full.1 a.0 in
    let more = top_is hs xs cs full.2 a.1 in
    let first : first_cell (record { decimals = c.decimals; tokens = listed x.token ++ c.tokens }) ∷ map first_cell (onto xs cs) ≡ x ∷ xs = ap (λ (y : Cell). y ∷ map first_cell (onto xs cs)) one.0 ∙ ap (λ (l : List Cell). x ∷ l) more.0 in
    let rest : record { decimals = c.decimals; tokens = drop 1 (listed x.token ++ c.tokens) } ∷ map below (onto xs cs) ≡ c ∷ cs =
    ap (λ (l : List Token). record { decimals = c.decimals; tokens = l } ∷ map below (onto xs cs)) one.1 ∙ ap (λ (l : List ColumnView). c ∷ l) more.1 in
    (first, rest)

some_listed : (o : Option Token) → is_some o ≡ true → length (listed o) ≡ 1
some_listed None e = cc
some_listed (Some t) e = refl

taller : (x : Cell) (c : ColumnView) → is_some x.token ≡ true → length (listed x.token ++ c.tokens) ≡ suc (length c.tokens)
taller x c some = by x.token some
  where
    by : (o : Option Token) → is_some o ≡ true → length (listed o ++ c.tokens) ≡ suc (length c.tokens)
    by None s = cc
    by (Some t) s = refl

longer : (hs : List HeadView) (row : List Cell) (cs : List ColumnView) → IsFullRow hs row → Agree hs cs → 0 < length cs → longest (onto row cs) ≡ suc (longest cs)
longer [] [] [] full a some = absurd (omega arith)
longer [] [] (c ∷ cs) full a some = absurd a
longer [] (x ∷ xs) cs full a some = absurd full
longer (h ∷ hs) [] cs full a some = absurd full
longer (h ∷ hs) (x ∷ xs) [] full a some = absurd a
longer (h ∷ []) (x ∷ []) (c ∷ []) full a some = let one = taller x c full.1 in omega (arith, one)
longer (h ∷ []) (x ∷ []) (c ∷ d ∷ ds) full a some = absurd a.1
longer (h ∷ []) (x ∷ y ∷ ys) (c ∷ cs) full a some = absurd full.2
longer (h ∷ i ∷ hs) (x ∷ []) (c ∷ cs) full a some = absurd full.2
longer (h ∷ i ∷ hs) (x ∷ y ∷ ys) (c ∷ []) full a some = absurd a.1
longer (h ∷ i ∷ hs) (x ∷ y ∷ ys) (c ∷ d ∷ ds) full a some =
    let one = taller x c full.1 in
    let more = longer (i ∷ hs) (y ∷ ys) (d ∷ ds) full.2 a.1 (omega arith) in
    omega (arith, one, more)

as_wide : (row : List Cell) (cs : List ColumnView) → length (onto row cs) ≡ length cs
as_wide [] cs = refl
as_wide (x ∷ xs) [] = refl
as_wide (x ∷ xs) (c ∷ cs) = let more = as_wide xs cs in omega (arith, more)

all_as_wide : (rs : List (List Cell)) (cs : List ColumnView) → length (stacked rs cs) ≡ length cs
all_as_wide [] cs = refl
all_as_wide (r ∷ rs) cs = as_wide r (stacked rs cs) ∙ all_as_wide rs cs

-- full rows come first, and then those of what stands under them
rows_stacked : (hs : List HeadView) (rs : List (List Cell)) (cs : List ColumnView) → AllByRecursion (IsFullRow hs) rs → Agree hs cs → 0 < length cs → rows (longest (stacked rs cs)) (stacked rs cs) ≡ rs ++ rows (longest cs) cs
rows_stacked hs [] cs full a some = refl
rows_stacked hs (r ∷ rs) cs full a some =
    let under = stacked rs cs in
    let agree = agree_stacked hs rs cs full.1 a in
    let wide = all_as_wide rs cs in
    let is = top_is hs r under full.0 agree in
    ap (λ n. rows n (onto r under)) (longer hs r under full.0 agree (omega (arith, some, wide)))
    ∙ ap (λ (l : List Cell). l ∷ rows (longest under) (map below (onto r under))) is.0 ∙ ap (λ c. r ∷ rows (longest under) c) is.1
    ∙ ap (λ (l : List (List Cell)). r ∷ l) (rows_stacked hs rs cs full.1 a some)

-- ---- a column of them

at_onto : (hs : List HeadView) (row : List Cell) (cs : List ColumnView) (i : ℕ) → IsFullRow hs row → Agree hs cs → i < length cs
    → get_or (onto row cs) i no_column ≡ record { decimals = (get_or cs i no_column).decimals; tokens = listed (get_or row i no_cell).token ++ (get_or cs i no_column).tokens }
at_onto [] [] [] i full a h = absurd (omega arith)
at_onto [] [] (c ∷ cs) i full a h = absurd a
at_onto [] (x ∷ xs) cs i full a h = absurd full
at_onto (g ∷ gs) [] cs i full a h = absurd full
at_onto (g ∷ gs) (x ∷ xs) [] i full a h = absurd a
at_onto (g ∷ gs) (x ∷ xs) (c ∷ cs) zero full a h = refl
at_onto (g ∷ gs) (x ∷ xs) (c ∷ cs) (suc i) full a h = at_onto gs xs cs i full.2 a.1 (omega arith)

at_stacked : (hs : List HeadView) (rs : List (List Cell)) (cs : List ColumnView) (i : ℕ) → AllByRecursion (IsFullRow hs) rs → Agree hs cs → i < length cs
    → get_or (stacked rs cs) i no_column ≡ record { decimals = (get_or cs i no_column).decimals; tokens = column_in i rs ++ (get_or cs i no_column).tokens }
at_stacked hs [] cs i full a h = refl
at_stacked hs (r ∷ rs) cs i full a h =
    let wide = all_as_wide rs cs in
    let first = listed (get_or r i no_cell).token in
    at_onto hs r (stacked rs cs) i full.0 (agree_stacked hs rs cs full.1 a) (omega (arith, wide, h))
    ∙ ap (λ (c : ColumnView). record { decimals = c.decimals; tokens = first ++ c.tokens }) (at_stacked hs rs cs i full.1 a h)
    ∙ ap (λ (l : List Token). record { decimals = (get_or cs i no_column).decimals; tokens = l }) (sym (append_assoc first (column_in i rs) (get_or cs i no_column).tokens))

same_lists : (xs ys : List ColumnView) → length xs ≡ length ys → ((i : ℕ) → i < length xs → get_or xs i no_column ≡ get_or ys i no_column) → xs ≡ ys
same_lists [] [] e same = refl
same_lists [] (y ∷ ys) e same = absurd (omega arith)
same_lists (x ∷ xs) [] e same = absurd (omega arith)
same_lists (x ∷ xs) (y ∷ ys) e same = ap (λ (c : ColumnView). c ∷ xs) (same 0 (omega arith)) ∙ ap (λ (l : List ColumnView). y ∷ l) (same_lists xs ys (omega arith) (λ i h. same (suc i) (omega arith)))

map_at : {X : Type 0} (f : X → ColumnView) (xs : List X) (i : ℕ) (d : X) → i < length xs → get_or (map f xs) i no_column ≡ f (get_or xs i d)
map_at f [] i d h = absurd (omega arith)
map_at f (x ∷ xs) zero d h = refl
map_at f (x ∷ xs) (suc i) d h = map_at f xs i d (omega arith)

-- what was written in all are the rows of what was taken into each column
module _ (p q r : TableView) (drained_of : ℕ → List Token) (none : (i : ℕ) → i < length p.lanes → (lane_at p i).waiting ≡ []) (some : 0 < length p.lanes)
    (x : WritesTable p q (λ i. drained_of (lane_at p i).head.channel)) (y : EndsTable q r) where
  module _ (unfailed : r.has_failed ≡ false) where
    before : q.has_failed ≡ false
    before = y.rows.unfailed unfailed

    column_is : (i : ℕ) → i < length p.lanes → get_or (taken_columns p.lanes drained_of) i no_column ≡ get_or (stacked x.rows (columns_of q.lanes)) i no_column
    column_is i h =
        let many = as_many p q x.heads in
        let h_q : i < length q.lanes = subst (λ n. i < n) (sym many) h in
        let h_c : i < length (columns_of q.lanes) = subst (λ n. i < n) (sym (length-map q.lanes column_of)) h_q in
        let lane = x.lanes before i h in
        let tokens = written_of (lane_at p i).head.layout (lane_at p i).is_misfit (drained_of (lane_at p i).head.channel) in
        let all : tokens ≡ column_in i x.rows ++ (lane_at q i).waiting = ap (λ (l : List Token). l ++ tokens) (sym (none i h)) ∙ lane.waiting in
        let head = head_same p q x.heads i in
        map_at _ p.lanes i no_lane h
        ∙ ap (λ (l : List Token). record { decimals = (lane_at p i).head.decimals; tokens = l }) all
        ∙ ap (λ (hd : HeadView). record { decimals = hd.decimals; tokens = column_in i x.rows ++ (lane_at q i).waiting }) (sym head)
        ∙ ap (λ (c : ColumnView). record { decimals = c.decimals; tokens = column_in i x.rows ++ c.tokens }) (sym (map_at column_of q.lanes i no_lane h_q))
        ∙ sym (at_stacked (heads_of q.lanes) x.rows (columns_of q.lanes) i (subst (λ l. AllByRecursion (IsFullRow l) x.rows) (sym x.heads) x.full) (agree_lanes q.lanes) h_c)

    pub columns_written : Appends p.contents r.contents (table_text p.table (taken_columns p.lanes drained_of))
    columns_written =
        let many = as_many p q x.heads in
        let wide : length (columns_of q.lanes) ≡ length p.lanes = length-map q.lanes column_of ∙ many in
        let long : length (taken_columns p.lanes drained_of) ≡ length p.lanes = length-map p.lanes _ in
        let columns : taken_columns p.lanes drained_of ≡ stacked x.rows (columns_of q.lanes) =
        same_lists _ _ (long ∙ sym (all_as_wide x.rows (columns_of q.lanes) ∙ wide)) (λ i h. column_is i (subst (λ n. i < n) long h)) in
        let full = subst (λ l. AllByRecursion (IsFullRow l) x.rows) (sym x.heads) x.full in
        let text : table_text p.table (taken_columns p.lanes drained_of) ≡ flat_map (row_text p.table) x.rows ++ rows_text p.table (longest (columns_of q.lanes)) (columns_of q.lanes) =
        ap (λ c. table_text p.table c) columns
        ∙ ap (λ (l : List (List Cell)). flat_map (row_text p.table) l) (rows_stacked (heads_of q.lanes) x.rows (columns_of q.lanes) full (agree_lanes q.lanes) (subst (λ n. 0 < n) (sym wide) some))
        ∙ flat_map-append (row_text p.table) x.rows (rows (longest (columns_of q.lanes)) (columns_of q.lanes)) in
        subst (λ (l : List ℕ). Appends p.contents r.contents l) (sym text)
        (Appends-trans p.contents q.contents r.contents (flat_map (row_text p.table) x.rows) (rows_text p.table (longest (columns_of q.lanes)) (columns_of q.lanes)) (x.written before)
        (subst (λ (t : Table). Appends q.contents r.contents (rows_text t (longest (columns_of q.lanes)) (columns_of q.lanes))) x.table (y.rows.written unfailed)))
