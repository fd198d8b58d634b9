-- Columns, one after the other.
use Rattle.std.proofs.Common.{◌≡◌, ◌<◌, ◌≤◌, ◌+◌, ◌-◌, ◌∙◌, ◌++◌, ℕ, zero, suc, true, List, [], ◌∷◌, Option, add-one, append_assoc, drop, get_or, is_some, length, length-drop, map, max, min, set, take, refl, sym, ap, subst, arith}
use Rattle.std.specs.List.{AllByRecursion}
use Rattle.kpn_tokens.specs.declared.layouts.Cell.{Cell}
use Rattle.kpn_tokens.specs.Records.{listed}
use Rattle.kpn_tokens.specs.Tables.{below, first_cell, first_of, longest, rows}
use Rattle.kpn_model.specs.declared.token.Token.{Token}
use Rattle.hox_stream.specs.Tables.{IsFullRow, column_in, column_of, columns_of, heads_of, no_cell, past, shortest, under}
use Rattle.hox_stream.specs.Views.{HeadView, LaneView, no_head, no_lane}

-- a column more
pub shortest_more : (lane : LaneView) (lanes : List LaneView) (other : LaneView) → shortest (lane ∷ (lanes ++ other ∷ [])) ≡ min (shortest (lane ∷ lanes)) (length other.waiting)
shortest_more lane [] other = refl
shortest_more lane (next ∷ lanes) other = let more = shortest_more next lanes other in omega (arith, more)

pub longest_more : (lanes : List LaneView) (other : LaneView) → longest (columns_of (lanes ++ other ∷ [])) ≡ max (longest (columns_of lanes)) (length other.waiting)
longest_more [] other = omega arith
longest_more (lane ∷ lanes) other = let more = longest_more lanes other in omega (arith, more)

-- what is under a column is walked over from the first one on
abbrev pub walked : ℕ → List LaneView → List LaneView
walked k lanes = map under (take k lanes) ++ drop k lanes

pub walked_next : (lanes : List LaneView) (k : ℕ) (d : LaneView) → k < length lanes → (get_or (walked k lanes) k d ≡ get_or lanes k d) × (set (walked k lanes) k (under (get_or lanes k d)) ≡ walked (k + 1) lanes)
walked_next [] k d h = absurd (omega arith)
walked_next (lane ∷ lanes) zero d h = (refl, refl)
walked_next (lane ∷ lanes) (suc k) d h =
    let more = walked_next lanes k d (omega arith) in
    let next : walked (suc k + 1) (lane ∷ lanes) ≡ under lane ∷ walked (k + 1) lanes = rw (add-one (suc k), add-one k) refl in
    (more.0, ap (λ (l : List LaneView). under lane ∷ l) more.1 ∙ sym next)

pub walked_heads : (lanes : List LaneView) (k : ℕ) → heads_of (walked k lanes) ≡ heads_of lanes
walked_heads lanes zero = refl
walked_heads [] (suc k) = refl
walked_heads (lane ∷ lanes) (suc k) = ap (λ (l : List HeadView). lane.head ∷ l) (walked_heads lanes k)

-- ---- rows

pub columns_under : (lanes : List LaneView) → columns_of (map under lanes) ≡ map below (columns_of lanes)
columns_under [] = refl
columns_under (lane ∷ lanes) = ap (λ l. below (column_of lane) ∷ l) (columns_under lanes)

pub heads_under : (lanes : List LaneView) → heads_of (map under lanes) ≡ heads_of lanes
heads_under [] = refl
heads_under (lane ∷ lanes) = ap (λ (l : List HeadView). lane.head ∷ l) (heads_under lanes)

pub heads_past : (n : ℕ) (lanes : List LaneView) → heads_of (past n lanes) ≡ heads_of lanes
heads_past zero lanes = refl
heads_past (suc n) lanes = heads_past n (map under lanes) ∙ heads_under lanes

-- one row more
pub past_more : (n : ℕ) (lanes : List LaneView) → past (n + 1) lanes ≡ map under (past n lanes)
past_more zero lanes = refl
past_more (suc n) lanes = let next : suc n + 1 ≡ suc (n + 1) = omega arith in ap (λ m. past m lanes) next ∙ past_more n (map under lanes)

pub rows_more : (n : ℕ) (lanes : List LaneView) → rows (n + 1) (columns_of lanes) ≡ rows n (columns_of lanes) ++ rows 1 (columns_of (past n lanes))
rows_more zero lanes = refl
rows_more (suc n) lanes =
    let next : suc n + 1 ≡ suc (n + 1) = omega arith in
    let first = map first_cell (columns_of lanes) in
    ap (λ m. rows m (columns_of lanes)) next
    ∙ ap (λ c. first ∷ rows (n + 1) c) (sym (columns_under lanes))
    ∙ ap (λ (l : List (List Cell)). first ∷ l) (rows_more n (map under lanes))
    ∙ ap (λ c. first ∷ (rows n c ++ rows 1 (columns_of (past n (map under lanes))))) (columns_under lanes)

-- ---- a column

pub at_under : (lanes : List LaneView) (i : ℕ) → get_or (map under lanes) i no_lane ≡ under (get_or lanes i no_lane)
at_under [] i = refl
at_under (lane ∷ lanes) zero = refl
at_under (lane ∷ lanes) (suc i) = at_under lanes i

pub head_at : (lanes : List LaneView) (i : ℕ) → get_or (heads_of lanes) i no_head ≡ (get_or lanes i no_lane).head
head_at [] i = refl
head_at (lane ∷ lanes) zero = refl
head_at (lane ∷ lanes) (suc i) = head_at lanes i

-- what rows do not change
pub kept_past : {X : Type 0} (f : LaneView → X) → ((lane : LaneView) → f (under lane) ≡ f lane) → (n : ℕ) (lanes : List LaneView) (i : ℕ) → f (get_or (past n lanes) i no_lane) ≡ f (get_or lanes i no_lane)
kept_past f same zero lanes i = refl
kept_past f same (suc n) lanes i = kept_past f same n (map under lanes) i ∙ ap f (at_under lanes i) ∙ same (get_or lanes i no_lane)

-- the first token of a column is in the row, and the others are under it
first_and : (tokens : List Token) → listed (first_of tokens) ++ drop 1 tokens ≡ tokens
first_and [] = refl
first_and (t ∷ ts) = refl

-- one cell more
pub cells_more : (lanes : List LaneView) (k : ℕ) (d : LaneView) → k < length lanes
    → map first_cell (columns_of (take (k + 1) lanes)) ≡ map first_cell (columns_of (take k lanes)) ++ first_cell (column_of (get_or lanes k d)) ∷ []
cells_more [] k d h = absurd (omega arith)
cells_more (lane ∷ lanes) zero d h = refl
cells_more (lane ∷ lanes) (suc k) d h =
    let next : take (suc k + 1) (lane ∷ lanes) ≡ lane ∷ take (k + 1) lanes = rw (add-one (suc k), add-one k) refl in
    ap (λ l. map first_cell (columns_of l)) next ∙ ap (λ (l : List Cell). first_cell (column_of lane) ∷ l) (cells_more lanes k d (omega arith))

-- ---- full rows

-- a row less can be full once each column lost a token
pub shortest_under : (lanes : List LaneView) → shortest (map under lanes) ≡ shortest lanes - 1
shortest_under [] = refl
shortest_under (lane ∷ []) = omega (arith, length-drop 1 lane.waiting)
shortest_under (lane ∷ other ∷ lanes) = omega (arith, shortest_under (other ∷ lanes), length-drop 1 lane.waiting)

pub shortest_past : (n : ℕ) (lanes : List LaneView) → shortest (past n lanes) ≡ shortest lanes - n
shortest_past zero lanes = omega arith
shortest_past (suc n) lanes = omega (arith, shortest_past n (map under lanes), shortest_under lanes)

has_first : (tokens : List Token) → 0 < length tokens → is_some (first_of tokens) ≡ true
has_first [] h = absurd (omega arith)
has_first (t ∷ ts) h = refl

full_row : (lanes : List LaneView) → 0 < shortest lanes → IsFullRow (heads_of lanes) (map first_cell (columns_of lanes))
full_row [] h = tt
full_row (lane ∷ []) h = (refl, has_first lane.waiting h, tt)
full_row (lane ∷ other ∷ lanes) h = (refl, has_first lane.waiting (omega arith), full_row (other ∷ lanes) (omega arith))

pub full_rows : (n : ℕ) (lanes : List LaneView) → n ≤ shortest lanes → AllByRecursion (IsFullRow (heads_of lanes)) (rows n (columns_of lanes))
full_rows zero lanes h = tt
full_rows (suc n) lanes h =
    let less = shortest_under lanes in
    let more = full_rows n (map under lanes) (omega arith) in
    (full_row lanes (omega arith), subst (λ l. AllByRecursion (IsFullRow l) (rows n (map below (columns_of lanes)))) (heads_under lanes) (subst (λ c. AllByRecursion (IsFullRow (heads_of (map under lanes))) (rows n c)) (columns_under lanes) more))

-- ---- a column in rows

cell_at : (lanes : List LaneView) (i : ℕ) → (get_or (map first_cell (columns_of lanes)) i no_cell).token ≡ first_of (get_or lanes i no_lane).waiting
cell_at [] i = refl
cell_at (lane ∷ lanes) zero = refl
cell_at (lane ∷ lanes) (suc i) = cell_at lanes i

-- what stands in rows and what is left are what waited
pub column_past : (n : ℕ) (lanes : List LaneView) (i : ℕ) → column_in i (rows n (columns_of lanes)) ++ (get_or (past n lanes) i no_lane).waiting ≡ (get_or lanes i no_lane).waiting
column_past zero lanes i = refl
column_past (suc n) lanes i =
    let waiting = (get_or lanes i no_lane).waiting in
    let first = listed (get_or (map first_cell (columns_of lanes)) i no_cell).token in
    let left = (get_or (past n (map under lanes)) i no_lane).waiting in
    let more : column_in i (rows n (map below (columns_of lanes))) ++ left ≡ drop 1 waiting =
    ap (λ c. column_in i (rows n c) ++ left) (sym (columns_under lanes)) ∙ column_past n (map under lanes) i ∙ ap (λ (l : LaneView). l.waiting) (at_under lanes i) in
    append_assoc first (column_in i (rows n (map below (columns_of lanes)))) left ∙ ap (λ (l : List Token). first ++ l) more ∙ ap (λ (o : Option Token). listed o ++ drop 1 waiting) (cell_at lanes i) ∙ first_and waiting
