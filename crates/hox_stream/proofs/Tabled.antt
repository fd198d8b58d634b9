-- What is taken into the columns of a file of several channels, and written to it, one after another.
use Rattle.std.proofs.Common.{◌==◌, Result, Ok, Err, OnOk, is_err, ◌≡◌, ◌<◌, ◌≤◌, ◌+◌, ◌∙◌, ◌++◌, ◌||◌, ⊎_elim, ℕ, zero, suc, Bool, true, false, cond, not, List, [], ◌∷◌, Option, append_assoc, append-nil, get_or, length, set, refl, sym, ap, subst, arith, eq-eqb, ne_eqb}
use Rattle.std.proofs.KnownBytes.{Appends-nil, Appends-trans}
use Rattle.std.proofs.lemmas.Bool.{cases_eq}
use Rattle.std.proofs.lemmas.List.{get_or-set_other, length-map}
use Rattle.std.proofs.lemmas.List.Concat.{flat_map-append}
use Rattle.std.specs.Io.KnownBytes.{Appends}
use Rattle.std.specs.List.{AllByRecursion, flat_map}
use Rattle.kpn_model.specs.declared.token.Token.{Token}
use Rattle.kpn_tokens.specs.declared.layouts.Cell.{Cell}
use Rattle.kpn_tokens.specs.declared.tables.Table.{Table}
use Rattle.kpn_tokens.specs.Tables.{row_text, rows, rows_text}
use Rattle.hox_stream.specs.Lanes.{TakesIn}
use Rattle.hox_stream.specs.Ports.{CountsOn, are_written, clipped_of, written_of}
use Rattle.hox_stream.specs.Tables.{FlushesTable, IsFullRow, RowsGo, WritesLane, WritesTable, column_in, columns_of, heads_of, lane_at, only_at, past, shortest}
use Rattle.hox_stream.specs.Views.{HeadView, LaneView, TableView, no_head, no_lane}
use Rattle.hox_stream.proofs.Counted.{counts_both, counts_lists, counts_none}
use Rattle.hox_stream.proofs.Fitting.{clipped_both, clipped_none, misfit_both, misfit_none, written_both, written_none}
use Rattle.hox_stream.proofs.Lanes.{column_past, full_rows, head_at, kept_past, past_more, rows_more, shortest_past}

-- ---- rows

pub rows_go_none : (p : TableView) → RowsGo p p 0
rows_go_none p = record { table = refl; heads = refl; unfailed = λ e. e; written = λ e. Appends-nil p.contents; lanes = λ e. refl; held = λ h. h }

pub rows_go_more : (p q r : TableView) (n : ℕ) → RowsGo p q n → RowsGo q r 1 → RowsGo p r (n + 1)
rows_go_more p q r n x y = record {
  table = y.table ∙ x.table;
  heads = y.heads ∙ x.heads;
  unfailed = λ e. x.unfailed (y.unfailed e);
  written = λ e.
      let before = y.unfailed e in
      let text : rows_text p.table (n + 1) (columns_of p.lanes) ≡ rows_text p.table n (columns_of p.lanes) ++ rows_text p.table 1 (columns_of (past n p.lanes)) =
      ap (λ (l : List (List Cell)). flat_map (row_text p.table) l) (rows_more n p.lanes) ∙ flat_map-append (row_text p.table) (rows n (columns_of p.lanes)) (rows 1 (columns_of (past n p.lanes))) in
      let last : Appends q.contents r.contents (rows_text p.table 1 (columns_of (past n p.lanes))) =
      subst (λ (l : List LaneView). Appends q.contents r.contents (rows_text p.table 1 (columns_of l))) (x.lanes before) (subst (λ (t : Table). Appends q.contents r.contents (rows_text t 1 (columns_of q.lanes))) x.table (y.written e)) in
      subst (λ (l : List ℕ). Appends p.contents r.contents l) (sym text)
      (Appends-trans p.contents q.contents r.contents (rows_text p.table n (columns_of p.lanes)) (rows_text p.table 1 (columns_of (past n p.lanes))) (x.written before) last);
  lanes = λ e. y.lanes e ∙ ap (λ (l : List LaneView). past 1 l) (x.lanes (y.unfailed e)) ∙ sym (past_more n p.lanes);
  held = λ h. y.held (x.held h);
}

-- a write that has failed says no more than that
pub rows_go_failed : (p q : TableView) (n : ℕ) → q.table ≡ p.table → heads_of q.lanes ≡ heads_of p.lanes → q.has_failed ≡ true → length q.waiting ≤ 4096 → RowsGo p q n
rows_go_failed p q n table heads failed few = record {
  table = table;
  heads = heads;
  unfailed = λ e. never failed e;
  written = λ e. never failed e;
  lanes = λ e. never failed e;
  held = λ h. few;
}
  where
    never : {X : Type 0} {b : Bool} → b ≡ true → b ≡ false → X
    never e f = cc

-- ---- what was taken and written

writes_lane_none : (place : ℕ) (p : LaneView) → WritesLane [] place p p []
writes_lane_none place p = record {
  waiting = ap (λ (l : List Token). p.waiting ++ l) (written_none p.head.layout p.is_misfit) ∙ append-nil p.waiting;
  misfit = misfit_none p.head.layout p.is_misfit;
  counted = subst (λ (l : List Token). CountsOn p.tokens p.tokens (length l)) (sym (written_none p.head.layout p.is_misfit)) (counts_none p.tokens p.tokens refl);
  clipped = subst (λ n. CountsOn p.clipped p.clipped n) (sym (clipped_none p.head.layout p.is_misfit)) (counts_none p.clipped p.clipped refl);
}

pub writes_table_none : (p : TableView) (tokens : ℕ → List Token) → ((i : ℕ) → i < length p.lanes → tokens i ≡ []) → WritesTable p p tokens
writes_table_none p tokens none = record {
  table = refl;
  heads = refl;
  unfailed = λ e. e;
  rows = [];
  full = tt;
  written = λ e. Appends-nil p.contents;
  lanes = λ e i h. subst (λ (l : List Token). WritesLane [] i (lane_at p i) (lane_at p i) l) (sym (none i h)) (writes_lane_none i (lane_at p i));
  whole = λ e h. h;
  held = λ h. h;
}

pub writes_table_as : (p q : TableView) (tokens others : ℕ → List Token) → ((i : ℕ) → i < length p.lanes → tokens i ≡ others i) → WritesTable p q tokens → WritesTable p q others
writes_table_as p q tokens others same x = record {
  table = x.table;
  heads = x.heads;
  unfailed = x.unfailed;
  rows = x.rows;
  full = x.full;
  written = x.written;
  lanes = λ e i h. subst (λ (l : List Token). WritesLane x.rows i (lane_at p i) (lane_at q i) l) (same i h) (x.lanes e i h);
  whole = x.whole;
  held = x.held;
}

all_both : {X : Type 0} (P : X → Type 0) (xs ys : List X) → AllByRecursion P xs → AllByRecursion P ys → AllByRecursion P (xs ++ ys)
all_both P [] ys h i = i
all_both P (x ∷ xs) ys h i = (h.0, all_both P xs ys h.1 i)

module _ (p q r : LaneView) (some more : List (List Cell)) (place : ℕ) (ts us : List Token) (head : q.head ≡ p.head) (x : WritesLane some place p q ts) (y : WritesLane more place q r us) where
  abbrev after : Bool
  after = p.is_misfit || not (are_written p.head.layout ts)

  -- what holds of the head and the misfits in between holds of those before
  between : (P : HeadView → Bool → Type 0) → P q.head q.is_misfit → P p.head after
  between P h = subst (λ l. P l after) head (subst (λ b. P q.head b) x.misfit h)

  writes_lane_both : WritesLane (some ++ more) place p r (ts ++ us)
  writes_lane_both =
      let first = written_of p.head.layout p.is_misfit ts in
      let second = written_of p.head.layout after us in
      let both : written_of p.head.layout p.is_misfit (ts ++ us) ≡ first ++ second = written_both p.head.layout p.is_misfit ts us in
      let left : q.waiting ++ second ≡ column_in place more ++ r.waiting = between (λ l b. q.waiting ++ written_of l.layout b us ≡ column_in place more ++ r.waiting) y.waiting in
      record {
        waiting =
            ap (λ (l : List Token). p.waiting ++ l) both ∙ sym (append_assoc p.waiting first second) ∙ ap (λ (l : List Token). l ++ second) x.waiting ∙ append_assoc (column_in place some) q.waiting second
            ∙ ap (λ (l : List Token). column_in place some ++ l) left ∙ sym (append_assoc (column_in place some) (column_in place more) r.waiting)
            ∙ ap (λ (l : List Token). l ++ r.waiting) (sym (flat_map-append _ some more));
        misfit = between (λ l b. r.is_misfit ≡ (b || not (are_written l.layout us))) y.misfit ∙ misfit_both p.head.layout p.is_misfit ts us;
        counted = subst (λ (l : List Token). CountsOn p.tokens r.tokens (length l)) (sym both)
            (counts_lists p.tokens q.tokens r.tokens first second x.counted (between (λ l b. CountsOn q.tokens r.tokens (length (written_of l.layout b us))) y.counted));
        clipped = subst (λ n. CountsOn p.clipped r.clipped n) (sym (clipped_both p.head.layout p.is_misfit ts us))
            (counts_both p.clipped q.clipped r.clipped (clipped_of p.head.layout p.is_misfit ts) (clipped_of p.head.layout after us) x.clipped (between (λ l b. CountsOn q.clipped r.clipped (clipped_of l.layout b us)) y.clipped));
      }

-- the heads are as many, and each is the same
pub as_many : (p q : TableView) → heads_of q.lanes ≡ heads_of p.lanes → length q.lanes ≡ length p.lanes
as_many p q e = sym (length-map q.lanes (λ l. l.head)) ∙ ap (λ (l : List HeadView). length l) e ∙ length-map p.lanes (λ l. l.head)

pub head_same : (p q : TableView) → heads_of q.lanes ≡ heads_of p.lanes → (i : ℕ) → (lane_at q i).head ≡ (lane_at p i).head
head_same p q e i = sym (head_at q.lanes i) ∙ ap (λ (l : List HeadView). get_or l i no_head) e ∙ head_at p.lanes i

pub writes_table_both : (p q r : TableView) (first second : ℕ → List Token) → WritesTable p q first → WritesTable q r second → WritesTable p r (λ i. first i ++ second i)
writes_table_both p q r first second x y = record {
  table = y.table ∙ x.table;
  heads = y.heads ∙ x.heads;
  unfailed = λ e. x.unfailed (y.unfailed e);
  rows = x.rows ++ y.rows;
  full = all_both (IsFullRow (heads_of p.lanes)) x.rows y.rows x.full (subst (λ l. AllByRecursion (IsFullRow l) y.rows) x.heads y.full);
  written = λ e.
      subst (λ (l : List ℕ). Appends p.contents r.contents l) (sym (flat_map-append (row_text p.table) x.rows y.rows))
      (Appends-trans p.contents q.contents r.contents (flat_map (row_text p.table) x.rows) (flat_map (row_text p.table) y.rows) (x.written (y.unfailed e))
      (subst (λ (t : Table). Appends q.contents r.contents (flat_map (row_text t) y.rows)) x.table (y.written e)));
  lanes = λ e i h.
      writes_lane_both (lane_at p i) (lane_at q i) (lane_at r i) x.rows y.rows i (first i) (second i) (head_same p q x.heads i) (x.lanes (y.unfailed e) i h) (y.lanes e i (subst (λ n. i < n) (sym (as_many p q x.heads)) h));
  whole = λ e h. y.whole e (x.whole (y.unfailed e) h);
  held = λ h. y.held (x.held h);
}

-- what waits is written out
pub writes_flushed : (p q : TableView) → FlushesTable p q → WritesTable p q (λ i. [])
writes_flushed p q x = record {
  table = x.table;
  heads = ap (λ (l : List LaneView). heads_of l) x.lanes;
  unfailed = x.unfailed;
  rows = [];
  full = tt;
  written = x.written;
  lanes = λ e i h. subst (λ (l : List LaneView). WritesLane [] i (lane_at p i) (get_or l i no_lane) []) (sym x.lanes) (writes_lane_none i (lane_at p i));
  whole = λ e h. ap (λ (l : List LaneView). shortest l) x.lanes ∙ h;
  held = x.held;
}

-- a write that has failed says no more than that
pub writes_failed : (p q : TableView) (tokens : ℕ → List Token) → q.table ≡ p.table → heads_of q.lanes ≡ heads_of p.lanes → q.has_failed ≡ true → (length p.waiting ≤ 4096 → length q.waiting ≤ 4096) → WritesTable p q tokens
writes_failed p q tokens table heads failed held = record {
  table = table;
  heads = heads;
  unfailed = λ e. never failed e;
  rows = [];
  full = tt;
  written = λ e. never failed e;
  lanes = λ e. never failed e;
  whole = λ e. never failed e;
  held = held;
}
  where
    never : {X : Type 0} {b : Bool} → b ≡ true → b ≡ false → X
    never e f = cc

pub heads_set : (lanes : List LaneView) (place : ℕ) (lane : LaneView) → lane.head ≡ (get_or lanes place no_lane).head → heads_of (set lanes place lane) ≡ heads_of lanes
heads_set [] place lane e = refl
heads_set (l ∷ ls) zero lane e = ap (λ (h : HeadView). h ∷ heads_of ls) e
heads_set (l ∷ ls) (suc k) lane e = ap (λ (hs : List HeadView). l.head ∷ hs) (heads_set ls k lane e)

-- tokens were taken into a column, and then all rows were written that have a token of each
module _ (p q r : TableView) (place : ℕ) (within : place < length p.lanes) (tokens : List Token)
    (others : q ≡ record p { lanes = set p.lanes place (lane_at q place) }) (takes : TakesIn (lane_at p place) (lane_at q place) tokens) (x : RowsGo q r (shortest q.lanes)) where
  abbrev n : ℕ
  n = shortest q.lanes

  lanes_are : q.lanes ≡ set p.lanes place (lane_at q place)
  lanes_are = ap (λ (t : TableView). t.lanes) others

  heads_are : heads_of q.lanes ≡ heads_of p.lanes
  heads_are = ap (λ (l : List LaneView). heads_of l) lanes_are ∙ heads_set p.lanes place (lane_at q place) takes.head

  here : WritesLane [] place (lane_at p place) (lane_at q place) tokens
  here = record { waiting = sym takes.waiting; misfit = takes.misfit; counted = takes.counted; clipped = takes.clipped }

  taken : (i : ℕ) → WritesLane [] i (lane_at p i) (lane_at q i) (only_at place tokens i)
  taken i = ⊎_elim
      (λ (e : i ≡ place).
      let all : only_at place tokens i ≡ tokens = ap (λ b. cond b tokens []) (eq-eqb i place e) in
      subst (λ (l : List Token). WritesLane [] i (lane_at p i) (lane_at q i) l) (sym all) (subst (λ k. WritesLane [] k (lane_at p k) (lane_at q k) tokens) (sym e) here))
      (λ ne.
      let none : only_at place tokens i ≡ [] = ap (λ b. cond b tokens []) (ne_eqb i place ne) in
      let still : lane_at q i ≡ lane_at p i = ap (λ (l : List LaneView). get_or l i no_lane) lanes_are ∙ get_or-set_other p.lanes place i (lane_at q place) no_lane ne in
      subst (λ (l : List Token). WritesLane [] i (lane_at p i) (lane_at q i) l) (sym none) (subst (λ (l : LaneView). WritesLane [] i (lane_at p i) l []) (sym still) (writes_lane_none i (lane_at p i))))
      (cases_eq i place)

  gone : r.has_failed ≡ false → (i : ℕ) → WritesLane (rows n (columns_of q.lanes)) i (lane_at p i) (lane_at r i) (only_at place tokens i)
  gone e i =
      let now : lane_at r i ≡ get_or (past n q.lanes) i no_lane = ap (λ (l : List LaneView). get_or l i no_lane) (x.lanes e) in
      let before = taken i in
      let left : (lane_at q i).waiting ≡ column_in i (rows n (columns_of q.lanes)) ++ (lane_at r i).waiting = sym (column_past n q.lanes i) ∙ ap (λ (l : LaneView). column_in i (rows n (columns_of q.lanes)) ++ l.waiting) (sym now) in
      let misfit : (lane_at r i).is_misfit ≡ (lane_at q i).is_misfit = ap (λ (l : LaneView). l.is_misfit) now ∙ kept_past (λ l. l.is_misfit) (λ l. refl) n q.lanes i in
      let tokens_are : (lane_at r i).tokens ≡ (lane_at q i).tokens = ap (λ (l : LaneView). l.tokens) now ∙ kept_past (λ l. l.tokens) (λ l. refl) n q.lanes i in
      let clipped_are : (lane_at r i).clipped ≡ (lane_at q i).clipped = ap (λ (l : LaneView). l.clipped) now ∙ kept_past (λ l. l.clipped) (λ l. refl) n q.lanes i in
      record {
        waiting = before.waiting ∙ left;
        misfit = misfit ∙ before.misfit;
        counted = subst (λ m. CountsOn (lane_at p i).tokens m (length (written_of (lane_at p i).head.layout (lane_at p i).is_misfit (only_at place tokens i)))) (sym tokens_are) before.counted;
        clipped = subst (λ m. CountsOn (lane_at p i).clipped m (clipped_of (lane_at p i).head.layout (lane_at p i).is_misfit (only_at place tokens i))) (sym clipped_are) before.clipped;
      }

  pub writes_taken : WritesTable p r (only_at place tokens)
  writes_taken =
      let same_table : q.table ≡ p.table = ap (λ (t : TableView). t.table) others in
      let contents : q.contents ≡ p.contents = ap (λ (t : TableView). t.contents) others in
      record {
        table = x.table ∙ same_table;
        heads = x.heads ∙ heads_are;
        unfailed = λ e. sym (ap (λ (t : TableView). t.has_failed) others) ∙ x.unfailed e;
        rows = rows n (columns_of q.lanes);
        full = subst (λ l. AllByRecursion (IsFullRow l) (rows n (columns_of q.lanes))) heads_are (full_rows n q.lanes (omega arith));
        written = λ e. subst (λ (o : Option (List ℕ)). Appends o r.contents (rows_text p.table n (columns_of q.lanes))) contents (subst (λ (t : Table). Appends q.contents r.contents (rows_text t n (columns_of q.lanes))) same_table (x.written e));
        lanes = λ e i h. gone e i;
        whole = λ e h. let less = shortest_past n q.lanes in ap (λ (l : List LaneView). shortest l) (x.lanes e) ∙ omega (arith, less);
        held = λ h. x.held (subst (λ (l : List ℕ). length l ≤ 4096) (sym (ap (λ (t : TableView). t.waiting) others)) h);
      }

-- all that waits was written, and then written out
pub rows_flushed : (p q r : TableView) (n : ℕ) → RowsGo p q n → FlushesTable q r → RowsGo p r n
rows_flushed p q r n x y = record {
  table = y.table ∙ x.table;
  heads = ap (λ (l : List LaneView). heads_of l) y.lanes ∙ x.heads;
  unfailed = λ e. x.unfailed (y.unfailed e);
  written = λ e.
      let text = rows_text p.table n (columns_of p.lanes) in
      subst (λ (l : List ℕ). Appends p.contents r.contents l) (append-nil text) (Appends-trans p.contents q.contents r.contents text [] (x.written (y.unfailed e)) (y.written e));
  lanes = λ e. y.lanes ∙ x.lanes (y.unfailed e);
  held = λ h. y.held (x.held h);
}

-- memory was refused for tokens that were taken into a column
pub writes_refused : (p q r : TableView) (place : ℕ) (tokens : ℕ → List Token) → q ≡ record p { lanes = set p.lanes place (lane_at q place) } → (lane_at q place).head ≡ (lane_at p place).head
    → r ≡ record q { has_failed = true } → WritesTable p r tokens
writes_refused p q r place tokens others head failed =
    let heads : heads_of r.lanes ≡ heads_of p.lanes =
    ap (λ (t : TableView). heads_of t.lanes) failed ∙ ap (λ (t : TableView). heads_of t.lanes) others ∙ heads_set p.lanes place (lane_at q place) head in
    writes_failed p r tokens (ap (λ (t : TableView). t.table) failed ∙ ap (λ (t : TableView). t.table) others) heads (ap (λ (t : TableView). t.has_failed) failed)
    (λ h. subst (λ (l : List ℕ). length l ≤ 4096) (sym (ap (λ (t : TableView). t.waiting) failed ∙ ap (λ (t : TableView). t.waiting) others)) h)

pub ok_means : {X E : Type 0} (P : Type 0) (r : Result X E) → is_err r ≡ false → OnOk r P → P
ok_means P (Ok x) e h = h
ok_means P (Err x) e h = cc

-- no tokens for a column are none for each
pub only_none : (place i : ℕ) → only_at place [] i ≡ []
only_none place i = by (i == place)
  where
    by : (b : Bool) → (let none : List Token = [] in cond b none none ≡ none)
    by true = refl
    by false = refl
