-- One sink after another is flushed.
use Rattle.std.proofs.Common.{◌≡◌, ◌<◌, ◌≤◌, ◌+◌, ⊎_elim, Option, Some, None, IfSome, ℕ, true, false, List, [], length, length-set, set, refl, sym, ap, ◌∙◌, subst, arith, Result, Ok, Err, IfErr, is_err}
use Rattle.std.proofs.lemmas.Bool.{cases_eq}
use Rattle.std.proofs.lemmas.List.{get_or-set_same, get_or-set_other}
use Rattle.kpn_model.specs.Network.{Family}
use Rattle.kpn_flow.specs.Flows.{FlowView}
use Rattle.hox_stream.specs.Ports.{Writes}
use Rattle.hox_stream.specs.Streams.{AllFaultsStay, AllTablesStay, FaultsStay, Streams, TableStays, outlet_at, table_at}
use Rattle.hox_stream.specs.Tables.{EndsTable, FlushesTable}
use Rattle.hox_stream.specs.Views.{InletView, OutletView, TableView, no_outlet, no_table, outs}
use Rattle.hox_stream.proofs.Streamed.{streams_both, streams_flushed, streams_none, streams_table_flushed}

abbrev pub IsFailedAt : List OutletView → ℕ → Type 0
IsFailedAt outs k = (k < length outs) × ((outlet_at outs k).has_failed ≡ true)

-- the first n sinks were flushed, and one of them has failed if one is named
pub record Flushes (sinks after : List OutletView) (n : ℕ) (failed : Option ℕ) : Type 0 where
  pub streams : (kinds : Family) (s : FlowView) (ins : List InletView) (tables : List TableView) → Streams kinds s s ins ins (outs sinks tables) (outs after tables)
  pub written : (k : ℕ) → k < n → (outlet_at after k).has_failed ≡ false → (outlet_at after k).waiting ≡ []
  pub still : AllFaultsStay sinks after
  pub failed_at : IfSome failed (IsFailedAt after)

pub flushes_none : (sinks : List OutletView) → Flushes sinks sinks 0 None
flushes_none sinks = record {
  streams = λ kinds s ins tables. streams_none kinds s s ins (outs sinks tables) refl;
  written = λ k h. absurd (omega (arith, h));
  still = (refl, λ k. record { failed = λ e. e; misfit = refl });
  failed_at = tt;
}

both_stay : {p q r : OutletView} → FaultsStay p q → FaultsStay q r → FaultsStay p r
both_stay x y = record { failed = λ e. y.failed (x.failed e); misfit = y.misfit ∙ x.misfit }

-- what holds of the sink that was put there, and of the others, holds of each
at_set : (P : OutletView → Type 0) (sinks : List OutletView) (n k : ℕ) (q : OutletView) → n < length sinks → (k ≡ n → P q) → ((k ≡ n → ⊥) → P (outlet_at sinks k)) → P (outlet_at (set sinks n q) k)
at_set P sinks n k q within here there = ⊎_elim
    (λ (e : k ≡ n). subst P (sym (ap (λ i. outlet_at (set sinks n q) i) e ∙ get_or-set_same sinks n q no_outlet within)) (here e))
    (λ ne. subst P (sym (get_or-set_other sinks n k q no_outlet ne)) (there ne))
    (cases_eq k n)

module _ (sinks after : List OutletView) (n : ℕ) (p q : OutletView) (within : n < length after) (at : p ≡ outlet_at after n) (writes : Writes p q []) (written : q.has_failed ≡ false → q.waiting ≡ []) (still : FaultsStay p q) where
  faults_stay : (k : ℕ) → FaultsStay (outlet_at after k) (outlet_at (set after n q) k)
  faults_stay k = at_set (λ o. FaultsStay (outlet_at after k) o) after n k q within
      (λ e. subst (λ (o : OutletView). FaultsStay o q) (at ∙ ap (λ i. outlet_at after i) (sym e)) still)
      (λ ne. record { failed = λ e. e; misfit = refl })

  failed_there : (failed : Option ℕ) → IfSome failed (IsFailedAt after) → IfSome failed (IsFailedAt (set after n q))
  failed_there None h = tt
  failed_there (Some k) h = (subst (λ m. k < m) (sym (length-set after n q)) h.0, (faults_stay k).failed h.1)

  flushes_more : (before failed : Option ℕ) → Flushes sinks after n before → IfSome failed (IsFailedAt (set after n q)) → Flushes sinks (set after n q) (n + 1) failed
  flushes_more before failed x there = record {
    streams = λ kinds s ins tables. streams_both kinds s s s ins ins ins (outs sinks tables) (outs after tables) (outs (set after n q) tables) (x.streams kinds s ins tables) (streams_flushed kinds s ins after tables n p q within at writes);
    written = λ k h. at_set (λ o. o.has_failed ≡ false → o.waiting ≡ []) after n k q within (λ e. written) (λ ne. x.written k (omega (arith, h, ne)));
    still = (length-set after n q ∙ x.still.0, λ k. both_stay (x.still.1 k) (faults_stay k));
    failed_at = there;
  }

  -- the next sink was flushed
  pub flushes_next : (failed : Option ℕ) → Flushes sinks after n failed → Flushes sinks (set after n q) (n + 1) failed
  flushes_next failed x = flushes_more failed failed x (failed_there failed x.failed_at)

  -- the next sink can't be written
  pub flushes_failed : (failed : Option ℕ) → q.has_failed ≡ true → Flushes sinks after n failed → Flushes sinks (set after n q) (n + 1) (Some n)
  flushes_failed failed e x =
      let long : n < length (set after n q) = subst (λ m. n < m) (sym (length-set after n q)) within in
      flushes_more failed (Some n) x (long, at_set (λ o. o.has_failed ≡ true) after n n q within (λ same. e) (λ ne. absurd (ne refl)))

-- what an error would mean
pub err_means : {X E : Type 0} (P : Type 0) (r : Result X E) → is_err r ≡ true → IfErr r (λ _. P) → P
err_means P (Ok x) e h = cc
err_means P (Err x) e h = h

-- ---- files of several channels

abbrev pub IsTableFailedAt : List TableView → ℕ → Type 0
IsTableFailedAt tables k = (k < length tables) × ((table_at tables k).has_failed ≡ true)

-- the first n tables were flushed, and one of them has failed if one is named
pub record FlushesTables (tables after : List TableView) (n : ℕ) (failed : Option ℕ) : Type 0 where
  pub streams : (kinds : Family) (s : FlowView) (ins : List InletView) (sinks : List OutletView) → Streams kinds s s ins ins (outs sinks tables) (outs sinks after)
  pub written : (k : ℕ) → k < n → (table_at after k).has_failed ≡ false → (table_at after k).waiting ≡ []
  pub still : AllTablesStay tables after
  pub failed_at : IfSome failed (IsTableFailedAt after)

pub tables_none : (tables : List TableView) → FlushesTables tables tables 0 None
tables_none tables = record {
  streams = λ kinds s ins sinks. streams_none kinds s s ins (outs sinks tables) refl;
  written = λ k h. absurd (omega (arith, h));
  still = (refl, λ k. record { failed = λ e. e; lanes = refl });
  failed_at = tt;
}

table_at_set : (P : TableView → Type 0) (tables : List TableView) (n k : ℕ) (q : TableView) → n < length tables → (k ≡ n → P q) → ((k ≡ n → ⊥) → P (table_at tables k)) → P (table_at (set tables n q) k)
table_at_set P tables n k q within here there = ⊎_elim
    (λ (e : k ≡ n). subst P (sym (ap (λ i. table_at (set tables n q) i) e ∙ get_or-set_same tables n q no_table within)) (here e))
    (λ ne. subst P (sym (get_or-set_other tables n k q no_table ne)) (there ne))
    (cases_eq k n)

module _ (tables after : List TableView) (n : ℕ) (p q : TableView) (within : n < length after) (at : p ≡ table_at after n) (flushes : FlushesTable p q) where
  tables_stay : (k : ℕ) → TableStays (table_at after k) (table_at (set after n q) k)
  tables_stay k = table_at_set (λ o. TableStays (table_at after k) o) after n k q within
      (λ e. subst (λ (o : TableView). TableStays o q) (at ∙ ap (λ i. table_at after i) (sym e)) (record { failed = flushes.failed; lanes = flushes.lanes }))
      (λ ne. record { failed = λ e. e; lanes = refl })

  table_failed_there : (failed : Option ℕ) → IfSome failed (IsTableFailedAt after) → IfSome failed (IsTableFailedAt (set after n q))
  table_failed_there None h = tt
  table_failed_there (Some k) h = (subst (λ m. k < m) (sym (length-set after n q)) h.0, (tables_stay k).failed h.1)

  tables_more : (before failed : Option ℕ) → FlushesTables tables after n before → IfSome failed (IsTableFailedAt (set after n q)) → FlushesTables tables (set after n q) (n + 1) failed
  tables_more before failed x there = record {
    streams = λ kinds s ins sinks. streams_both kinds s s s ins ins ins (outs sinks tables) (outs sinks after) (outs sinks (set after n q)) (x.streams kinds s ins sinks) (streams_table_flushed kinds s ins sinks after n p q within at flushes);
    written = λ k h. table_at_set (λ o. o.has_failed ≡ false → o.waiting ≡ []) after n k q within (λ e. flushes.emptied) (λ ne. x.written k (omega (arith, h, ne)));
    still = (length-set after n q ∙ x.still.0, λ k. record { failed = λ e. (tables_stay k).failed ((x.still.1 k).failed e); lanes = (tables_stay k).lanes ∙ (x.still.1 k).lanes });
    failed_at = there;
  }

  -- the next table was flushed
  pub tables_next : (failed : Option ℕ) → FlushesTables tables after n failed → FlushesTables tables (set after n q) (n + 1) failed
  tables_next failed x = tables_more failed failed x (table_failed_there failed x.failed_at)

  -- the next table can't be written
  pub tables_failed : (failed : Option ℕ) → q.has_failed ≡ true → FlushesTables tables after n failed → FlushesTables tables (set after n q) (n + 1) (Some n)
  tables_failed failed e x =
      let long : n < length (set after n q) = subst (λ m. n < m) (sym (length-set after n q)) within in
      tables_more failed (Some n) x (long, table_at_set (λ o. o.has_failed ≡ true) after n n q within (λ same. e) (λ ne. absurd (ne refl)))

-- the first n tables were ended, and one of them has failed if one is named
pub record EndsTables (tables after : List TableView) (n : ℕ) (failed : Option ℕ) : Type 0 where
  pub as_many : length after ≡ length tables
  pub ended : (k : ℕ) → k < n → EndsTable (table_at tables k) (table_at after k)
  pub left : (k : ℕ) → n ≤ k → table_at after k ≡ table_at tables k
  pub failed_at : IfSome failed (λ k. (k < n) × (n ≤ length after) × ((table_at after k).has_failed ≡ true))

pub ends_none : (tables : List TableView) → EndsTables tables tables 0 None
ends_none tables = record { as_many = refl; ended = λ k h. absurd (omega (arith, h)); left = λ k h. refl; failed_at = tt }

module _ (tables after : List TableView) (n : ℕ) (p q : TableView) (within : n < length after) (at : p ≡ table_at after n) (ends : EndsTable p q) where
  still_failed : (failed : Option ℕ) → IfSome failed (λ k. (k < n) × (n ≤ length after) × ((table_at after k).has_failed ≡ true))
      → IfSome failed (λ k. (k < n + 1) × (n + 1 ≤ length (set after n q)) × ((table_at (set after n q) k).has_failed ≡ true))
  still_failed None h = tt
  still_failed (Some k) h =
      let long = length-set after n q in
      (omega (arith, h.0), omega (arith, long, within), subst (λ (t : TableView). t.has_failed ≡ true) (sym (get_or-set_other after n k q no_table (λ e. absurd (omega (arith, h.0, e))))) h.2)

  ends_more : (before failed : Option ℕ) → EndsTables tables after n before → IfSome failed (λ k. (k < n + 1) × (n + 1 ≤ length (set after n q)) × ((table_at (set after n q) k).has_failed ≡ true))
      → EndsTables tables (set after n q) (n + 1) failed
  ends_more before failed x there = record {
    as_many = length-set after n q ∙ x.as_many;
    ended = λ k h. table_at_set (λ o. EndsTable (table_at tables k) o) after n k q within
        (λ e. subst (λ (o : TableView). EndsTable o q) (at ∙ x.left n (omega arith) ∙ ap (λ i. table_at tables i) (sym e)) ends)
        (λ ne. x.ended k (omega (arith, h, ne)));
    left = λ k h. get_or-set_other after n k q no_table (λ e. absurd (omega (arith, h, e))) ∙ x.left k (omega (arith, h));
    failed_at = there;
  }

  pub ends_next : (failed : Option ℕ) → EndsTables tables after n failed → EndsTables tables (set after n q) (n + 1) failed
  ends_next failed x = ends_more failed failed x (still_failed failed x.failed_at)

  pub ends_failed : (failed : Option ℕ) → q.has_failed ≡ true → EndsTables tables after n failed → EndsTables tables (set after n q) (n + 1) (Some n)
  ends_failed failed e x =
      let long = length-set after n q in
      ends_more failed (Some n) x (omega arith, omega (arith, long, within), table_at_set (λ o. o.has_failed ≡ true) after n n q within (λ same. e) (λ ne. absurd (ne refl)))
