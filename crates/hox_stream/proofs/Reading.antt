-- When a source is read.
use Rattle.std.proofs.Common.{◌≡◌, ◌<◌, ◌≤◌, ◌&&◌, ◌⊎◌, inl, inr, ⊎_elim, ℕ, Bool, true, false, not, List, Option, Some, None, IfSome, IfNone, is_some, length, set, refl, sym, ap, ◌∙◌, subst, arith}
use Rattle.std.specs.List.{list_any}
use Rattle.std.proofs.lemmas.Bool.{both_ways, cases_eq}
use Rattle.std.proofs.lemmas.List.{get_or-set_same, get_or-set_other}
use Rattle.std.proofs.lemmas.List.Folds.{list_any_at}
use Rattle.kpn_flow.specs.Flows.{FlowView}
use Rattle.kpn_tokens.specs.declared.layouts.Cut.{Cut}
use Rattle.kpn_tokens.specs.declared.layouts.Layout.{Layout}
use Rattle.kpn_tokens.specs.Records.{IsCut, IsEnded, IsWhole}
use Rattle.hox_stream.specs.Cutting.{has_record}
use Rattle.hox_stream.specs.Ports.{IsNotRead, IsRead, IsReadOnce, wants_more}
use Rattle.hox_stream.specs.Streams.{inlet_at, is_waited_for}
use Rattle.hox_stream.specs.Turns.{AreReadIfWanted, AreReadUnheld, ComesBefore, IsTurnOf}
use Rattle.hox_stream.specs.Views.{InletView, OutsView, no_inlet}
use Rattle.hox_stream.proofs.Pieces.{ended_has, unended_has}

wants_by : (over whole : Bool) → over ≡ false → whole ≡ false → (not over && not whole) ≡ true
wants_by true whole e f = cc
wants_by false true e f = cc
wants_by false false e f = refl

wants_not_by : (over whole : Bool) → (over ≡ true) ⊎ (whole ≡ true) → (not over && not whole) ≡ false
wants_not_by true whole h = refl
wants_not_by false true h = refl
wants_not_by false false (inl e) = cc
wants_not_by false false (inr e) = cc

-- what a search for the first record says
pub found_more : (layout : Layout) (bytes : List ℕ) (found : Option Cut) → IfSome found (IsCut layout bytes false) → IfNone found (IsEnded layout bytes → ⊥) → is_some found ≡ has_record layout bytes
found_more layout bytes None some none = sym (unended_has layout bytes none)
found_more layout bytes (Some cut) some none = sym (ended_has layout bytes (ended some.whole))
  where
    ended : IsWhole layout bytes false → IsEnded layout bytes
    ended (inl e) = cc
    ended (inr h) = h

pub wants_by_search : (over has none : Bool) → over ≡ false → has ≡ not none → none ≡ (not over && not has)
wants_by_search true has none e f = cc
wants_by_search false has true e f = sym (ap not f)
wants_by_search false has false e f = sym (ap not f)

-- where its first record is not there to its end, a source wants more if it is not over
pub wants : (p : InletView) → p.is_over ≡ false → (IsEnded p.layout p.kept → ⊥) → wants_more p ≡ true
wants p unended none = wants_by p.is_over (has_record p.layout p.kept) unended (unended_has p.layout p.kept none)

over_or_some : (p : InletView) → IsWhole p.layout p.kept p.is_over → (p.is_over ≡ true) ⊎ (has_record p.layout p.kept ≡ true)
over_or_some p (inl over) = inl over
over_or_some p (inr whole) = inr (ended_has p.layout p.kept whole)

-- where that is there it does not
pub wants_not : (p : InletView) → IsWhole p.layout p.kept p.is_over → wants_more p ≡ false
wants_not p whole = wants_not_by p.is_over (has_record p.layout p.kept) (over_or_some p whole)

pub over_wants_not : (p : InletView) → p.is_over ≡ true → wants_more p ≡ false
over_wants_not p over = wants_not p (inl over)

-- it can't both want more and not
pub never_wants : {A : Type 0} (p : InletView) → wants_more p ≡ false → wants_more p ≡ true → A
never_wants p e f = absurd (both_ways (wants_more p) e f)

-- a source that held no more than a record may have was read, if it was not left alone
pub read_on : (p q : InletView) → length p.kept ≤ 4096 → IsRead p q ⊎ (4096 < length q.kept) → IsRead p q
read_on p q few (inl read) = read
read_on p q few (inr more) = inl (omega (arith, few, more))

pub not_read_same : (p : InletView) → IsNotRead p p
not_read_same p = record { kept = omega arith; remaining = refl; is_over = refl }

pub not_read_both : (p q r : InletView) → IsNotRead p q → IsNotRead q r → IsNotRead p r
not_read_both p q r x y = record { kept = omega (arith, x.kept, y.kept); remaining = y.remaining ∙ x.remaining; is_over = y.is_over ∙ x.is_over }

module _ (ins : List InletView) (k : ℕ) (p q : InletView) (within : k < length ins) (at : p ≡ inlet_at ins k) where
  here : inlet_at (set ins k q) k ≡ q
  here = get_or-set_same ins k q no_inlet within

  pub others : (j : ℕ) → (j ≡ k → ⊥) → inlet_at (set ins k q) j ≡ inlet_at ins j
  others j ne = get_or-set_other ins k j q no_inlet ne

  -- what holds of the source that was there and the one that is there now
  there : (P : InletView → InletView → Type 0) → P p q → P (inlet_at ins k) (inlet_at (set ins k q) k)
  there P h = subst (λ (x : InletView). P (inlet_at ins k) x) (sym here) (subst (λ (x : InletView). P x q) at h)

  pub read_there : (wants_more p ≡ true → IsReadOnce p q) → wants_more (inlet_at ins k) ≡ true → IsReadOnce (inlet_at ins k) (inlet_at (set ins k q) k)
  read_there h = there (λ x y. wants_more x ≡ true → IsReadOnce x y) h

  pub only_there : (wants_more p ≡ false → IsNotRead p q) → AreReadIfWanted ins (set ins k q)
  only_there h j inside = ⊎_elim
      (λ (e : j ≡ k). subst (λ i. wants_more (inlet_at ins i) ≡ false → IsNotRead (inlet_at ins i) (inlet_at (set ins k q) i)) (sym e) (there (λ x y. wants_more x ≡ false → IsNotRead x y) h))
      (λ ne w. subst (λ (x : InletView). IsNotRead (inlet_at ins j) x) (sym (others j ne)) (not_read_same (inlet_at ins j)))
      (cases_eq j k)

-- if none of them wants more, the one there does not
none_wants : (ins : List InletView) → list_any wants_more ins ≡ false → (k : ℕ) → k < length ins → wants_more (inlet_at ins k) ≡ false
none_wants ins none k within = by (wants_more (inlet_at ins k)) refl
  where
    by : (b : Bool) → wants_more (inlet_at ins k) ≡ b → b ≡ false
    by true e = absurd (both_ways (list_any wants_more ins) none (list_any_at wants_more ins k no_inlet within e))
    by false e = refl

-- no source is read where none wants more
pub unheld : (ins after : List InletView) (outs : OutsView) → AreReadIfWanted ins after → list_any wants_more ins ≡ false → AreReadUnheld ins after outs
unheld ins after outs only none = inr (λ k within. only k within (none_wants ins none k within))

-- the first one from n on
pub turn_on : (s : FlowView) (ins : List InletView) (n k : ℕ) → k < length ins → is_waited_for s (inlet_at ins k) ≡ true → n ≤ k
    → ((j : ℕ) → j < k → n ≤ j → is_waited_for s (inlet_at ins j) ≡ false) → IsTurnOf s ins n k
turn_on s ins n k within waited on first = record { within = within; waited = waited; first = λ j inside before. ahead j before }
  where
    ahead : (j : ℕ) → ComesBefore n j k → is_waited_for s (inlet_at ins j) ≡ false
    ahead j (inl h) = first j h.1 h.0
    ahead j (inr h) = absurd (omega (arith, h.0, on))

-- the first one of all, where none is from n on
pub turn_round : (s : FlowView) (ins : List InletView) (n k : ℕ) → k < length ins → is_waited_for s (inlet_at ins k) ≡ true
    → ((j : ℕ) → j < length ins → n ≤ j → is_waited_for s (inlet_at ins j) ≡ false) → ((j : ℕ) → j < k → 0 ≤ j → is_waited_for s (inlet_at ins j) ≡ false) → IsTurnOf s ins n k
turn_round s ins n k within waited none first = record { within = within; waited = waited; first = λ j inside before. ahead j inside before }
  where
    ahead : (j : ℕ) → j < length ins → ComesBefore n j k → is_waited_for s (inlet_at ins j) ≡ false
    ahead j inside (inl h) = none j inside h.0
    ahead j inside (inr (after, inl h)) = none j inside h
    ahead j inside (inr (after, inr h)) = first j h (omega arith)
