-- A walk along the processes that wait to read visits no process twice.
use Rattle.std.proofs.Common.{◌≡◌, ◌↔◌, ◌≤◌, ◌<◌, ⊎_elim, ℕ, zero, suc, Bool, true, false, ◌||◌, List, [], ◌∷◌, length, Option, Some, None, refl, sym, ap, ◌∙◌, arith, subst, ne_eqb, option_and_then}
use Rattle.std.proofs.Math.Dec.{eqb}
use Rattle.std.specs.Option.{option_map_or}
use Rattle.std.specs.List.{AllByRecursion, IsDistinct, list_any}
use Rattle.std.proofs.lemmas.Bool.{cases_lt}
use Rattle.std.proofs.lemmas.Bool.Decides.{eqb_tells}
use Rattle.std.proofs.lemmas.List.{get_or_past}
use Rattle.std.proofs.lemmas.Map.Steps.{length-le_from_distinct_below}
use Rattle.kpn_model.specs.Network.{Network}
use Rattle.kpn_state.specs.declared.standing.Standing.{Standing}
use Rattle.kpn_state.specs.declared.standing.Standing.TheVariants.{Ready, Out, Parked, Stopped}
use Rattle.kpn_state.specs.Standings.{standing, has_stopped, parked_answer}
use Rattle.kpn_dry.specs.Told.{IsToldDry, awaited, is_told_dry, stopped, stops_within, waits, writer_read}

module _ (net : Network) (standings : List Standing) where
  -- after n waits a process has stopped
  abbrev DryAfter : ℕ → ℕ → Type 0
  DryAfter zero p = standing standings p ≡ Stopped
  DryAfter (suc n) p = (q : ℕ) × (awaited net standings p ≡ Some q) × DryAfter n q

  told_after : (p : ℕ) → IsToldDry net standings p → (n : ℕ) × DryAfter n p
  told_after p (stopped at) = (0, at)
  told_after p (waits q at dry) = let after = told_after q dry in (suc after.0, (q, at, after.1))

  -- a process that has stopped awaits none
  stopped_awaits_none : (p : ℕ) → standing standings p ≡ Stopped → awaited net standings p ≡ None
  stopped_awaits_none p at = ap (λ s. option_and_then (λ answer. writer_read net p answer.act) (parked_answer s)) at

  same_writer : (x y : ℕ) → Some x ≡ Some y → x ≡ y
  same_writer x y h = cc

  false_true : false ≡ true → ⊥
  false_true h = cc

  none_some : (x : ℕ) (o : Option ℕ) → o ≡ None → o ≡ Some x → ⊥
  none_some x o a b = cc

  -- the number of waits is one
  one_number : (a b p : ℕ) → DryAfter a p → DryAfter b p → a ≡ b
  one_number zero zero p x y = refl
  one_number zero (suc b) p x y = absurd (none_some y.0 _ (stopped_awaits_none p x) y.1)
  one_number (suc a) zero p x y = absurd (none_some x.0 _ (stopped_awaits_none p y) x.1)
  one_number (suc a) (suc b) p x y =
      let same : y.0 ≡ x.0 = same_writer y.0 x.0 (sym y.1 ∙ x.1) in
      ap suc (one_number a b x.0 x.2 (subst (DryAfter b) same y.2))

  -- a process that awaits one is among those with a standing
  within : (p q : ℕ) → awaited net standings p ≡ Some q → p < length standings
  within p q at =
      ⊎_elim (λ h. h) (λ past. absurd (none_some q _ (stopped_awaits_none p (get_or_past standings p Stopped past)) at)) (cases_lt p (length standings))

  -- the processes that wait on the way
  abbrev way : (n p : ℕ) → DryAfter n p → List ℕ
  way zero p after = []
  way (suc n) p after = p ∷ way n after.0 after.2

  way-length : (n p : ℕ) (after : DryAfter n p) → length (way n p after) ≡ n
  way-length zero p after = refl
  way-length (suc n) p after = ap suc (way-length n after.0 after.2)

  others : (n p : ℕ) (after : DryAfter n p) (m r : ℕ) → n < m → DryAfter m r → AllByRecursion (λ q. eqb r q ≡ false) (way n p after)
  others zero p after m r fewer there = tt
  others (suc n) p after m r fewer there = (
    ne_eqb r p (λ same. let number = one_number m (suc n) p (subst (DryAfter m) same there) after in omega arith),
    others n after.0 after.2 m r (omega arith) there,
  )

  distinct : (n p : ℕ) (after : DryAfter n p) → IsDistinct eqb (way n p after)
  unfolding IsDistinct
  distinct zero p after = tt
  distinct (suc n) p after = (others n after.0 after.2 (suc n) p (omega arith) after, distinct n after.0 after.2)

  all_within : (n p : ℕ) (after : DryAfter n p) (q : ℕ) → list_any (eqb q) (way n p after) ≡ true → q < length standings
  all_within zero p after q found = absurd (false_true found)
  all_within (suc n) p after q found =
      ⊎_elim
      (λ same. subst (λ x. x < length standings) (sym same.1) (within p after.0 after.1))
      (λ other. all_within n after.0 after.2 q (later (eqb q p) _ other.0 found))
      (eqb_tells q p)
    where
      later : (a b : Bool) → a ≡ false → (a || b) ≡ true → b ≡ true
      later false b h e = e
      later true b h e = cc

  -- so there are at most as many waits as processes
  few_waits : (n p : ℕ) → DryAfter n p → n ≤ length standings
  few_waits n p after =
      let few = length-le_from_distinct_below (way n p after) (length standings) (distinct n p after) (all_within n p after) in
      omega (arith, few, way-length n p after)

  -- a process that has stopped after n waits has done so within m, if m is not less
  stopped_in_time : (n m p : ℕ) → n ≤ m → DryAfter n p → stops_within net standings m p ≡ true
  stopped_in_time zero zero p few at = ap has_stopped at
  stopped_in_time zero (suc m) p few at = ap (λ o. option_map_or (λ q. stops_within net standings m q) o (has_stopped (standing standings p))) (stopped_awaits_none p at) ∙ ap has_stopped at
  stopped_in_time (suc n) (suc m) p few after =
      ap (λ o. option_map_or (λ q. stops_within net standings m q) o (has_stopped (standing standings p))) after.1 ∙ stopped_in_time n m after.0 (omega arith) after.2
  stopped_in_time (suc n) zero p few after = absurd (omega arith)

  by_standing : (s : Standing) → has_stopped s ≡ true → s ≡ Stopped
  by_standing Stopped is = refl
  by_standing Ready is = cc
  by_standing Out is = cc
  by_standing (Parked answer) is = cc

  -- and what has stopped within m waits is told dry
  told_in_time : (m p : ℕ) → stops_within net standings m p ≡ true → IsToldDry net standings p
  told_in_time zero p is = stopped (by_standing (standing standings p) is)
  told_in_time (suc m) p is = by_wait (λ q. told_in_time m q) (awaited net standings p) refl is
    where
      by_wait : ((q : ℕ) → stops_within net standings m q ≡ true → IsToldDry net standings q) → (o : Option ℕ) → awaited net standings p ≡ o
          → option_map_or (λ q. stops_within net standings m q) o (has_stopped (standing standings p)) ≡ true → IsToldDry net standings p
      by_wait before None at here = stopped (by_standing (standing standings p) here)
      by_wait before (Some q) at here = waits q at (before q here)

  -- the test decides
  pub told_exactly : (p : ℕ) → (is_told_dry net standings p ≡ true) ↔ IsToldDry net standings p
  told_exactly p = (told_in_time (length standings) p, λ dry. let after = told_after p dry in stopped_in_time after.0 (length standings) p (few_waits after.0 p after.1) after.1)

  -- one wait more
  pub next_wait : (n m p q : ℕ) → m ≡ suc n → awaited net standings p ≡ Some q → stops_within net standings n q ≡ stops_within net standings m p
  next_wait n m p q more at = rw (more, at) refl

  pub no_wait : (n p : ℕ) → awaited net standings p ≡ None → has_stopped (standing standings p) ≡ stops_within net standings n p
  no_wait zero p none = refl
  no_wait (suc n) p none = rw none refl
