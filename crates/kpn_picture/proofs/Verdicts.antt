-- The verdict of the title is that of the model.
use Rattle.std.proofs.Common.{◌≡◌, ℕ, zero, suc, ◌<◌, Bool, true, false, nat_lt, List, length, Some, None, refl, sym, ap, subst, arith}
use Rattle.std.proofs.lemmas.Bool.Decides.{nat_tests}
use Rattle.kpn_model.specs.declared.history.Place.{Place}
use Rattle.kpn_model.specs.declared.history.End.{End}
use Rattle.kpn_model.specs.declared.history.End.TheVariants.{Terminated, Deadlock, Ceiling, Budget, Memory}
use Rattle.kpn_model.specs.declared.verdict.Verdict.{Verdict}
use Rattle.kpn_model.specs.declared.verdict.Verdict.TheVariants.{Finished, RanDry, Cycle, Cut, Full, Memory as OutOfMemory}
use Rattle.kpn_model.specs.Network.{Network}
use Rattle.kpn_model.specs.Waits.{is_on_cycle}
use Rattle.kpn_model.specs.Verdicts.{IsVerdict, IsVerdictOfDeadlock}
use Rattle.kpn_picture.specs.Caption.{first_on_cycle, verdict_at}

module _ (net : Network) (places : List Place) where
  -- if none of n processes is on a cycle, no first one is found
  none_first : (n : ℕ) → ((q : ℕ) → q < n → is_on_cycle net places q ≡ false) → first_on_cycle net places n ≡ None
  none_first zero none = refl
  none_first (suc n) none =
      let before = none_first n (λ q below. none q (omega arith)) in
      let here = none n (omega arith) in
      rw (before, here) refl

  -- the first one is found, whatever comes after it
  found_by :
      (n p : ℕ) (b : Bool) → nat_lt p n ≡ b → (p < n → first_on_cycle net places n ≡ Some p) → p < suc n → is_on_cycle net places p ≡ true → ((q : ℕ) → q < p → is_on_cycle net places q ≡ false)
      → first_on_cycle net places (suc n) ≡ Some p
  found_by n p true below earlier within on first = let lt : p < n = grind (arith, nat_tests) in rw (earlier lt) refl
  found_by n p false below earlier within on first =
      let same : p ≡ n = grind (arith, nat_tests) in
      let before = none_first n (λ q lt. first q (omega arith)) in
      let here = subst (λ (k : ℕ). is_on_cycle net places k ≡ true) same on in
      rw (before, here) (ap (λ (k : ℕ). Some k) (sym same))

  found : (n p : ℕ) → p < n → is_on_cycle net places p ≡ true → ((q : ℕ) → q < p → is_on_cycle net places q ≡ false) → first_on_cycle net places n ≡ Some p
  found zero p within on first = absurd (omega arith)
  found (suc n) p within on first = found_by n p (nat_lt p n) refl (λ below. found n p below on first) within on first

  of_deadlock : (v : Verdict) → IsVerdictOfDeadlock net places v → v ≡ verdict_at net places Deadlock
  of_deadlock RanDry none = rw (none_first (length net.processes) none) refl
  of_deadlock (Cycle p) is = rw (found (length net.processes) p is.within is.on_cycle is.first) refl
  of_deadlock Finished is = absurd is
  of_deadlock Cut is = absurd is
  of_deadlock Full is = absurd is
  of_deadlock OutOfMemory is = absurd is

  pub verdict_is : (end : End) (v : Verdict) → IsVerdict net places end v → v ≡ verdict_at net places end
  verdict_is Terminated v is = is
  verdict_is Deadlock v is = of_deadlock v is
  verdict_is Ceiling v is = is
  verdict_is Budget v is = is
  verdict_is Memory v is = is
