-- Counts that stay at 2 ^ 64 - 1 once they are there.
use Rattle.std.proofs.Common.{◌≡◌, sym, ap, ◌∙◌, arith, ℕ, ◌+◌, ◌-◌, ◌^◌, ◌≤◌, subst, List, ◌++◌, length, length-append}
use Rattle.std.specs.Io.Iter.{u64_saturate}
use Rattle.kpn_model.specs.declared.token.Token.{Token}
use Rattle.kpn_flow.proofs.Counting.{saturate_below, saturate_twice}
use Rattle.hox_stream.specs.Ports.{CountsOn}

saturate_most : (n : ℕ) → u64_saturate n ≤ 2 ^ 64 - 1
saturate_most n = omega arith

pub counts_none : (n m : ℕ) → m ≡ n → CountsOn n m 0
counts_none n m e = λ h. let same : n + 0 ≡ n = omega arith in e ∙ sym (ap u64_saturate same ∙ saturate_below n h)

pub counts_as : (n m k : ℕ) → m ≡ u64_saturate (n + k) → CountsOn n m k
counts_as n m k e = λ h. e

pub counts_both : (a b c j k : ℕ) → CountsOn a b j → CountsOn b c k → CountsOn a c (j + k)
counts_both a b c j k x y = λ h.
    let e : b ≡ u64_saturate (a + j) = x h in
    let small : b ≤ 2 ^ 64 - 1 = subst (λ n. n ≤ 2 ^ 64 - 1) (sym e) (saturate_most (a + j)) in
    let same : (a + j) + k ≡ a + (j + k) = omega arith in
    y small ∙ ap (λ n. u64_saturate (n + k)) e ∙ saturate_twice (a + j) k ∙ ap u64_saturate same

pub counts_lists : (a b c : ℕ) (ts us : List Token) → CountsOn a b (length ts) → CountsOn b c (length us) → CountsOn a c (length (ts ++ us))
counts_lists a b c ts us x y = subst (λ n. CountsOn a c n) (sym (length-append ts us)) (counts_both a b c (length ts) (length us) x y)
