-- Entries that are counted.
use Rattle.std.proofs.Common.{◌≡◌, ⊎_elim, List, [], ◌∷◌, ◌++◌, length, length-append, refl, sym, ap, ◌∙◌, arith, ℕ, ◌+◌, ◌-◌, ◌^◌, ◌<◌, ◌≤◌}
use Rattle.std.proofs.Math.Nat.{min-eq_left, min_comm}
use Rattle.std.proofs.lemmas.Bool.{cases_lt}
use Rattle.std.specs.Io.Iter.{u64_saturate}
use Rattle.kpn_model.specs.declared.history.Entry.{Entry}
use Rattle.kpn_model.specs.declared.history.Entry.TheVariants.{Did, Grew}
use Rattle.kpn_model.specs.History.{growths}
use Rattle.kpn_flow.specs.declared.counts.Counts.{Counts}
use Rattle.kpn_flow.specs.Events.{Event, Went, Fed, Drained, entries_of}
use Rattle.kpn_flow.specs.Flows.{counted}

pub growths_both : (E F : List Entry) → length (growths (E ++ F)) ≡ length (growths E) + length (growths F)
growths_both [] F = omega arith
growths_both (Did p d ∷ E) F = growths_both E F
growths_both (Grew c to ∷ E) F = let h = growths_both E F in omega arith

pub saturate_below : (n : ℕ) → n ≤ 2 ^ 64 - 1 → u64_saturate n ≡ n
saturate_below n h = min-eq_left h

saturate_above : (n : ℕ) → 2 ^ 64 - 1 ≤ n → u64_saturate n ≡ 2 ^ 64 - 1
saturate_above n h = min_comm n (2 ^ 64 - 1) ∙ min-eq_left h

-- what is saturated at once is what is saturated twice
pub saturate_twice : (a b : ℕ) → u64_saturate (u64_saturate a + b) ≡ u64_saturate (a + b)
saturate_twice a b =
    ⊎_elim
    (λ (below : a < 2 ^ 64 - 1). ap (λ n. u64_saturate (n + b)) (saturate_below a (omega arith)))
    (λ (above : 2 ^ 64 - 1 ≤ a).
    ap (λ n. u64_saturate (n + b)) (saturate_above a above) ∙ saturate_above (2 ^ 64 - 1 + b) (omega arith) ∙ sym (saturate_above (a + b) (omega arith)))
    (cases_lt a (2 ^ 64 - 1))

-- entries are counted one after another, or at once
pub counted_both : (n : Counts) (E F : List Entry) → counted (counted n E) F ≡ counted n (E ++ F)
counted_both n E F =
    let long : (n.entries + length E) + length F ≡ n.entries + length (E ++ F) = omega (arith, length-append E F) in
    let grown : (n.growths + length (growths E)) + length (growths F) ≡ n.growths + length (growths (E ++ F)) = omega (arith, growths_both E F) in
    ap (λ x. record { entries = x; growths = u64_saturate (u64_saturate (n.growths + length (growths E)) + length (growths F)) }) (saturate_twice (n.entries + length E) (length F) ∙ ap u64_saturate long)
    ∙ ap (λ x. record { entries = u64_saturate (n.entries + length (E ++ F)); growths = x }) (saturate_twice (n.growths + length (growths E)) (length (growths F)) ∙ ap u64_saturate grown)

-- entries are counted by their numbers
pub counted_as : (n m : Counts) (E : List Entry) (d g : ℕ) → length E ≡ d → length (growths E) ≡ g → m.entries ≡ u64_saturate (n.entries + d) → m.growths ≡ u64_saturate (n.growths + g) → m ≡ counted n E
counted_as n m E d g long grown entries grew =
    ap (λ x. record { entries = x; growths = m.growths }) (entries ∙ ap (λ x. u64_saturate (n.entries + x)) (sym long))
    ∙ ap (λ x. record { entries = u64_saturate (n.entries + length E); growths = x }) (grew ∙ ap (λ x. u64_saturate (n.growths + x)) (sym grown))

pub entries_both : (xs ys : List Event) → entries_of (xs ++ ys) ≡ entries_of xs ++ entries_of ys
entries_both [] ys = refl
entries_both (Went e ∷ xs) ys = ap (λ (l : List Entry). e ∷ l) (entries_both xs ys)
entries_both (Fed c t ∷ xs) ys = entries_both xs ys
entries_both (Drained c t ∷ xs) ys = entries_both xs ys
