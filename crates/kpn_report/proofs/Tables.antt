-- A list that is tabulated: what a change of one item or of none leaves, what bounds an item, and the list as a whole.
use Rattle.std.proofs.Common.{◌≡◌, ◌≢◌, ◌<◌, ◌≤◌, ⊎_elim, ℕ, List, get_or, set, map, ◌∙◌, arith, get_or-set_same, get_or-set_other, ◌+◌, ◌++◌, ◌∷◌, [], length, sym, ap}
use Rattle.std.proofs.lemmas.Bool.{cases_eq, cases_lt}
use Rattle.std.proofs.lemmas.List.{get_or_past, get_or_append_left}
use Rattle.std.proofs.lemmas.List.FromFn.{fill_by_all}
use Rattle.std.proofs.lemmas.Simd.{map-map}
use Rattle.std.specs.List.{range_with_len}
use Rattle.std.proofs.Math.ListN.{length-set}
use Rattle.std.proofs.Math.Seq.{get_or-append_seam}
use Rattle.kpn_report.specs.Tally.{Tabulates}

module _ {X : Type 0} (none : X) (n : ℕ) (f : ℕ → X) (xs : List X) (k : Tabulates none n f xs) where
  -- one item is set to what f' gives, and f' gives all others as f does
  pub changed : (f' : ℕ → X) (c : ℕ) (x : X) → (c < n → x ≡ f' c) → ((b : ℕ) → b ≢ c → f' b ≡ f b) → Tabulates none n f' (set xs c x)
  changed f' c x here others = record {
    count = length-set xs c x ∙ k.count;
    each = λ b l. ⊎_elim (λ (e : b ≡ c). rw e (get_or-set_same xs c x none (omega (arith, k.count)) ∙ here (omega arith))) (λ ne. rw (get_or-set_other xs c b x none ne, k.each b l, others b ne)) (cases_eq b c);
  }

  pub unchanged : (f' : ℕ → X) → ((b : ℕ) → f' b ≡ f b) → Tabulates none n f' xs
  unchanged f' same = record { count = k.count; each = λ b l. rw (k.each b l, same b) }

  -- what is at most m of each f i, and 0 past the end, is at most m of each item
  pub at_most : (g : X → ℕ) (m : ℕ) → g none ≡ 0 → ((i : ℕ) → g (f i) ≤ m) → (i : ℕ) → g (get_or xs i none) ≤ m
  at_most g m past within i = ⊎_elim (λ l. rw (k.each i l) (within i)) (λ out. rw (get_or_past xs i none (omega (arith, k.count))) (omega (arith, past))) (cases_lt i n)

  pub listed : xs ≡ map f (range_with_len 0 n)
  listed = fill_by_all f xs n none k.count k.each

  pub parts : {Y : Type 0} (g : X → Y) → map g xs ≡ map (λ i. g (f i)) (range_with_len 0 n)
  parts g = rw listed (map-map g f (range_with_len 0 n))

-- one item more, which is what f gives
pub one_more :
    {X : Type 0} (none : X) (f : ℕ → X) (n : ℕ) (xs : List X) (x : X) → length xs ≡ n → ((b : ℕ) → b < n → get_or xs b none ≡ f b) → x ≡ f n
    → (b : ℕ) → b < n + 1 → get_or (xs ++ x ∷ []) b none ≡ f b
one_more none f n xs x count each last b l =
    ⊎_elim (λ less. rw (get_or_append_left xs (x ∷ []) none b (omega (arith, count, less))) (each b less))
    (λ out.
    let here : b ≡ length xs = omega (arith, count, out, l) in
    rw (here, get_or-append_seam xs x [] none) (last ∙ ap f (sym count)))
    (cases_lt b n)
