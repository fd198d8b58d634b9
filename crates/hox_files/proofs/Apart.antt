-- Uses of files, each two of which stand beside each other.
use Rattle.std.proofs.Common.{◌≡◌, ◌<◌, ◌≤◌, ◌+◌, ◌-◌, ℕ, Bool, List, length, drop, take, map, get_or, Option, inl, inr, sym, ap, subst, ◌∙◌, arith}
use Rattle.std.specs.List.{All, Contains}
use Rattle.std.proofs.lemmas.Bool.{cases_lt}
use Rattle.std.proofs.lemmas.List.{get_or-drop, length-drop, length-map, take_all}
use Rattle.kpn_net.proofs.SketchLists.{AllPairs-map}
use Rattle.hox_files.specs.declared.uses.Use.{Use}
use Rattle.hox_files.specs.Uses.{AreApart, Clashes, IsClash, StandApart, used}
use Rattle.hox_files.proofs.Zipped.{mapped_at, same_default}

-- what holds of the first ones and of the next
pub one_more :
    {X : Type 0} (P : X → Type 0) (xs : List X) (n : ℕ) → n < length xs → ((k : ℕ) (d : X) → k < n → P (get_or xs k d)) → (e : X) → P (get_or xs n e) → (k : ℕ) (d : X) → k < n + 1 → P (get_or xs k d)
one_more {X} P xs n within before e here k d h = elim (cases_lt k n) [
  | inl below ↦ before k d below
  | inr from ↦ let at : n ≡ k = omega (arith, h, from) in subst (λ i. P (get_or xs i d)) at (subst P (same_default xs n e d within) here)
]

-- the uses after one, as a slice of them
abbrev pub after : List Use → ℕ → List Use
after uses n = take (length uses - (n + 1)) (drop (n + 1) uses)

after_is : (uses : List Use) (n : ℕ) → after uses n ≡ drop (n + 1) uses
after_is uses n = take_all (length uses - (n + 1)) (drop (n + 1) uses) (omega (arith, length-drop (n + 1) uses))

module _ (clash : List ℕ → Bool → List ℕ → Bool → Option Bool) where
  -- each of the first ones stands beside each later one
  abbrev pub Below : List Use → ℕ → Type 0
  Below uses n = (i j : ℕ) (d : Use) → i < n → i < j → j < length uses → StandApart clash (used (get_or uses i d)) (used (get_or uses j d))

  pub apart_more : (uses : List Use) (n : ℕ) (e : Use) → n < length uses → Below uses n → All (λ other. StandApart clash (used (get_or uses n e)) (used other)) (after uses n) → Below uses (n + 1)
  apart_more uses n e within before all i j d h order last = elim (cases_lt i n) [
    | inl below ↦ before i j d below order last
    | inr from ↦
        let rest = subst (All (λ other. StandApart clash (used (get_or uses n e)) (used other))) (after_is uses n) all in
        let here : n ≡ i = omega (arith, h, from) in
        let inside : j - (n + 1) < length (drop (n + 1) uses) = omega (arith, length-drop (n + 1) uses, order, last, here, within) in
        let place : n + 1 + (j - (n + 1)) ≡ j = omega (arith, order, here) in
        let one : get_or uses n e ≡ get_or uses i d = same_default uses n e d within ∙ ap (λ k. get_or uses k d) here in
        let other : get_or (drop (n + 1) uses) (j - (n + 1)) d ≡ get_or uses j d = get_or-drop (n + 1) uses (j - (n + 1)) d ∙ ap (λ k. get_or uses k d) place in
        subst (λ u. StandApart clash (used u) (used (get_or uses j d))) one (subst (λ u. StandApart clash (used (get_or uses n e)) (used u)) other (rest (j - (n + 1)) d inside))
  ]

  pub all_apart : (uses : List Use) (n : ℕ) → length uses ≤ n → Below uses n → AreApart clash (map used uses)
  all_apart uses n past all = AllPairs-map used (StandApart clash) uses (λ i j d order last. all i j d (omega (arith, order, last, past)) order last)

  clash_at : (uses : List Use) (n : ℕ) (e other : Use) → n < length uses → Contains (drop (n + 1) uses) other → Clashes clash (used (get_or uses n e)) (used other) → IsClash clash (map used uses) (used (get_or uses n e)) (used other)
  clash_at uses n e other within (k, inside, is) clashes =
      let one : Use = get_or uses n e in
      record {
        first = n;
        later = n + 1 + k;
        order = omega arith;
        within = omega (arith, length-map uses used, length-drop (n + 1) uses, inside);
        one_is = mapped_at used uses n one ∙ ap used (same_default uses n one e within);
        other_is = mapped_at used uses (n + 1 + k) other ∙ ap used (sym (get_or-drop (n + 1) uses k other) ∙ is);
        clashing = clashes;
      }

  -- one that clashes with a later one
  pub is_clash : (uses : List Use) (n : ℕ) (e other : Use) → n < length uses → Contains (after uses n) other → Clashes clash (used (get_or uses n e)) (used other) → IsClash clash (map used uses) (used (get_or uses n e)) (used other)
  is_clash uses n e other within has clashes = clash_at uses n e other within (subst (λ l. Contains l other) (after_is uses n) has) clashes
