-- The title of a kind of two joined families means that kind there, or is refused.
use Rattle.std.proofs.Common.{◌≡◌, ◌⊎◌, inl, inr, ℕ, ◌+◌, ◌-◌, ◌*◌, ◌/◌, ◌%◌, ◌^◌, ◌==◌, nat_lt, if◌then◌else◌, Bool, true, false, List, Option, Some, None, refl, sym, ap, subst, arith}
use Rattle.std.proofs.lemmas.Bool.Decides.{nat_tests}
use Rattle.kpn_model.specs.declared.kinds.Card.{Card}
use Rattle.kpn_model.specs.declared.kinds.Signature.{Signature}
use Rattle.kpn_compute.specs.declared.both.TheConstants.{NO_KIND}
use Rattle.kpn_compute.specs.Both.{both_named, both_ports, meant_by}
use Rattle.kpn_picture.specs.Titles.{MeansKind, both_title, below}

no_ports : (x : Bool) (o : Option Signature) → o ≡ None → (if x then None else o) ≡ None
no_ports true o e = refl
no_ports false o e = e

module _ (s t : Card → Option Signature) where
  -- a number that a family refuses is refused in both
  refused_first : (n : ℕ) (small : Bool) → ((args : List ℕ) → s (record { kind = n; args = args }) ≡ None) → (args : List ℕ) → both_ports s t (record { kind = if small then 2 * n + 0 else NO_KIND; args = args }) ≡ None
  refused_first n true refused args =
      let even : (2 * n + 0) % 2 ≡ 0 = omega arith in
      let half : (2 * n + 0) / 2 ≡ n = omega arith in
      no_ports ((2 * n + 0) == NO_KIND) _ (rw (even, half) (refused args))
  refused_first n false refused args = refl

  refused_second : (n : ℕ) (small : Bool) → ((args : List ℕ) → t (record { kind = n; args = args }) ≡ None) → (args : List ℕ) → both_ports s t (record { kind = if small then 2 * n + 1 else NO_KIND; args = args }) ≡ None
  refused_second n true refused args =
      let odd : (2 * n + 1) % 2 ≡ 1 = omega arith in
      let half : (2 * n + 1) / 2 ≡ n = omega arith in
      no_ports ((2 * n + 1) == NO_KIND) _ (rw (odd, half) (refused args))
  refused_second n false refused args = refl

  module _ (k arity : ℕ) where
    -- the kind has its place among the kinds of both, or its name is refused
    first_placed : k % 2 ≡ 0 → (small : Bool) → MeansKind (both_ports s t) (Some ((if small then 2 * (k / 2) + 0 else NO_KIND), arity)) (k, arity)
    first_placed even true = let back : 2 * (k / 2) + 0 ≡ k = omega arith in inl (ap (λ (n : ℕ). (n, arity)) back)
    first_placed even false = inr (λ args. refl)

    second_placed : k % 2 ≡ 1 → (small : Bool) → MeansKind (both_ports s t) (Some ((if small then 2 * (k / 2) + 1 else NO_KIND), arity)) (k, arity)
    second_placed odd true = let back : 2 * (k / 2) + 1 ≡ k = omega arith in inl (ap (λ (n : ℕ). (n, arity)) back)
    second_placed odd false = inr (λ args. refl)

    first_alone : k % 2 ≡ 0 → (own : ℕ × ℕ) → (own ≡ (k / 2, arity)) ⊎ ((args : List ℕ) → s (record { kind = own.0; args = args }) ≡ None) → MeansKind (both_ports s t) (meant_by (Some own) None) (k, arity)
    first_alone even own (inl same) = subst (λ (o : ℕ × ℕ). MeansKind (both_ports s t) (meant_by (Some o) None) (k, arity)) (sym same) (first_placed even (nat_lt (k / 2) (2 ^ 15 - 1)))
    first_alone even own (inr refused) = inr (refused_first own.0 (nat_lt own.0 (2 ^ 15 - 1)) refused)

    second_alone : k % 2 ≡ 1 → (own : ℕ × ℕ) → (own ≡ (k / 2, arity)) ⊎ ((args : List ℕ) → t (record { kind = own.0; args = args }) ≡ None) → MeansKind (both_ports s t) (meant_by None (Some own)) (k, arity)
    second_alone odd own (inl same) = subst (λ (o : ℕ × ℕ). MeansKind (both_ports s t) (meant_by None (Some o)) (k, arity)) (sym same) (second_placed odd (nat_lt (k / 2) (2 ^ 15 - 1)))
    second_alone odd own (inr refused) = inr (refused_second own.0 (nat_lt own.0 (2 ^ 15 - 1)) refused)

    first_means : k % 2 ≡ 0 → (a b : Option (ℕ × ℕ)) → MeansKind s a (k / 2, arity) → MeansKind (both_ports s t) (meant_by a b) (k, arity)
    first_means even None b is = absurd is
    first_means even (Some own) None is = first_alone even own is
    first_means even (Some own) (Some other) is = inr (λ args. refl)

    second_means : k % 2 ≡ 1 → (a b : Option (ℕ × ℕ)) → MeansKind t b (k / 2, arity) → MeansKind (both_ports s t) (meant_by a b) (k, arity)
    second_means odd a None is = absurd is
    second_means odd None (Some own) is = second_alone odd own is
    second_means odd (Some other) (Some own) is = inr (λ args. refl)

  -- the names in the titles of both mean their kinds, if none of the arguments is below 0
  module _ (f g : List ℕ → Option (ℕ × ℕ)) (u v : ℕ → List ℕ × ℕ) (card : Card) where
    pub first_named :
        (card.kind % 2 == 0) ≡ true → (below card (u (card.kind / 2)).1 ≡ 0 → MeansKind s (f (u (card.kind / 2)).0) (card.kind / 2, (u (card.kind / 2)).1))
        → below card (both_title u v card.kind).1 ≡ 0 → MeansKind (both_ports s t) (both_named f g (both_title u v card.kind).0) (card.kind, (both_title u v card.kind).1)
    first_named is_even is none =
        let even : card.kind % 2 ≡ 0 = grind (arith, nat_tests) in
        let own : below card (u (card.kind / 2)).1 ≡ 0 = rw is_even at none in
        rw is_even (first_means card.kind (u (card.kind / 2)).1 even (f (u (card.kind / 2)).0) (g (u (card.kind / 2)).0) (is own))

    pub second_named :
        (card.kind % 2 == 0) ≡ false → (below card (v (card.kind / 2)).1 ≡ 0 → MeansKind t (g (v (card.kind / 2)).0) (card.kind / 2, (v (card.kind / 2)).1))
        → below card (both_title u v card.kind).1 ≡ 0 → MeansKind (both_ports s t) (both_named f g (both_title u v card.kind).0) (card.kind, (both_title u v card.kind).1)
    second_named is_odd is none =
        let odd : card.kind % 2 ≡ 1 = grind (arith, nat_tests) in
        let own : below card (v (card.kind / 2)).1 ≡ 0 = rw is_odd at none in
        rw is_odd (second_means card.kind (v (card.kind / 2)).1 odd (f (v (card.kind / 2)).0) (g (v (card.kind / 2)).0) (is own))
