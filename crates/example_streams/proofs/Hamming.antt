-- Hamming's numbers, written by a network.
use Rattle.std.proofs.Common.{◌≡◌, ◌≤◌, ◌<◌, ℕ, zero, suc, List, [], ◌∷◌, length, refl, sym, ap, ◌∙◌, subst, arith, get_or, take, length-take, take_at}
use Rattle.std.proofs.lemmas.List.{get_or_past, take-map}
use Rattle.kpn_model.specs.declared.token.Token.{Token}
use Rattle.kpn_model.specs.declared.token.Token.TheVariants.{Word}
use Rattle.kpn_model.specs.declared.history.Entry.{Entry}
use Rattle.kpn_model.specs.declared.history.End.{End}
use Rattle.kpn_model.specs.Network.{Network, resized}
use Rattle.kpn_model.specs.Semantics.{State}
use Rattle.kpn_model.specs.Endings.{IsNatural, IsFinal}
use Rattle.kpn_model.specs.History.{stream, IsPrefixOf}
use Rattle.kpn_standard.specs.Standard.{standard}
use Rattle.kpn_laws.specs.Equations.{IsSolution}
use Rattle.kpn_streams.specs.Functions.{products, merged}
use Rattle.kpn_streams.specs.Solving.{as_streams, HasEquation, Approximates}
use Rattle.test_laws.specs.Building.{numbers}
use Rattle.example_streams.specs.Hamming.{AreFirstHamming, AreSmall, AreHamming, hamming, HammingInRun, HammingAtEnd}
use Rattle.example_streams.proofs.HammingLists.{times, next_of, none_first, next_first, take_first, products-first, all_through}
use Rattle.example_streams.proofs.Laws.{Laws}

module _ (laws : Laws) (n k : ℕ) where
  abbrev net : Network
  net = hamming n k

  -- what the equations make of these numbers on the channels
  abbrev lists : (ℕ → List ℕ) → List (List ℕ)
  lists X =
      (1 ∷ X 12)
      ∷ take n (X 0)
      ∷ X 1
      ∷ X 1
      ∷ X 3
      ∷ X 3
      ∷ X 5
      ∷ X 5
      ∷ products 2 (X 4)
      ∷ products 3 (X 6)
      ∷ products 5 (X 7)
      ∷ merged (X 9) (X 10)
      ∷ merged (X 8) (X 11)
      ∷ []

  abbrev step : (ℕ → List ℕ) → ℕ → List ℕ
  step X c = get_or (lists X) c []

  equations : (X : ℕ → List ℕ) (c : ℕ) → c < length net.channels → HasEquation standard net (λ b. numbers (X b)) c (numbers (step X c))
  equations X zero h = laws.equation net (λ b. numbers (X b)) 0 (numbers (step X 0)) 1 (numbers (1 ∷ X 12) ∷ []) refl (laws.prefix 1 (0 ∷ 0 ∷ []) (X 12)) refl
  equations X (suc zero) h = laws.equation net (λ b. numbers (X b)) 1 (numbers (step X 1)) 1 (numbers (take n (X 0)) ∷ []) refl (laws.take n (0 ∷ 0 ∷ []) (X 0)) refl
  equations X (suc (suc zero)) h = laws.equation net (λ b. numbers (X b)) 2 (numbers (step X 2)) 1 (numbers (X 1) ∷ numbers (X 1) ∷ []) refl (laws.copy (0 ∷ 0 ∷ 0 ∷ []) (X 1)) refl
  equations X (suc (suc (suc zero))) h = laws.equation net (λ b. numbers (X b)) 3 (numbers (step X 3)) 1 (numbers (X 1) ∷ numbers (X 1) ∷ []) refl (laws.copy (0 ∷ 0 ∷ 0 ∷ []) (X 1)) refl
  equations X (suc (suc (suc (suc zero)))) h = laws.equation net (λ b. numbers (X b)) 4 (numbers (step X 4)) 1 (numbers (X 3) ∷ numbers (X 3) ∷ []) refl (laws.copy (0 ∷ 0 ∷ 0 ∷ []) (X 3)) refl
  equations X (suc (suc (suc (suc (suc zero))))) h = laws.equation net (λ b. numbers (X b)) 5 (numbers (step X 5)) 1 (numbers (X 3) ∷ numbers (X 3) ∷ []) refl (laws.copy (0 ∷ 0 ∷ 0 ∷ []) (X 3)) refl
  equations X (suc (suc (suc (suc (suc (suc zero)))))) h = laws.equation net (λ b. numbers (X b)) 6 (numbers (step X 6)) 1 (numbers (X 5) ∷ numbers (X 5) ∷ []) refl (laws.copy (0 ∷ 0 ∷ 0 ∷ []) (X 5)) refl
  equations X (suc (suc (suc (suc (suc (suc (suc zero))))))) h = laws.equation net (λ b. numbers (X b)) 7 (numbers (step X 7)) 1 (numbers (X 5) ∷ numbers (X 5) ∷ []) refl (laws.copy (0 ∷ 0 ∷ 0 ∷ []) (X 5)) refl
  equations X (suc (suc (suc (suc (suc (suc (suc (suc zero)))))))) h = laws.equation net (λ b. numbers (X b)) 8 (numbers (step X 8)) 1 (numbers (products 2 (X 4)) ∷ []) refl (laws.scale 2 (0 ∷ 0 ∷ []) (X 4)) refl
  equations X (suc (suc (suc (suc (suc (suc (suc (suc (suc zero))))))))) h = laws.equation net (λ b. numbers (X b)) 9 (numbers (step X 9)) 1 (numbers (products 3 (X 6)) ∷ []) refl (laws.scale 3 (0 ∷ 0 ∷ []) (X 6)) refl
  equations X (suc (suc (suc (suc (suc (suc (suc (suc (suc (suc zero)))))))))) h = laws.equation net (λ b. numbers (X b)) 10 (numbers (step X 10)) 1 (numbers (products 5 (X 7)) ∷ []) refl (laws.scale 5 (0 ∷ 0 ∷ []) (X 7)) refl
  equations X (suc (suc (suc (suc (suc (suc (suc (suc (suc (suc (suc zero))))))))))) h = laws.equation net (λ b. numbers (X b)) 11 (numbers (step X 11)) 2 (numbers (merged (X 9) (X 10)) ∷ []) refl (laws.merge (0 ∷ 0 ∷ 0 ∷ []) (X 9) (X 10)) refl
  equations X (suc (suc (suc (suc (suc (suc (suc (suc (suc (suc (suc (suc zero)))))))))))) h = laws.equation net (λ b. numbers (X b)) 12 (numbers (step X 12)) 2 (numbers (merged (X 8) (X 11)) ∷ []) refl (laws.merge (0 ∷ 0 ∷ 0 ∷ []) (X 8) (X 11)) refl
  equations X (suc (suc (suc (suc (suc (suc (suc (suc (suc (suc (suc (suc (suc c))))))))))))) h = absurd (omega arith)

  -- the approximations
  abbrev approximation : ℕ → ℕ → List ℕ
  approximation zero c = []
  approximation (suc m) c = step (approximation m) c

  none_beyond : (m c : ℕ) → length net.channels ≤ c → numbers (approximation m c) ≡ []
  none_beyond zero c past = refl
  none_beyond (suc m) c past = let X = approximation m in ap (λ l. numbers l) (get_or_past (lists X) c [] past)

  approximates : Approximates standard net (λ m c. numbers (approximation m c))
  approximates = record { begins = λ c. refl; next = λ m c h. equations (approximation m) c h; beyond = none_beyond }

  -- first ones, as many as the gate lets through
  record IsGated (xs : List ℕ) : Type 0 where
    first : AreFirstHamming xs
    few : length xs ≤ n

  -- the multiples of first ones; and what is merged of them
  record IsMultiple (j : ℕ) (zs : List ℕ) : Type 0 where
    of : List ℕ
    first : AreFirstHamming of
    is : zs ≡ times j of

  record IsInner (zs : List ℕ) : Type 0 where
    threes : List ℕ
    fives : List ℕ
    first_threes : AreFirstHamming threes
    first_fives : AreFirstHamming fives
    is : zs ≡ merged (times 3 threes) (times 5 fives)

  record IsNext (zs : List ℕ) : Type 0 where
    twos : List ℕ
    threes : List ℕ
    fives : List ℕ
    first_twos : AreFirstHamming twos
    first_threes : AreFirstHamming threes
    first_fives : AreFirstHamming fives
    is : zs ≡ next_of twos threes fives

  -- what the channels have at each approximation
  record AreGood (X : ℕ → List ℕ) : Type 0 where
    at_gate : AreFirstHamming (X 0)
    gated : IsGated (X 1)
    out : IsGated (X 2)
    again : IsGated (X 3)
    to_two : IsGated (X 4)
    rest : IsGated (X 5)
    to_three : IsGated (X 6)
    to_five : IsGated (X 7)
    twos : IsMultiple 2 (X 8)
    threes : IsMultiple 3 (X 9)
    fives : IsMultiple 5 (X 10)
    both : IsInner (X 11)
    next : IsNext (X 12)

  no_number : IsGated []
  no_number = record { first = none_first; few = omega arith }

  -- of the first n of first ones
  through_gate : (xs : List ℕ) → AreFirstHamming xs → IsGated (take n xs)
  through_gate xs f = let l = length-take n xs in record { first = take_first n xs f; few = omega arith }

  module _ (small : AreSmall n) where
    multiples : (j : ℕ) → j ≤ 5 → (xs : List ℕ) → IsGated xs → IsMultiple j (products j xs)
    multiples j few xs g = record { of = xs; first = g.first; is = products-first n small j few xs g.first g.few }

    good_step : (X : ℕ → List ℕ) → AreGood X → AreGood (step X)
    good_step X g =
        let s = g.next in
        let t = g.threes in
        let f = g.fives in
        let d = g.twos in
        let b = g.both in
        record {
          at_gate = subst (λ l. AreFirstHamming (1 ∷ l)) (sym s.is) (next_first laws.union s.twos s.threes s.fives s.first_twos s.first_threes s.first_fives);
          gated = through_gate (X 0) g.at_gate;
          out = g.gated;
          again = g.gated;
          to_two = g.again;
          rest = g.again;
          to_three = g.rest;
          to_five = g.rest;
          twos = multiples 2 (omega arith) (X 4) g.to_two;
          threes = multiples 3 (omega arith) (X 6) g.to_three;
          fives = multiples 5 (omega arith) (X 7) g.to_five;
          both = record { threes = t.of; fives = f.of; first_threes = t.first; first_fives = f.first; is = ap (λ l. merged l (X 10)) t.is ∙ ap (λ l. merged (times 3 t.of) l) f.is };
          next = record {
            twos = d.of;
            threes = b.threes;
            fives = b.fives;
            first_twos = d.first;
            first_threes = b.first_threes;
            first_fives = b.first_fives;
            is = ap (λ l. merged l (X 11)) d.is ∙ ap (λ l. merged (times 2 d.of) l) b.is;
          };
        }

    good : (m : ℕ) → AreGood (approximation m)
    good zero =
        record {
          at_gate = none_first;
          gated = no_number;
          out = no_number;
          again = no_number;
          to_two = no_number;
          rest = no_number;
          to_three = no_number;
          to_five = no_number;
          twos = record { of = []; first = none_first; is = refl };
          threes = record { of = []; first = none_first; is = refl };
          fives = record { of = []; first = none_first; is = refl };
          both = record { threes = []; fives = []; first_threes = none_first; first_fives = none_first; is = refl };
          next = record { twos = []; threes = []; fives = []; first_twos = none_first; first_threes = none_first; first_fives = none_first; is = refl };
        }
    good (suc m) = good_step (approximation m) (good m)

-- a first part of numbers, as tokens, are the first of these numbers
first_part : (ts : List Token) (xs : List ℕ) → IsPrefixOf ts (numbers xs) → ts ≡ numbers (take (length ts) xs)
first_part ts xs front =
    sym (take_at ts front.0 (length ts) refl) ∙ ap (λ l. take (length ts) l) front.1 ∙ take-map (λ x. Word x) (length ts) xs

-- tokens tell the numbers
same_numbers : (xs ys : List ℕ) → numbers xs ≡ numbers ys → xs ≡ ys
same_numbers [] [] e = refl
same_numbers [] (y ∷ ys) e = cc
same_numbers (x ∷ xs) [] e = cc
same_numbers (x ∷ xs) (y ∷ ys) e =
    let first : x ≡ y = cc in
    let later : numbers xs ≡ numbers ys = cc in
    ap (λ l. x ∷ l) (same_numbers xs ys later) ∙ ap (λ z. z ∷ ys) first

-- whatever a run has written to the sink are first ones
pub hamming_in_run : Laws → HammingInRun
hamming_in_run laws n k small sizes E M run =
    let net = hamming n k in
    let x = laws.approximated net (λ m c. numbers (approximation laws n k m c)) sizes E M (approximates laws n k) run in
    let g = (good laws n k small x.0).out in
    let ts = stream net E 2 in
    let values = take (length ts) (approximation laws n k x.0 2) in
    let l = length-take (length ts) (approximation laws n k x.0 2) in
    let few = g.few in (
      length values,
      omega arith,
      record { values = values; are = first_part ts (approximation laws n k x.0 2) (x.1 2); first = take_first (length ts) (approximation laws n k x.0 2) g.first; so_many = refl },
    )

module _
    (laws : Laws)
    (n k : ℕ)
    (small : AreSmall n)
    (sizes : ℕ → ℕ)
    (E : List Entry)
    (M : State)
    (a : End)
    (final : IsFinal standard (resized (hamming n k) sizes) E M a)
    (natural : IsNatural a) where
  -- an approximation that begins with the streams of the run
  abbrev Known : Type 0
  Known = (m : ℕ) × ((c : ℕ) → IsPrefixOf (stream (hamming n k) E c) (numbers (approximation laws n k m c)))

  known : Known
  known = laws.approximated (hamming n k) (λ m c. numbers (approximation laws n k m c)) sizes E M (approximates laws n k) final.run

  -- the numbers that it has written
  abbrev shown : ℕ → List ℕ
  shown c = take (length (stream (hamming n k) E c)) (approximation laws n k known.0 c)

  are_shown : (c : ℕ) → stream (hamming n k) E c ≡ numbers (shown c)
  are_shown c = first_part (stream (hamming n k) E c) (approximation laws n k known.0 c) (known.1 c)

  -- they solve the equations
  shown_solve : IsSolution standard (hamming n k) (as_streams (λ c. numbers (shown c)))
  shown_solve =
      let least = laws.from_any (hamming n k) sizes E M a final natural in
      subst (λ (X : ℕ → List Token). IsSolution standard (hamming n k) (as_streams X)) (λ i c. are_shown c i) least.solution

  solved : (c : ℕ) → c < 13 → shown c ≡ step laws n k shown c
  solved c h =
      same_numbers (shown c) (step laws n k shown c)
      (laws.solves (hamming n k) (λ b. numbers (shown b)) c (numbers (step laws n k shown c)) shown_solve (equations laws n k shown c h))

  -- those through the gate are the first of 1 and their own multiples, merged
  round : shown 1 ≡ take n (1 ∷ merged (products 2 (shown 1)) (merged (products 3 (shown 1)) (products 5 (shown 1))))
  round =
      turn (shown 0) (shown 1) (shown 3) (shown 4) (shown 5) (shown 6) (shown 7) (shown 8) (shown 9) (shown 10) (shown 11) (shown 12)
      (solved 0 (omega arith)) (solved 1 (omega arith)) (solved 3 (omega arith)) (solved 4 (omega arith)) (solved 5 (omega arith)) (solved 6 (omega arith))
      (solved 7 (omega arith)) (solved 8 (omega arith)) (solved 9 (omega arith)) (solved 10 (omega arith)) (solved 11 (omega arith)) (solved 12 (omega arith))
    where
      turn :
          (x0 x1 x3 x4 x5 x6 x7 x8 x9 x10 x11 x12 : List ℕ) → x0 ≡ 1 ∷ x12 → x1 ≡ take n x0 → x3 ≡ x1 → x4 ≡ x3 → x5 ≡ x3 → x6 ≡ x5 → x7 ≡ x5
          → x8 ≡ products 2 x4 → x9 ≡ products 3 x6 → x10 ≡ products 5 x7 → x11 ≡ merged x9 x10 → x12 ≡ merged x8 x11
          → x1 ≡ take n (1 ∷ merged (products 2 x1) (merged (products 3 x1) (products 5 x1)))
      turn x0 x1 x3 x4 x5 x6 x7 x8 x9 x10 x11 x12 e0 e1 e3 e4 e5 e6 e7 e8 e9 e10 e11 e12 =
          let two : x8 ≡ products 2 x1 = e8 ∙ ap (λ l. products 2 l) (e4 ∙ e3) in
          let three : x9 ≡ products 3 x1 = e9 ∙ ap (λ l. products 3 l) (e6 ∙ e5 ∙ e3) in
          let five : x10 ≡ products 5 x1 = e10 ∙ ap (λ l. products 5 l) (e7 ∙ e5 ∙ e3) in
          let inner : x11 ≡ merged (products 3 x1) (products 5 x1) = e11 ∙ ap (λ l. merged l x10) three ∙ ap (λ l. merged (products 3 x1) l) five in
          let all : x12 ≡ merged (products 2 x1) (merged (products 3 x1) (products 5 x1)) = e12 ∙ ap (λ l. merged l x11) two ∙ ap (λ l. merged (products 2 x1) l) inner in
          e1 ∙ ap (λ l. take n l) (e0 ∙ ap (λ l. 1 ∷ l) all)

  gated : IsGated laws n k (shown 1)
  gated =
      let g = (good laws n k small known.0).gated in
      let l = length-take (length (stream (hamming n k) E 1)) (approximation laws n k known.0 1) in
      let few = g.few in
      record { first = take_first (length (stream (hamming n k) E 1)) (approximation laws n k known.0 1) g.first; few = omega arith }

  -- so all come through
  all_come : n ≤ length (shown 1)
  all_come =
      let g = gated in
      let xs = shown 1 in
      let f = g.first in
      let few = g.few in
      let two = products-first n small 2 (omega arith) xs f few in
      let three = products-first n small 3 (omega arith) xs f few in
      let five = products-first n small 5 (omega arith) xs f few in
      let same : merged (products 2 xs) (merged (products 3 xs) (products 5 xs)) ≡ next_of xs xs xs =
      ap (λ l. merged l (merged (products 3 xs) (products 5 xs))) two ∙ ap (λ l. merged (times 2 xs) (merged l (products 5 xs))) three
      ∙ ap (λ l. merged (times 2 xs) (merged (times 3 xs) l)) five in
      all_through laws.union n xs f (round ∙ ap (λ l. take n (1 ∷ l)) same)

  all_shown : AreHamming (stream (hamming n k) E 2) n
  all_shown =
      let g = gated in
      let few = g.few in
      let most = all_come in
      let same : shown 2 ≡ shown 1 = solved 2 (omega arith) in
      record { values = shown 1; are = are_shown 2 ∙ ap (λ l. numbers l) same; first = g.first; so_many = omega arith }

-- and at its own end all that the gate lets through
pub hamming_at_end : Laws → HammingAtEnd
hamming_at_end laws n k small sizes E M a final natural = all_shown laws n k small sizes E M a final natural
