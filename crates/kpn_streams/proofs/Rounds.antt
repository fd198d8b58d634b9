-- What kinds that go in rounds write.
use Rattle.std.proofs.Common.{◌≡◌, ◌∙◌, sym, ap, subst, ℕ, zero, suc, ◌+◌, ◌-◌, ◌<◌, ◌≤◌, nat_lt, ◌||◌, if◌then◌else◌, Bool, true, false, List, [], ◌∷◌, ◌++◌, Option, Some, None, refl, length, map, take, arith, ltb-true, lt-ltb, le-ltb}
use Rattle.std.specs.List.{range_with_len}
use Rattle.std.specs.Option.{option_map_or}
use Rattle.std.proofs.lemmas.Bool.{and_parts}
use Rattle.std.proofs.lemmas.List.{length-map}
use Rattle.std.proofs.lemmas.List.FromFn.{length-range_with_len}
use Rattle.kpn_model.specs.declared.token.Token.{Token}
use Rattle.kpn_model.specs.declared.token.Sort.{Sort}
use Rattle.kpn_model.specs.declared.kinds.Card.{Card}
use Rattle.kpn_model.specs.declared.kinds.Signature.{Signature}
use Rattle.kpn_model.specs.declared.kinds.Act.TheVariants.{Read, Write, Stop}
use Rattle.kpn_model.specs.declared.history.Status.TheVariants.{Live}
use Rattle.kpn_model.specs.Network.{Family}
use Rattle.kpn_standard.specs.Locals.{at, one, two, stays}
use Rattle.kpn_rounds.specs.declared.turns.TheConstants.{ONE_READ, TWO_READ, ONE_LEFT, TWO_LEFT}
use Rattle.kpn_rounds.specs.Steps.{count}
use Rattle.kpn_rounds.specs.Rounds.{number_of, token_at, latest, three_of, packed, held, is_narrow, is_wide, carried, with_inputs, with_outputs, read_in, left_in, write_answer, made_by, read_answer, next_answer, round_answer, rounds_family}
use Rattle.kpn_streams.specs.Fed.{nothing, put_first, WritesFrom}
use Rattle.kpn_streams.specs.Filters.{scanned}
use Rattle.kpn_streams.specs.Rounds.{side_by_side, columns, RoundsScan}
use Rattle.kpn_streams.proofs.Fed.{chosen, chosen_else, length-put_first, waits, reads, writes}

-- there are at most three ports
few_ports : (ports : List (Option Sort)) → count ports ≤ 3
few_ports (Some a ∷ Some b ∷ Some c ∷ ports) = omega arith
few_ports (Some a ∷ Some b ∷ None ∷ ports) = omega arith
few_ports (Some a ∷ Some b ∷ []) = omega arith
few_ports (Some a ∷ None ∷ ports) = omega arith
few_ports (Some a ∷ []) = omega arith
few_ports (None ∷ ports) = omega arith
few_ports [] = omega arith

-- what is kept and what is held, whatever the ports
abbrev carried_by : Bool → Bool → List ℕ → List ℕ
carried_by narrow wide kept = if narrow then kept else if wide then one (at kept 0) else two (at kept 0) (at kept 1)

abbrev held_by : Bool → ℕ → ℕ → List ℕ → List ℕ
held_by narrow one_held two_held local = if narrow then [] else held one_held two_held local

-- a local state with inputs keeps and holds what was put into it
packs_inputs :
    (narrow wide : Bool) (kept xs : List ℕ) → (narrow ≡ true → length xs < 1) → length xs < 3 → (1 < length xs → wide ≡ true)
    → let local = if narrow then kept else packed ONE_READ TWO_READ kept xs in
    (carried_by narrow wide local ≡ carried_by narrow wide kept) × (held_by narrow ONE_READ TWO_READ local ≡ xs) × (held_by narrow ONE_LEFT TWO_LEFT local ≡ [])
packs_inputs true wide kept [] none few room = (refl, refl, refl)
packs_inputs true wide kept (x ∷ xs) none few room = absurd (omega (arith, none refl))
packs_inputs false true kept [] none few room = (refl, refl, refl)
packs_inputs false false kept [] none few room = (refl, refl, refl)
packs_inputs false true kept (x ∷ []) none few room = (refl, refl, refl)
packs_inputs false false kept (x ∷ []) none few room = (refl, refl, refl)
packs_inputs false true kept (x ∷ y ∷ []) none few room = (refl, refl, refl)
packs_inputs false false kept (x ∷ y ∷ []) none few room = let wide = room (omega arith) in cc
packs_inputs false wide kept (x ∷ y ∷ z ∷ xs) none few room = absurd (omega arith)

-- and so does one with outputs
packs_outputs :
    (narrow wide : Bool) (kept ws : List ℕ) → (narrow ≡ true → length ws < 1) → length ws < 3 → (1 < length ws → wide ≡ true)
    → let local = if narrow then kept else packed ONE_LEFT TWO_LEFT kept ws in
    (carried_by narrow wide local ≡ carried_by narrow wide kept) × (held_by narrow ONE_READ TWO_READ local ≡ []) × (held_by narrow ONE_LEFT TWO_LEFT local ≡ ws)
packs_outputs true wide kept [] none few room = (refl, refl, refl)
packs_outputs true wide kept (x ∷ xs) none few room = absurd (omega (arith, none refl))
packs_outputs false true kept [] none few room = (refl, refl, refl)
packs_outputs false false kept [] none few room = (refl, refl, refl)
packs_outputs false true kept (x ∷ []) none few room = (refl, refl, refl)
packs_outputs false false kept (x ∷ []) none few room = (refl, refl, refl)
packs_outputs false true kept (x ∷ y ∷ []) none few room = (refl, refl, refl)
packs_outputs false false kept (x ∷ y ∷ []) none few room = let wide = room (omega arith) in cc
packs_outputs false wide kept (x ∷ y ∷ z ∷ xs) none few room = absurd (omega arith)

either_true : (a b : Bool) → b ≡ true → (a || b) ≡ true
either_true true b e = refl
either_true false b e = e

-- the outputs of a round, before what is on the outputs; the first is for output k
abbrev put_from : (ℕ → ℕ → Token) → ℕ → List ℕ → List (List Token) → List (List Token)
put_from token k [] outs = outs
put_from token k (w ∷ ws) outs = put_first (token k w) k (put_from token (suc k) ws outs)

length-put_from : (token : ℕ → ℕ → Token) (k : ℕ) (ws : List ℕ) (outs : List (List Token)) → length (put_from token k ws outs) ≡ length outs
length-put_from token k [] outs = refl
length-put_from token k (w ∷ ws) outs = length-put_first (token k w) k (put_from token (suc k) ws outs) ∙ length-put_from token (suc k) ws outs

-- the columns of n outputs
abbrev columns_by : (ℕ → ℕ → Token) → ℕ → List (List ℕ) → List (List Token)
columns_by token n made = map (λ k. map (λ ws. token k (at ws k)) made) (range_with_len 0 n)

-- the outputs of a round come first in the columns
row_first :
    (token : ℕ → ℕ → Token) (n : ℕ) → n ≤ 3 → (x y z : ℕ) (made : List (List ℕ))
    → put_from token 0 (take n (x ∷ y ∷ z ∷ [])) (columns_by token n made) ≡ columns_by token n (take n (x ∷ y ∷ z ∷ []) ∷ made)
row_first token zero few x y z made = refl
row_first token (suc zero) few x y z made = refl
row_first token (suc (suc zero)) few x y z made = refl
row_first token (suc (suc (suc zero))) few x y z made = refl
row_first token (suc (suc (suc (suc n)))) few x y z made = absurd (omega arith)

-- without rounds nothing is written
no_rounds : (token : ℕ → ℕ → Token) (n : ℕ) → n ≤ 3 → nothing (length (columns_by token n [])) ≡ columns_by token n []
no_rounds token zero few = refl
no_rounds token (suc zero) few = refl
no_rounds token (suc (suc zero)) few = refl
no_rounds token (suc (suc (suc zero))) few = refl
no_rounds token (suc (suc (suc (suc n)))) few = absurd (omega arith)

length-taken : (n x y z : ℕ) → n ≤ 3 → length (take n (x ∷ y ∷ z ∷ [])) ≡ n
length-taken zero x y z few = refl
length-taken (suc zero) x y z few = refl
length-taken (suc (suc zero)) x y z few = refl
length-taken (suc (suc (suc zero))) x y z few = refl
length-taken (suc (suc (suc (suc n)))) x y z few = absurd (omega arith)

length-columns_by : (token : ℕ → ℕ → Token) (n : ℕ) (made : List (List ℕ)) → length (columns_by token n made) ≡ n
length-columns_by token n made = length-map (range_with_len 0 n) (λ k. map (λ (ws : List ℕ). token k (at ws k)) made) ∙ length-range_with_len 0 n

module _ (s : Signature) where
  narrow_ports : is_narrow s ≡ true → (count s.ins < 2) × (count s.outs < 2)
  narrow_ports e =
      let both = and_parts (nat_lt (count s.ins) 2) (nat_lt (count s.outs) 2) e in
      (ltb-true (count s.ins) 2 both.0, ltb-true (count s.outs) 2 both.1)

  wide_ins : 2 < count s.ins → is_wide s ≡ true
  wide_ins more = ap (λ (b : Bool). b || nat_lt 2 (count s.outs)) (lt-ltb 2 (count s.ins) more)

  wide_outs : 2 < count s.outs → is_wide s ≡ true
  wide_outs more = either_true (nat_lt 2 (count s.ins)) (nat_lt 2 (count s.outs)) (lt-ltb 2 (count s.outs) more)

  -- a local state keeps what others do, and holds these inputs and outputs
  record Holds (local kept inputs outputs : List ℕ) : Type 0 where
    same_kept : carried s local ≡ carried s kept
    read : read_in s local ≡ inputs
    left : left_in s local ≡ outputs

  -- so does one that keeps the same
  holds_too : (local from kept inputs outputs : List ℕ) → carried s from ≡ carried s kept → Holds local from inputs outputs → Holds local kept inputs outputs
  holds_too local from kept inputs outputs same h = record { same_kept = h.same_kept ∙ same; read = h.read; left = h.left }

  holds_inputs : (kept xs : List ℕ) → length xs < count s.ins → Holds (with_inputs s kept xs) kept xs []
  holds_inputs kept xs more =
      let few = few_ports s.ins in
      let p = packs_inputs (is_narrow s) (is_wide s) kept xs (λ e. let two = narrow_ports e in omega (arith, two.0)) (omega arith) (λ many. wide_ins (omega arith)) in
      record { same_kept = p.0; read = p.1; left = p.2 }

  holds_outputs : (kept ws : List ℕ) → length ws ≤ count s.outs - 1 → Holds (with_outputs s kept ws) kept [] ws
  holds_outputs kept ws fewer =
      let few = few_ports s.outs in
      let p = packs_outputs (is_narrow s) (is_wide s) kept ws (λ e. let two = narrow_ports e in omega (arith, two.1)) (omega arith) (λ many. wide_outs (omega arith)) in
      record { same_kept = p.0; read = p.1; left = p.2 }

  module _ (kinds : Family) (card : Card) (step : List ℕ → List ℕ → List ℕ × List ℕ) (is : (local : List ℕ) (last : Option Token) → kinds.answer card local last ≡ round_answer s step local last) (some : 0 < count s.ins) where
    -- with no output left it reads, or steps
    answers :
        (local kept xs inputs : List ℕ) (last : Option Token) → Holds local kept xs [] → xs ++ latest last ≡ inputs
        → kinds.answer card local last ≡ read_answer s step local inputs
    answers local kept xs inputs last h e =
        is local last
        ∙ ap (λ (ws : List ℕ). next_answer s step local (read_in s local ++ latest last) ws) h.left
        ∙ ap (λ (ys : List ℕ). read_answer s step local (ys ++ latest last)) h.read
        ∙ ap (λ (ys : List ℕ). read_answer s step local ys) e

    reads_next :
        (local kept xs inputs : List ℕ) (last : Option Token) → Holds local kept xs [] → xs ++ latest last ≡ inputs → length inputs < count s.ins
        → kinds.answer card local last ≡ record { next = with_inputs s local inputs; act = Read (length inputs) }
    reads_next local kept xs inputs last h e more =
        answers local kept xs inputs last h e ∙ chosen (nat_lt (length inputs) (count s.ins)) _ _ (lt-ltb (length inputs) (count s.ins) more)

    -- and then it holds them
    read_holds : (local kept xs inputs : List ℕ) → Holds local kept xs [] → length inputs < count s.ins → Holds (with_inputs s local inputs) kept inputs []
    read_holds local kept xs inputs h more = holds_too (with_inputs s local inputs) local kept inputs [] h.same_kept (holds_inputs local inputs more)

    steps :
        (local kept xs inputs : List ℕ) (last : Option Token) → Holds local kept xs [] → xs ++ latest last ≡ inputs → count s.ins ≤ length inputs
        → kinds.answer card local last ≡ write_answer s (made_by s step kept inputs).0 (made_by s step kept inputs).1
    steps local kept xs inputs last h e all =
        answers local kept xs inputs last h e
        ∙ chosen_else (nat_lt (length inputs) (count s.ins)) _ _ (le-ltb (length inputs) (count s.ins) all)
        ∙ ap (λ (c : List ℕ). write_answer s (step c (three_of inputs)).0 (take (count s.outs) (three_of (step c (three_of inputs)).1))) h.same_kept

    -- it begins a round
    record Begins (local : List ℕ) (last : Option Token) (kept : List ℕ) : Type 0 where
      rest : List ℕ
      holds : Holds rest kept [] []
      answer : kinds.answer card local last ≡ record { next = rest; act = Read 0 }

    begins_at : (local kept : List ℕ) → Holds local kept [] [] → Begins local None kept
    begins_at local kept h =
        record { rest = with_inputs s local []; holds = read_holds local kept [] [] h some; answer = reads_next local kept [] [] None h refl some }

    module _ (kept : List ℕ) (ins outs : List (List Token)) (long : length outs ≡ count s.outs) (goes : (local : List ℕ) (last : Option Token) → Begins local last kept → WritesFrom kinds card (Live local last) ins outs) where
      -- writes one of them
      writes_next :
          (w : ℕ) (ws from local : List ℕ) (last : Option Token) (k : ℕ) → k + length (w ∷ ws) ≡ count s.outs → kinds.answer card local last ≡ write_answer s from (w ∷ ws)
          → WritesFrom kinds card (Live (with_outputs s from ws) None) ins (put_from (token_at s.outs) (suc k) ws outs)
          → WritesFrom kinds card (Live local last) ins (put_from (token_at s.outs) k (w ∷ ws) outs)
      writes_next w ws from local last k all answer after =
          let rest = put_from (token_at s.outs) (suc k) ws outs in
          let same = length-put_from (token_at s.outs) (suc k) ws outs in
          let port : count s.outs - length (w ∷ ws) ≡ k = omega arith in
          writes kinds card (with_outputs s from ws) rest k (token_at s.outs k w)
          (answer ∙ ap (λ (j : ℕ). record { next = with_outputs s from ws; act = Write j (token_at s.outs j w) }) port)
          refl (length-put_first (token_at s.outs k w) k rest) (lt-ltb k (length rest) (omega arith)) after

      -- writes the outputs that are left, then begins
      finishes :
          (ws from local : List ℕ) (last : Option Token) (k : ℕ) → carried s from ≡ carried s kept → k + length ws ≡ count s.outs
          → kinds.answer card local last ≡ write_answer s from ws → WritesFrom kinds card (Live local last) ins (put_from (token_at s.outs) k ws outs)
      finishes [] from local last k same all answer =
          goes local last
          (record {
            rest = with_outputs s from [];
            holds = holds_too (with_outputs s from []) from kept [] [] same (holds_outputs from [] (omega arith));
            answer = answer ∙ ap (λ (b : Bool). record { next = with_outputs s from []; act = if b then Read 0 else Stop }) (lt-ltb 0 (count s.ins) some);
          })
      finishes (w ∷ []) from local last k same all answer =
          writes_next w [] from local last k all answer
          (goes (with_outputs s from []) None
          (begins_at (with_outputs s from []) kept (holds_too (with_outputs s from []) from kept [] [] same (holds_outputs from [] (omega arith)))))
      finishes (w ∷ v ∷ vs) from local last k same all answer =
          let next = with_outputs s from (v ∷ vs) in
          let h = holds_outputs from (v ∷ vs) (omega arith) in
          writes_next w (v ∷ vs) from local last k all answer
          (finishes (v ∷ vs) next next None (suc k) (h.same_kept ∙ same) (omega arith)
          (is next None ∙ ap (λ (ws : List ℕ). next_answer s step next (read_in s next ++ []) ws) h.left))

    abbrev written : List ℕ → List (List ℕ) → List (List Token)
    written kept inputs = columns s (scanned (made_by s step) kept inputs)

    -- a whole round: after the inputs, the outputs, and what follows
    ends_round :
        (ins : List (List Token)) (more : List (List ℕ)) (local kept xs inputs : List ℕ) (last : Option Token) → Holds local kept xs [] → xs ++ latest last ≡ inputs
        → count s.ins ≤ length inputs
        → ((local : List ℕ) (last : Option Token) → Begins local last (made_by s step kept inputs).0 → WritesFrom kinds card (Live local last) ins (written (made_by s step kept inputs).0 more))
        → WritesFrom kinds card (Live local last) ins (written kept (inputs ∷ more))
    ends_round ins more local kept xs inputs last h e all goes =
        let made = (step (carried s kept) (three_of inputs)).1 in
        let next = (made_by s step kept inputs).0 in
        subst (λ (outs : List (List Token)). WritesFrom kinds card (Live local last) ins outs)
        (row_first (token_at s.outs) (count s.outs) (few_ports s.outs) (at made 0) (at made 1) (at made 2) (scanned (made_by s step) next more))
        (finishes next ins (written next more) (length-columns_by (token_at s.outs) (count s.outs) (scanned (made_by s step) next more)) goes
        (made_by s step kept inputs).1 next local last 0 refl (omega (arith, length-taken (count s.outs) (at made 0) (at made 1) (at made 2) (few_ports s.outs)))
        (steps local kept xs inputs last h e all))

    none : (kept : List ℕ) → nothing (length (written kept [])) ≡ written kept []
    none kept = no_rounds (token_at s.outs) (count s.outs) (few_ports s.outs)

    -- with one input
    one_input : count s.ins ≡ 1 → (ts : List Token) (kept local : List ℕ) (last : Option Token) → Begins local last kept → WritesFrom kinds card (Live local last) (ts ∷ []) (written kept (side_by_side (ts ∷ [])))
    one_input n [] kept local last b = waits kinds card b.rest 0 b.answer refl (none kept)
    one_input n (t ∷ ts) kept local last b =
        reads kinds card b.rest 0 t ts b.answer refl
        (ends_round (ts ∷ []) (side_by_side (ts ∷ [])) b.rest kept [] (number_of t ∷ []) (Some t) b.holds refl (omega arith)
        (λ local last b. one_input n ts (made_by s step kept (number_of t ∷ [])).0 local last b))

    -- with two
    two_inputs : count s.ins ≡ 2 → (ts us : List Token) (kept local : List ℕ) (last : Option Token) → Begins local last kept → WritesFrom kinds card (Live local last) (ts ∷ us ∷ []) (written kept (side_by_side (ts ∷ us ∷ [])))
    two_inputs n [] us kept local last b = waits kinds card b.rest 0 b.answer refl (none kept)
    two_inputs n (t ∷ ts) [] kept local last b =
        let x = number_of t ∷ [] in
        reads kinds card b.rest 0 t ts b.answer refl
        (waits kinds card (with_inputs s b.rest x) 1 (reads_next b.rest kept [] x (Some t) b.holds refl (omega arith)) refl (none kept))
    two_inputs n (t ∷ ts) (u ∷ us) kept local last b =
        let x = number_of t ∷ [] in
        reads kinds card b.rest 0 t ts b.answer refl
        (reads kinds card (with_inputs s b.rest x) 1 u us (reads_next b.rest kept [] x (Some t) b.holds refl (omega arith)) refl
        (ends_round (ts ∷ us ∷ []) (side_by_side (ts ∷ us ∷ [])) (with_inputs s b.rest x) kept x (number_of t ∷ number_of u ∷ []) (Some u)
        (read_holds b.rest kept [] x b.holds (omega arith)) refl (omega arith)
        (λ local last b. two_inputs n ts us (made_by s step kept (number_of t ∷ number_of u ∷ [])).0 local last b)))

    -- with three
    three_inputs :
        count s.ins ≡ 3 → (ts us vs : List Token) (kept local : List ℕ) (last : Option Token) → Begins local last kept
        → WritesFrom kinds card (Live local last) (ts ∷ us ∷ vs ∷ []) (written kept (side_by_side (ts ∷ us ∷ vs ∷ [])))
    three_inputs n [] us vs kept local last b = waits kinds card b.rest 0 b.answer refl (none kept)
    three_inputs n (t ∷ ts) [] vs kept local last b =
        let x = number_of t ∷ [] in
        reads kinds card b.rest 0 t ts b.answer refl
        (waits kinds card (with_inputs s b.rest x) 1 (reads_next b.rest kept [] x (Some t) b.holds refl (omega arith)) refl (none kept))
    three_inputs n (t ∷ ts) (u ∷ us) [] kept local last b =
        let x = number_of t ∷ [] in
        let xy = number_of t ∷ number_of u ∷ [] in
        let first = read_holds b.rest kept [] x b.holds (omega arith) in
        reads kinds card b.rest 0 t ts b.answer refl
        (reads kinds card (with_inputs s b.rest x) 1 u us (reads_next b.rest kept [] x (Some t) b.holds refl (omega arith)) refl
        (waits kinds card (with_inputs s (with_inputs s b.rest x) xy) 2 (reads_next (with_inputs s b.rest x) kept x xy (Some u) first refl (omega arith)) refl (none kept)))
    three_inputs n (t ∷ ts) (u ∷ us) (v ∷ vs) kept local last b =
        let x = number_of t ∷ [] in
        let xy = number_of t ∷ number_of u ∷ [] in
        let all = number_of t ∷ number_of u ∷ number_of v ∷ [] in
        let first = read_holds b.rest kept [] x b.holds (omega arith) in
        reads kinds card b.rest 0 t ts b.answer refl
        (reads kinds card (with_inputs s b.rest x) 1 u us (reads_next b.rest kept [] x (Some t) b.holds refl (omega arith)) refl
        (reads kinds card (with_inputs s (with_inputs s b.rest x) xy) 2 v vs (reads_next (with_inputs s b.rest x) kept x xy (Some u) first refl (omega arith)) refl
        (ends_round (ts ∷ us ∷ vs ∷ []) (side_by_side (ts ∷ us ∷ vs ∷ [])) (with_inputs s (with_inputs s b.rest x) xy) kept xy all (Some v)
        (read_holds (with_inputs s b.rest x) kept x xy first (omega arith)) refl (omega arith)
        (λ local last b. three_inputs n ts us vs (made_by s step kept all).0 local last b))))

    -- with any number of inputs
    goes : (ins : List (List Token)) (kept local : List ℕ) (last : Option Token) → length ins ≡ count s.ins → Begins local last kept → WritesFrom kinds card (Live local last) ins (written kept (side_by_side ins))
    goes [] kept local last same b = absurd (omega arith)
    goes (ts ∷ []) kept local last same b = one_input (sym same) ts kept local last b
    goes (ts ∷ us ∷ []) kept local last same b = two_inputs (sym same) ts us kept local last b
    goes (ts ∷ us ∷ vs ∷ []) kept local last same b = three_inputs (sym same) ts us vs kept local last b
    goes (ts ∷ us ∷ vs ∷ ws ∷ more) kept local last same b = let few = few_ports s.ins in absurd (omega arith)

-- kinds that go in rounds write what their steps make of the streams side by side
pub rounds_scan : (ports : Card → Option Signature) (start : Card → List ℕ) (step : Card → List ℕ → List ℕ → List ℕ × List ℕ) → RoundsScan ports start step
rounds_scan ports start step card s ins signed some same =
    let kinds = rounds_family ports start step in
    let first = with_inputs s (start card) [] in
    subst (λ (l : List ℕ). WritesFrom kinds card (Live l None) ins (columns s (scanned (made_by s (step card)) (start card) (side_by_side ins))))
    (sym (ap (λ (o : Option Signature). option_map_or (λ s. with_inputs s (start card) []) o (start card)) signed))
    (goes s kinds card (step card) (λ local last. ap (λ (o : Option Signature). option_map_or (λ s. round_answer s (step card) local last) o (stays local)) signed)
    (omega arith) ins (start card) first None same
    (begins_at s kinds card (step card) (λ local last. ap (λ (o : Option Signature). option_map_or (λ s. round_answer s (step card) local last) o (stays local)) signed)
    (omega arith) first (start card) (holds_inputs s (start card) [] (omega arith))))
