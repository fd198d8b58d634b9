-- A shape is read from its number as it was.
use Rattle.std.proofs.Common.{◌≡◌, ◌∙◌, ℕ, ◌+◌, ◌*◌, ◌/◌, ◌%◌, ◌^◌, zero, suc, ◌<◌, ◌≤◌, ◌==◌, nat_le, nat_lt, ◌&&◌, if◌then◌else◌, Bool, true, false, List, [], ◌∷◌, length, Option, Some, None, IsSome, option_map, refl, sym, ap, subst, arith, rules, eq-eqb, eqb-true, IsTrue}
use Rattle.std.proofs.Math.Nat.{mod-eq_of_lt, mod-lt, mod-le}
use Rattle.std.proofs.lemmas.Nat.{pow_pos}
use Rattle.std.proofs.lemmas.Bool.Decides.{nat_tests}
use Rattle.kpn_model.specs.declared.token.Sort.{Sort}
use Rattle.kpn_model.specs.declared.token.Sort.TheVariants.{Words, Flags}
use Rattle.kpn_model.specs.declared.kinds.Card.{Card}
use Rattle.kpn_model.specs.declared.kinds.Signature.{Signature}
use Rattle.kpn_model.specs.Lawful.{is_filled}
use Rattle.kpn_rounds.specs.Steps.{count}
use Rattle.kpn_formula.specs.declared.shape.Shape.{Shape}
use Rattle.kpn_formula.specs.Shapes.{flags, number_of, ports_of, states_of, inputs_of, outputs_of, shape_numbered, is_allowed, is_allowed_with, most_states, is_kind, has_digits, shape_of, ports}

record PortsRead (ports : List (Option Sort)) : Type 0 where
  pub same : ports_of (count ports) (flags ports) ≡ ports
  pub few : count ports < 4
  pub bits : flags ports < 8

sorts_read : (a b c : Sort) → PortsRead (Some a ∷ None ∷ None ∷ []) × PortsRead (Some a ∷ Some b ∷ None ∷ []) × PortsRead (Some a ∷ Some b ∷ Some c ∷ [])
sorts_read Words Words Words = (record { same = refl; few = omega arith; bits = omega arith }, record { same = refl; few = omega arith; bits = omega arith }, record { same = refl; few = omega arith; bits = omega arith })
sorts_read Words Words Flags = (record { same = refl; few = omega arith; bits = omega arith }, record { same = refl; few = omega arith; bits = omega arith }, record { same = refl; few = omega arith; bits = omega arith })
sorts_read Words Flags Words = (record { same = refl; few = omega arith; bits = omega arith }, record { same = refl; few = omega arith; bits = omega arith }, record { same = refl; few = omega arith; bits = omega arith })
sorts_read Words Flags Flags = (record { same = refl; few = omega arith; bits = omega arith }, record { same = refl; few = omega arith; bits = omega arith }, record { same = refl; few = omega arith; bits = omega arith })
sorts_read Flags Words Words = (record { same = refl; few = omega arith; bits = omega arith }, record { same = refl; few = omega arith; bits = omega arith }, record { same = refl; few = omega arith; bits = omega arith })
sorts_read Flags Words Flags = (record { same = refl; few = omega arith; bits = omega arith }, record { same = refl; few = omega arith; bits = omega arith }, record { same = refl; few = omega arith; bits = omega arith })
sorts_read Flags Flags Words = (record { same = refl; few = omega arith; bits = omega arith }, record { same = refl; few = omega arith; bits = omega arith }, record { same = refl; few = omega arith; bits = omega arith })
sorts_read Flags Flags Flags = (record { same = refl; few = omega arith; bits = omega arith }, record { same = refl; few = omega arith; bits = omega arith }, record { same = refl; few = omega arith; bits = omega arith })

ports_read : (ports : List (Option Sort)) → length ports ≡ 3 → is_filled ports ≡ true → PortsRead ports
ports_read [] long filled = absurd (omega (arith, long))
ports_read (_ ∷ []) long filled = absurd (omega (arith, long))
ports_read (_ ∷ _ ∷ []) long filled = absurd (omega (arith, long))
ports_read (_ ∷ _ ∷ _ ∷ _ ∷ _) long filled = absurd (omega (arith, long))
ports_read (None ∷ None ∷ None ∷ []) long filled = record { same = refl; few = omega arith; bits = omega arith }
ports_read (None ∷ None ∷ Some c ∷ []) long filled = cc
ports_read (None ∷ Some b ∷ None ∷ []) long filled = cc
ports_read (None ∷ Some b ∷ Some c ∷ []) long filled = cc
ports_read (Some a ∷ None ∷ None ∷ []) long filled = (sorts_read a Words Words).0
ports_read (Some a ∷ None ∷ Some c ∷ []) long filled = cc
ports_read (Some a ∷ Some b ∷ None ∷ []) long filled = (sorts_read a b Words).1
ports_read (Some a ∷ Some b ∷ Some c ∷ []) long filled = (sorts_read a b c).2

all_three : (a b c : Bool) → (a && b && c) ≡ true → (a ≡ true) × (b ≡ true) × (c ≡ true)
all_three true true true is = (refl, refl, refl)
all_three true true false is = cc
all_three true false c is = cc
all_three false b c is = cc

second : (a b c d : Bool) → (a && b && c && d) ≡ true → b ≡ true
second true true c d is = refl
second true false c d is = cc
second false b c d is = cc

both_true : (a b : Bool) → a ≡ true → b ≡ true → (a && b) ≡ true
both_true true true first last = refl
both_true true false first last = cc
both_true false b first last = cc

-- the parts of a number
record Parts (kind k n m f g : ℕ) : Type 0 where
  pub states : kind % 8 ≡ k
  pub inputs : kind / 8 % 4 ≡ n
  pub outputs : kind / 32 % 4 ≡ m
  pub in_flags : kind / 128 % 8 ≡ f
  pub out_flags : kind / 1024 % 8 ≡ g

parts : (k n m f g : ℕ) → k < 8 → n < 4 → m < 4 → f < 8 → g < 8 → Parts (k + 8 * (n + 4 * (m + 4 * (f + 8 * g)))) k n m f g
parts k n m f g k_small n_small m_small f_small g_small = record { states = omega arith; inputs = omega arith; outputs = omega arith; in_flags = omega arith; out_flags = omega arith }

within : (k m : ℕ) → nat_le (k + m) 5 ≡ true → k ≤ 5
within k m room = grind (arith, nat_tests)

few_states : (k n m : ℕ) → is_allowed_with k n m ≡ true → k ≤ 5
few_states k n m allowed = within k m (second (nat_lt 0 (n + m)) (nat_le (k + m) 5) (nat_le (k + m + n) 6) (nat_le k (most_states n m)) allowed)

same_shape : (s : Shape) → length s.ins ≡ 3 → length s.outs ≡ 3 → is_allowed s ≡ true → shape_numbered (number_of s) ≡ s
same_shape s ins outs allowed =
    let tests = all_three (is_filled s.ins) (is_filled s.outs) (is_allowed_with s.states (count s.ins) (count s.outs)) allowed in
    let read = ports_read s.ins ins tests.0 in
    let written = ports_read s.outs outs tests.1 in
    let few : s.states < 8 = omega (arith, few_states s.states (count s.ins) (count s.outs) tests.2) in
    let of = parts s.states (count s.ins) (count s.outs) (flags s.ins) (flags s.outs) few read.few written.few read.bits written.bits in
    rw (of.states, of.inputs, of.outputs, of.in_flags, of.out_flags, read.same, written.same) refl

kind_of : (kind : ℕ) (s : Shape) → kind ≡ number_of s → shape_numbered kind ≡ s → is_allowed s ≡ true → is_kind kind ≡ true
kind_of kind s number same allowed =
    subst (λ (t : Shape). (is_allowed t && (number_of t == kind)) ≡ true) (sym same) (both_true (is_allowed s) (number_of s == kind) allowed (eq-eqb (number_of s) kind (sym number)))

shaped_if : (digits kind : Bool) (s t : Shape) → digits ≡ true → kind ≡ true → t ≡ s → (if digits && kind then Some t else None) ≡ Some s
shaped_if true true s t has is same = ap (λ u. Some u) same
shaped_if true false s t has is same = cc
shaped_if false true s t has is same = cc
shaped_if false false s t has is same = cc

-- a card with the number of an allowed shape has this shape
pub shape_kept : (s : Shape) (card : Card) → card.kind ≡ number_of s → length s.ins ≡ 3 → length s.outs ≡ 3 → is_allowed s ≡ true → has_digits card ≡ true → shape_of card ≡ Some s
shape_kept s card number ins outs allowed has =
    let same : shape_numbered card.kind ≡ s = ap (λ kind. shape_numbered kind) number ∙ same_shape s ins outs allowed in
    shaped_if (has_digits card) (is_kind card.kind) s (shape_numbered card.kind) has (kind_of card.kind s number same allowed) same

shape_is : (digits kind : Bool) (s t : Shape) → Some s ≡ (if digits && kind then Some t else None) → (s ≡ t) × (kind ≡ true)
shape_is true true s t some = (cc, refl)
shape_is true false s t some = cc
shape_is false true s t some = cc
shape_is false false s t some = cc

first_of : (a b : Bool) → (a && b) ≡ true → a ≡ true
first_of true b is = refl
first_of false b is = cc

-- the ports of a shape that a card has stand in front
pub filled_ports : (card : Card) (s : Shape) → Some s ≡ shape_of card → IsTrue (is_filled s.ins) × IsTrue (is_filled s.outs)
filled_ports card s some =
    let is = shape_is (has_digits card) (is_kind card.kind) s (shape_numbered card.kind) some in
    let t = shape_numbered card.kind in
    let allowed = all_three (is_filled t.ins) (is_filled t.outs) (is_allowed_with t.states (count t.ins) (count t.outs)) (first_of (is_allowed t) (number_of t == card.kind) is.1) in
    subst (λ (u : Shape). IsTrue (is_filled u.ins) × IsTrue (is_filled u.outs)) (sym is.0) (true_is (is_filled t.ins) allowed.0, true_is (is_filled t.outs) allowed.1)
  where
    true_is : (b : Bool) → b ≡ true → IsTrue b
    true_is true is = search rules
    true_is false is = cc

-- n ports are filled, and those of the last n bits that are 1 carry flags
record PortsMade (n bits : ℕ) : Type 0 where
  pub filled : is_filled (ports_of n bits) ≡ true
  pub many : count (ports_of n bits) ≡ n
  pub flagged : flags (ports_of n bits) ≡ bits % 2 ^ n

flag_added : (b : Bool) (ports : List (Option Sort)) → flags (Some (if b then Flags else Words) ∷ ports) ≡ (if b then 1 else 0) + 2 * flags ports
flag_added true ports = refl
flag_added false ports = omega arith

last_bit : (bits : ℕ) → (if bits % 2 == 1 then 1 else 0) ≡ bits % 2
last_bit bits = grind (arith, nat_tests)

front_port : (bits : ℕ) (ports : List (Option Sort)) → flags (Some (if bits % 2 == 1 then Flags else Words) ∷ ports) ≡ bits % 2 + 2 * flags ports
front_port bits ports = flag_added (bits % 2 == 1) ports ∙ ap (λ k. k + 2 * flags ports) (last_bit bits)

ports_made : (n bits : ℕ) → n < 4 → PortsMade n bits
ports_made zero bits small = record { filled = refl; many = refl; flagged = omega arith }
ports_made (suc zero) bits small = record { filled = refl; many = refl; flagged = omega (arith, front_port bits (None ∷ None ∷ [])) }
ports_made (suc (suc zero)) bits small =
    record {
      filled = refl;
      many = refl;
      flagged = omega (arith, front_port bits (Some (if bits / 2 % 2 == 1 then Flags else Words) ∷ None ∷ []), front_port (bits / 2) (None ∷ []));
    }
ports_made (suc (suc (suc zero))) bits small =
    record {
      filled = refl;
      many = refl;
      flagged = omega (arith, front_port bits (Some (if bits / 2 % 2 == 1 then Flags else Words) ∷ Some (if bits / 4 % 2 == 1 then Flags else Words) ∷ []), front_port (bits / 2) (Some (if bits / 4 % 2 == 1 then Flags else Words) ∷ []), front_port (bits / 4) []);
    }
ports_made (suc (suc (suc (suc n)))) bits small = absurd (omega arith)

bool_same : (a b : Bool) → (a ≡ true → b ≡ true) → (b ≡ true → a ≡ true) → a ≡ b
bool_same true b to from = sym (to refl)
bool_same false true to from = from refl
bool_same false false to from = refl

shuffled : (a b c d : Bool) → (a && b && c && d) ≡ ((true && true && d) && (a && b && c))
shuffled true true true true = refl
shuffled true true true false = refl
shuffled true true false true = refl
shuffled true true false false = refl
shuffled true false c true = refl
shuffled true false c false = refl
shuffled false b c true = refl
shuffled false b c false = refl

all_true : (a b c : Bool) → a ≡ true → b ≡ true → c ≡ true → (a && b && c) ≡ true
all_true a b c first middle last = rw (first, middle, last) refl

less : (x y : ℕ) → nat_lt x y ≡ true → x < y
less x y is = grind (arith, nat_tests)

tested : (x y : ℕ) → x < y → nat_lt x y ≡ true
tested x y is = grind (arith, nat_tests)

-- a number is made of its parts, if it has 13 bits
made_of : (kind : ℕ) → kind < 2 ^ 13 → states_of kind + 8 * (inputs_of kind + 4 * (outputs_of kind + 4 * (kind / 128 % 8 + 8 * (kind / 1024 % 8)))) ≡ kind
made_of kind small = omega arith

module _ (kind p q : ℕ) (p_some : 0 < p) (q_some : 0 < q) where
  -- the number that is made of the parts and of the bits that are left
  abbrev remade : ℕ
  remade = states_of kind + 8 * (inputs_of kind + 4 * (outputs_of kind + 4 * (kind / 128 % 8 % p + 8 * (kind / 1024 % 8 % q))))

  remade_from : kind < 2 ^ 13 → kind / 128 % 8 < p → kind / 1024 % 8 < q → remade ≡ kind
  remade_from small ins outs =
      ap (λ x. states_of kind + 8 * (inputs_of kind + 4 * (outputs_of kind + 4 * (x + 8 * (kind / 1024 % 8 % q))))) (mod-eq_of_lt ins)
      ∙ ap (λ x. states_of kind + 8 * (inputs_of kind + 4 * (outputs_of kind + 4 * (kind / 128 % 8 + 8 * x)))) (mod-eq_of_lt outs)
      ∙ made_of kind small

  module _ (same : remade ≡ kind) where
    ins_few : kind / 128 % 8 % p < 8
    ins_few = omega (arith, mod-le (kind / 128 % 8) p)

    outs_few : kind / 1024 % 8 % q < 8
    outs_few = omega (arith, mod-le (kind / 1024 % 8) q)

    read_back : Parts kind (states_of kind) (inputs_of kind) (outputs_of kind) (kind / 128 % 8 % p) (kind / 1024 % 8 % q)
    read_back =
        subst (λ x. Parts x (states_of kind) (inputs_of kind) (outputs_of kind) (kind / 128 % 8 % p) (kind / 1024 % 8 % q)) same
        (parts (states_of kind) (inputs_of kind) (outputs_of kind) (kind / 128 % 8 % p) (kind / 1024 % 8 % q) (omega arith) (omega arith) (omega arith) ins_few outs_few)

    small_from : kind < 2 ^ 13
    small_from = omega (arith, same, ins_few, outs_few)

    ins_from : kind / 128 % 8 < p
    ins_from = omega (arith, read_back.in_flags, mod-lt (kind / 128 % 8) p_some)

    outs_from : kind / 1024 % 8 < q
    outs_from = omega (arith, read_back.out_flags, mod-lt (kind / 1024 % 8) q_some)

  same_tests : (nat_lt kind (2 ^ 13) && nat_lt (kind / 128 % 8) p && nat_lt (kind / 1024 % 8) q) ≡ (remade == kind)
  same_tests =
      bool_same (nat_lt kind (2 ^ 13) && nat_lt (kind / 128 % 8) p && nat_lt (kind / 1024 % 8) q) (remade == kind)
      (λ tests. let is = all_three (nat_lt kind (2 ^ 13)) (nat_lt (kind / 128 % 8) p) (nat_lt (kind / 1024 % 8) q) tests in eq-eqb remade kind (remade_from (less kind (2 ^ 13) is.0) (less (kind / 128 % 8) p is.1) (less (kind / 1024 % 8) q is.2)))
      (λ same. let is = eqb-true remade kind same in all_true (nat_lt kind (2 ^ 13)) (nat_lt (kind / 128 % 8) p) (nat_lt (kind / 1024 % 8) q) (tested kind (2 ^ 13) (small_from is)) (tested (kind / 128 % 8) p (ins_from is)) (tested (kind / 1024 % 8) q (outs_from is)))

-- a number is that of a kind if it has 13 bits, no flags of missing ports, and room for its parts
pub kind_tests :
    (kind : ℕ)
    → (nat_lt kind (2 ^ 13) && nat_lt (kind / 128 % 8) (2 ^ inputs_of kind) && nat_lt (kind / 1024 % 8) (2 ^ outputs_of kind) && is_allowed_with (states_of kind) (inputs_of kind) (outputs_of kind)) ≡ is_kind kind
kind_tests kind =
    let ins = ports_made (inputs_of kind) (kind / 128 % 8) (omega arith) in
    let outs = ports_made (outputs_of kind) (kind / 1024 % 8) (omega arith) in
    shuffled (nat_lt kind (2 ^ 13)) (nat_lt (kind / 128 % 8) (2 ^ inputs_of kind)) (nat_lt (kind / 1024 % 8) (2 ^ outputs_of kind)) (is_allowed_with (states_of kind) (inputs_of kind) (outputs_of kind))
    ∙ rw (ins.filled, outs.filled, ins.many, outs.many, ins.flagged, outs.flagged) (ap (λ b. (true && true && is_allowed_with (states_of kind) (inputs_of kind) (outputs_of kind)) && b) (same_tests kind (2 ^ inputs_of kind) (2 ^ outputs_of kind) (pow_pos (inputs_of kind)) (pow_pos (outputs_of kind))))

-- the values of a card with ports have room for its states and outputs
fourth : (a b c d : Bool) → (a && b && c && d) ≡ true → d ≡ true
fourth true true true d is = is
fourth true true false d is = cc
fourth true false c d is = cc
fourth false b c d is = cc

in_room : (k m : ℕ) → nat_le (k + m) 5 ≡ true → k + m ≤ 6
in_room k m room = grind (arith, nat_tests)

abbrev signature : Shape → Signature
signature s = record { ins = s.ins; outs = s.outs }

ported : (digits kind : Bool) (s : Shape) → IsSome (option_map (λ (t : Shape). signature t) (if digits && kind then Some s else None)) → kind ≡ true
ported true true s some = refl
ported true false s some = cc
ported false kind s some = cc

pub has_room : (card : Card) → IsSome (ports card) → states_of card.kind + outputs_of card.kind ≤ 6
has_room card some =
    let k = states_of card.kind in
    let n = inputs_of card.kind in
    let m = outputs_of card.kind in
    let is = ported (has_digits card) (is_kind card.kind) (shape_numbered card.kind) some in
    let allowed = fourth (nat_lt card.kind (2 ^ 13)) (nat_lt (card.kind / 128 % 8) (2 ^ n)) (nat_lt (card.kind / 1024 % 8) (2 ^ m)) (is_allowed_with k n m) (kind_tests card.kind ∙ is) in
    in_room k m (second (nat_lt 0 (n + m)) (nat_le (k + m) 5) (nat_le (k + m + n) 6) (nat_le k (most_states n m)) allowed)
