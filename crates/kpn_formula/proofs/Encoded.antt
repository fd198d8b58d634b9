-- The card that an encoder makes.
use Rattle.std.proofs.Common.{◌≡◌, ◌∙◌, ℕ, ◌-◌, ◌≤◌, if◌then◌else◌, Bool, true, false, List, [], ◌∷◌, ◌++◌, length, replicate, All, Some, None, refl, ap, arith}
use Rattle.std.proofs.lemmas.List.{append_assoc, length-append, length-replicate}
use Rattle.std.proofs.lemmas.List.Elements.{All-append, All-cons, All-nil, All-replicate}
use Rattle.kpn_formula.specs.declared.shape.Shape.{Shape}
use Rattle.kpn_formula.specs.declared.instruction.Instruction.{Instruction}
use Rattle.kpn_formula.specs.Cards.{digits, instructions, before_end, after_end}
use Rattle.kpn_formula.specs.Shapes.{number_of, is_allowed}
use Rattle.kpn_formula.specs.Encoding.{AreEncodable, IsCardOf, opening_size, digits_needed}
use Rattle.kpn_formula.specs.Spelling.{IsDigit, spelling, opening_digits, spelling_of, filled, args_of}
use Rattle.kpn_formula.proofs.Spelled.{spelling_length, spelling_are_digits, lone_round, no_opening, round_of_both, opening_of_both}
use Rattle.kpn_formula.proofs.Packed.{digits_packed, packed_has_digits}
use Rattle.kpn_formula.proofs.Shapes.{shape_kept}

opening_length : (opening : List Instruction) → length (opening_digits opening) ≡ opening_size opening
opening_length [] = refl
opening_length (i ∷ is) = omega (arith, spelling_length (i ∷ is))

opening_are_digits : (opening : List Instruction) → AreEncodable opening → All IsDigit (opening_digits opening)
opening_are_digits [] fits = All-nil IsDigit
opening_are_digits (i ∷ is) fits = All-cons IsDigit 0 (spelling (i ∷ is)) (omega arith) (spelling_are_digits (i ∷ is) fits)

-- the digits of both programs are as many as they need
pub both_length : (round opening : List Instruction) → length (spelling_of round opening) ≡ digits_needed round opening
both_length round opening = omega (arith, length-append (spelling round) (opening_digits opening), spelling_length round, opening_length opening)

filled_length : (ds : List ℕ) → length ds ≤ 36 → length (filled ds) ≡ 36
filled_length ds few = omega (arith, length-append ds (replicate (36 - length ds) 0), length-replicate {A = ℕ} (36 - length ds) 0)

round_read : (round opening : List Instruction) (n : ℕ) → AreEncodable round → AreEncodable opening → before_end (instructions 0 (spelling round ++ (opening_digits opening ++ replicate n 0))) ≡ round
round_read round [] n fits opens = lone_round round n fits
round_read round (i ∷ is) n fits opens = round_of_both round (i ∷ is) n fits opens

opening_read : (round opening : List Instruction) (n : ℕ) → AreEncodable round → AreEncodable opening → before_end (after_end (instructions 0 (spelling round ++ (opening_digits opening ++ replicate n 0)))) ≡ opening
opening_read round [] n fits opens = no_opening round n fits
opening_read round (i ∷ is) n fits opens = opening_of_both round (i ∷ is) n fits opens

number_if : (allowed : Bool) (number kind : ℕ) → Some kind ≡ (if allowed then Some number else None) → (allowed ≡ true) × (kind ≡ number)
number_if true number kind is = (refl, cc)
number_if false number kind is = cc

module _ (shape : Shape) (round opening : List Instruction) (kind : ℕ) (args : List ℕ) where
  pub card_holds :
      length shape.ins ≡ 3 → length shape.outs ≡ 3 → AreEncodable round → AreEncodable opening → Some kind ≡ (if is_allowed shape then Some (number_of shape) else None)
      → digits_needed round opening ≤ 36 → args ≡ args_of (filled (spelling_of round opening)) → IsCardOf shape round opening (record { kind = kind; args = args })
  card_holds ins outs fits opens numbered room is =
      let number = number_if (is_allowed shape) (number_of shape) kind numbered in
      let ds = spelling_of round opening in
      let n = 36 - length ds in
      let few : length ds ≤ 36 = omega (arith, both_length round opening) in
      let small : All IsDigit (filled ds) =
      All-append IsDigit ds (replicate n 0) (All-append IsDigit (spelling round) (opening_digits opening) (spelling_are_digits round fits) (opening_are_digits opening opens)) (All-replicate IsDigit n 0 (omega arith)) in
      let held : digits (record { kind = kind; args = args }) ≡ spelling round ++ (opening_digits opening ++ replicate n 0) =
      ap (λ (xs : List ℕ). digits (record { kind = kind; args = xs })) is ∙ digits_packed kind (filled ds) (filled_length ds few) small ∙ append_assoc (spelling round) (opening_digits opening) (replicate n 0) in
      record {
        shaped = shape_kept shape (record { kind = kind; args = args }) number.1 ins outs number.0 (rw is (packed_has_digits kind (filled ds) (filled_length ds few) small));
        room = room;
        round_is = ap (λ xs. before_end (instructions 0 xs)) held ∙ round_read round opening n fits opens;
        opening_is = ap (λ xs. before_end (after_end (instructions 0 xs))) held ∙ opening_read round opening n fits opens;
      }
