-- Programs of words make words.
use Rattle.std.proofs.Common.{ℕ, zero, suc, ◌+◌, ◌-◌, ◌^◌, ◌<◌, ◌==◌, nat_lt, int_lt, min, if◌then◌else◌, Bool, true, false, List, [], ◌∷◌, drop, arith, rules, All}
use Rattle.std.proofs.lemmas.Nat.{and_le_l, or_lt, xor_lt}
use Rattle.std.proofs.lemmas.List.Elements.{All-head, All-tail, All-cons, All-nil, All-drop, All-set, All-get_or, All-from_recursion}
use Rattle.kpn_model.specs.declared.kinds.Card.{Card}
use Rattle.kpn_standard.specs.Locals.{at}
use Rattle.kpn_compute.specs.Filters.{IsWord}
use Rattle.kpn_signals.specs.Words.{signed}
use Rattle.kpn_signals.proofs.Numbers.{right_shift_fits, least_fits, greatest_fits, size_fits, quotient_fits}
use Rattle.kpn_formula.specs.declared.instruction.Operation.{Operation}
use Rattle.kpn_formula.specs.declared.instruction.Operation.TheVariants.{Add, Subtract, Multiply, Divide, Remain, ShiftLeft, ShiftRight, And, Or, ExclusiveOr, Min, Max, IsLess}
use Rattle.kpn_formula.specs.declared.instruction.Instruction.{Instruction}
use Rattle.kpn_formula.specs.declared.instruction.Instruction.TheVariants.{End, Push, Times, Shift, Not, Abs, Choose, Apply, Load, Store}
use Rattle.kpn_formula.specs.Operations.{applied}
use Rattle.kpn_formula.specs.Programs.{Working, executed, run, values_after}
use Rattle.kpn_formula.specs.Cards.{digit, digits_from, digits, three, extended, meanings, instruction, operands, instructions, is_end, before_end, after_end, round_of, opening_of}
use Rattle.kpn_formula.specs.Spelling.{IsDigit}

pub if_word : (b : Bool) (x y : ℕ) → IsWord x → IsWord y → IsWord (if b then x else y)
if_word true x y first second = first
if_word false x y first second = second

pub at_word : (xs : List ℕ) (k : ℕ) → All IsWord xs → IsWord (at xs k)
at_word [] k words = omega arith
at_word (x ∷ xs) zero words = All-head IsWord x xs words
at_word (x ∷ xs) (suc k) words = at_word xs k (All-tail IsWord x xs words)

applied_word : (op : Operation) (x y : ℕ) → IsWord x → IsWord y → IsWord (applied op x y)
applied_word Add x y first second = omega arith
applied_word Subtract x y first second = omega arith
applied_word Multiply x y first second = omega arith
applied_word Divide x y first second = quotient_fits x y
applied_word Remain x y first second = omega arith
applied_word ShiftLeft x y first second = if_word (nat_lt y 64) _ 0 (omega arith) (omega arith)
applied_word ShiftRight x y first second = right_shift_fits (min y 63) x first
applied_word And x y first second = omega (arith, and_le_l x y)
applied_word Or x y first second = or_lt 64 x y first second
applied_word ExclusiveOr x y first second = xor_lt 64 x y first second
applied_word Min x y first second = least_fits x y first second
applied_word Max x y first second = greatest_fits x y first second
applied_word IsLess x y first second = if_word (int_lt (signed x) (signed y)) 1 0 (omega arith) (omega arith)

-- an instruction that pushes a word, if it pushes a number
abbrev PushesWord : Instruction → Type 0
PushesWord (Push v) = IsWord v
PushesWord _ = Unit {0}

record AreWords (w : Working) : Type 0 where
  pub values : All IsWord w.values
  pub stack : All IsWord w.stack

module _ (w : Working) (words : AreWords w) where
  put_words : (n v : ℕ) → IsWord v → AreWords (record w { stack = v ∷ drop n w.stack })
  put_words n v word = record { values = words.values; stack = All-cons IsWord v (drop n w.stack) word (All-drop IsWord n w.stack words.stack) }

  last_word : (k : ℕ) → IsWord (at w.stack k)
  last_word k = at_word w.stack k words.stack

  executed_words : (i : Instruction) → PushesWord i → AreWords (executed i w)
  executed_words End pushes = words
  executed_words (Push v) pushes = put_words 0 v pushes
  executed_words (Times v) pushes = put_words 1 _ (omega arith)
  executed_words (Shift n) pushes = put_words 1 _ (right_shift_fits n (at w.stack 0) (last_word 0))
  executed_words Not pushes = put_words 1 _ (if_word (at w.stack 0 == 0) 1 0 (omega arith) (omega arith))
  executed_words Abs pushes = put_words 1 _ (size_fits (at w.stack 0) (last_word 0))
  executed_words Choose pushes = put_words 3 _ (if_word (at w.stack 2 == 0) _ _ (last_word 0) (last_word 1))
  executed_words (Apply op) pushes = put_words 2 _ (applied_word op (at w.stack 1) (at w.stack 0) (last_word 1) (last_word 0))
  executed_words (Load k) pushes = put_words 0 _ (at_word w.values k words.values)
  executed_words (Store k) pushes = record { values = All-set IsWord w.values k (at w.stack 0) (last_word 0) words.values; stack = All-drop IsWord 1 w.stack words.stack }

run_words : (is : List Instruction) (w : Working) → All PushesWord is → AreWords w → AreWords (run is w)
run_words [] w pushes words = words
run_words (i ∷ is) w pushes words = run_words is (executed i w) (All-tail PushesWord i is pushes) (executed_words w words i (All-head PushesWord i is pushes))

-- what digits say pushes words
digits_small : (card : Card) (i n : ℕ) → All IsDigit (digits_from card i n)
digits_small card i zero = All-nil IsDigit
digits_small card i (suc n) = All-cons IsDigit (digit card i) (digits_from card (i + 1) n) (omega arith) (digits_small card (i + 1) n)

at_digit : (ds : List ℕ) (k : ℕ) → All IsDigit ds → at ds k < 32
at_digit [] k small = omega arith
at_digit (d ∷ ds) zero small = All-head IsDigit d ds small
at_digit (d ∷ ds) (suc k) small = at_digit ds k (All-tail IsDigit d ds small)

extended_word : (n : ℕ) → n < 2 ^ 15 → IsWord (extended n)
extended_word n small = if_word (nat_lt n (2 ^ 14)) n (n + (2 ^ 64 - 2 ^ 15)) (omega arith) (omega arith)

three_small : (ds : List ℕ) → All IsDigit ds → three ds < 2 ^ 15
three_small ds small = omega (arith, at_digit ds 0 small, at_digit ds 1 small, at_digit ds 2 small)

instruction_pushes : (d : ℕ) (ds : List ℕ) → d < 32 → All IsDigit ds → PushesWord (instruction d ds)
instruction_pushes d ds code small =
    let first = at_digit ds 0 small in
    let long = extended_word (three ds) (three_small ds small) in
    All-get_or PushesWord (meanings ds) d End code
    (All-from_recursion PushesWord (meanings ds) (tt, (omega (arith, first), (long, search rules))))

instructions_push : (n : ℕ) (ds : List ℕ) → All IsDigit ds → All PushesWord (instructions n ds)
instructions_push n [] small = All-nil PushesWord
instructions_push zero (d ∷ ds) small =
    All-cons PushesWord (instruction d ds) (instructions (operands d) ds) (instruction_pushes d ds (All-head IsDigit d ds small) (All-tail IsDigit d ds small)) (instructions_push (operands d) ds (All-tail IsDigit d ds small))
instructions_push (suc n) (d ∷ ds) small = instructions_push n ds (All-tail IsDigit d ds small)

card_pushes : (card : Card) → All PushesWord (instructions 0 (digits card))
unfolding digits
card_pushes card = instructions_push 0 (digits_from card 0 36) (digits_small card 0 36)

if_pushes : (b : Bool) (is js : List Instruction) → All PushesWord is → All PushesWord js → All PushesWord (if b then is else js)
if_pushes true is js first second = first
if_pushes false is js first second = second

before_pushes : (is : List Instruction) → All PushesWord is → All PushesWord (before_end is)
before_pushes [] pushes = All-nil PushesWord
before_pushes (i ∷ is) pushes =
    if_pushes (is_end i) [] (i ∷ before_end is) (All-nil PushesWord) (All-cons PushesWord i (before_end is) (All-head PushesWord i is pushes) (before_pushes is (All-tail PushesWord i is pushes)))

after_pushes : (is : List Instruction) → All PushesWord is → All PushesWord (after_end is)
after_pushes [] pushes = All-nil PushesWord
after_pushes (i ∷ is) pushes = if_pushes (is_end i) is (after_end is) (All-tail PushesWord i is pushes) (after_pushes is (All-tail PushesWord i is pushes))

-- the values after a card's programs
pub round_words : (card : Card) (values : List ℕ) → All IsWord values → All IsWord (values_after (round_of card) values)
round_words card values words =
    (run_words (round_of card) (record { values = values; stack = [] }) (before_pushes (instructions 0 (digits card)) (card_pushes card)) (record { values = words; stack = All-nil IsWord })).values

pub opening_words : (card : Card) (values : List ℕ) → All IsWord values → All IsWord (values_after (opening_of card) values)
opening_words card values words =
    (run_words (opening_of card) (record { values = values; stack = [] }) (before_pushes (after_end (instructions 0 (digits card))) (after_pushes (instructions 0 (digits card)) (card_pushes card))) (record { values = words; stack = All-nil IsWord })).values
