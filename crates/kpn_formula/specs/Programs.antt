-- What the instructions of a program do.
use Rattle.std.specs.Prelude.{ℕ, ◌==◌, if◌then◌else◌, unsigned_abs, List, [], ◌∷◌, drop, set}
use Rattle.kpn_standard.specs.Locals.{at}
use Rattle.kpn_signals.specs.Words.{signed}
use Rattle.kpn_signals.specs.Arithmetic.{product, right_shift}
use Rattle.kpn_formula.specs.declared.instruction.Instruction.{Instruction}
use Rattle.kpn_formula.specs.declared.instruction.Instruction.TheVariants.{End, Push, Times, Shift, Not, Abs, Choose, Apply, Load, Store}
use Rattle.kpn_formula.specs.Operations.{applied}

-- the values (states, then outputs, then inputs), and a stack, the last word first, then zeros
pub record Working : Type 0 where
  pub values : List ℕ
  pub stack : List ℕ

abbrev pub chosen : ℕ → ℕ → ℕ → ℕ
chosen c x y = if c == 0 then y else x

abbrev pub negated : ℕ → ℕ
negated x = if x == 0 then 1 else 0

-- the word v instead of the last n of the stack
abbrev pub instead : ℕ → ℕ → Working → Working
instead n v w = record w { stack = v ∷ drop n w.stack }

-- word k of the stack, from the last on
abbrev pub last : Working → ℕ → ℕ
last w k = at w.stack k

abbrev pub executed : Instruction → Working → Working
executed End w = w
executed (Push v) w = instead 0 v w
executed (Times v) w = instead 1 (product (last w 0) v) w
executed (Shift n) w = instead 1 (right_shift n (last w 0)) w
executed Not w = instead 1 (negated (last w 0)) w
executed Abs w = instead 1 (unsigned_abs (signed (last w 0))) w
executed Choose w = instead 3 (chosen (last w 2) (last w 1) (last w 0)) w
executed (Apply op) w = instead 2 (applied op (last w 1) (last w 0)) w
executed (Load k) w = instead 0 (at w.values k) w
executed (Store k) w = record { values = set w.values k (last w 0); stack = drop 1 w.stack }

-- the instructions one after the other
abbrev pub run : List Instruction → Working → Working
run [] w = w
run (i ∷ is) w = run is (executed i w)

-- the values after a program
abbrev pub values_after : List Instruction → List ℕ → List ℕ
values_after program values = (run program (record { values = values; stack = [] })).values
