-- Words, and the numbers that they stand for.
use Rattle.std.proofs.Common.{◌≡◌, ◌≤◌, ◌^◌, ℕ, Bool, true, false, cond, nat_lt, Result, Ok, Err, refl, arith}
use Rattle.std.proofs.lemmas.Bool.{lt-leb, ltb-false}
use Rattle.kpn_tokens.specs.declared.layouts.RecordFault.{RecordFault}
use Rattle.kpn_tokens.specs.declared.layouts.RecordFault.TheVariants.{OutOfRange}
use Rattle.kpn_tokens.specs.Numbers.{word_of}

abbrev ok : ℕ → Result ℕ RecordFault
ok n = Ok n

-- a number that has a word is one
pub number_is : (number : Result ℕ RecordFault) (n : ℕ) → word_of number false ≡ Ok n → number ≡ Ok n
number_is (Err fault) n e = cc
number_is (Ok m) n e = by_test (nat_lt m (2 ^ 64)) e
  where
    by_test : (y : Bool) → cond y (ok m) (Err OutOfRange) ≡ Ok n → ok m ≡ Ok n
    by_test true e = e
    by_test false e = cc

-- what has no word has none below zero, for the same fault
pub fault_is : (number : Result ℕ RecordFault) (fault : RecordFault) → word_of number false ≡ Err fault → word_of number true ≡ Err fault
fault_is (Err other) fault e = e
fault_is (Ok m) fault e = by_test (nat_lt m (2 ^ 64)) refl e
  where
    by_test : (y : Bool) → nat_lt m (2 ^ 64) ≡ y → cond y (Ok m) (Err OutOfRange) ≡ Err fault → word_of (Ok m) true ≡ Err fault
    by_test true h e = cc
    by_test false h e =
        let great : 2 ^ 64 ≤ m = ltb-false m (2 ^ 64) h in
        rw (lt-leb m (2 ^ 63) (omega arith)) e
