-- What is left of a list.
use Rattle.std.proofs.Common.{◌≡◌, ◌-◌, ℕ, List, take, drop, length, length-drop, arith}
use Rattle.std.proofs.lemmas.List.{take_all}

-- a slice to the end
pub all_left : (xs : List ℕ) (n : ℕ) → take (length xs - n) (drop n xs) ≡ drop n xs
all_left xs n = take_all (length xs - n) (drop n xs) (omega (arith, length-drop n xs))
