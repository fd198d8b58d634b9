-- What is read of a file of tokens.
use Rattle.std.specs.Prelude.{◌≡◌, ◌<◌, ◌≤◌, ℕ, List, length, Option, IfSome}
use Rattle.hox_network.specs.declared.reading.TheConstants.{LONGEST_FILE}

-- these bytes are not too many, and are the whole file, if it is known
abbrev pub IsWholeFile : Option (List ℕ) → List ℕ → Type 0
IsWholeFile known bytes = (length bytes ≤ LONGEST_FILE) × IfSome known (λ text. bytes ≡ text)

-- the file is too long, if it is known
abbrev pub IsTooLong : Option (List ℕ) → Type 0
IsTooLong known = IfSome known (λ text. LONGEST_FILE < length text)
