-- The names in a text: its words, separated by white space.
use Rattle.std.specs.Prelude.{◌≡◌, ◌<◌, ℕ, List, [], ◌∷◌, ◌++◌, length}
use Rattle.core.specs.Char.{is_whitespace, is_not_whitespace}
use Rattle.core.specs.Str.{NoCharPasses, EmptyOrStartsWithPassing}

-- `word` follows leading white space, and ends at white space or at the text's end
pub record TakesWord (text word rest : List ℕ) : Type 0 where
  pub gap : List ℕ
  pub text_is : text ≡ gap ++ (word ++ rest)
  pub some : 0 < length word
  pub white : NoCharPasses is_not_whitespace gap
  pub black : NoCharPasses is_whitespace word
  pub more : List ℕ
  pub ends : EmptyOrStartsWithPassing is_whitespace rest more

-- these words are taken, one after another
abbrev pub TakesWords : List ℕ → List (List ℕ) → List ℕ → Type 0
TakesWords text [] rest = rest ≡ text
TakesWords text (w ∷ ws) rest = (mid : List ℕ) × TakesWord text w mid × TakesWords mid ws rest

pub record AreNames (text : List ℕ) (names : List (List ℕ)) : Type 0 where
  pub rest : List ℕ
  pub taken : TakesWords text names rest
  pub white : NoCharPasses is_not_whitespace rest
