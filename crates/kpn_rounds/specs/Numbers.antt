-- Numbers as a list.
use Rattle.std.specs.Prelude.{ℕ, List, [], ◌∷◌}
use Rattle.kpn_rounds.specs.declared.numbers.Numbers.{Numbers}
use Rattle.kpn_rounds.specs.declared.numbers.Numbers.TheVariants.{None, One, Two, Three}

abbrev pub list_of : Numbers → List ℕ
list_of None = []
list_of (One x) = x ∷ []
list_of (Two x y) = x ∷ y ∷ []
list_of (Three x y z) = x ∷ y ∷ z ∷ []
