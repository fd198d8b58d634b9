-- What names and cards mean in a family of kinds.
use Rattle.std.specs.Prelude.{ℕ, List, Option}
use Rattle.kpn_model.specs.declared.kinds.Card.{Card}
use Rattle.kpn_model.specs.declared.kinds.Signature.{Signature}

-- the number of the kind with a name, and its number of arguments, if there is such a kind
abbrev pub KindNames : Type 0
KindNames = List ℕ → Option (ℕ × ℕ)

-- the ports of a card, if it has any
abbrev pub Signatures : Type 0
Signatures = Card → Option Signature
