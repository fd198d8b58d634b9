-- A law of a family for cards with any numbers: it asks too much.
use Rattle.std.specs.Prelude.{ℕ, List, Option, IsSome}
use Rattle.kpn_model.specs.declared.token.Token.{Token}
use Rattle.kpn_model.specs.declared.kinds.Card.{Card}
use Rattle.kpn_model.specs.declared.kinds.Signature.{Signature}
use Rattle.kpn_model.specs.Network.{Family, Admits}
use Rattle.kpn_model.specs.Lawful.{NamesPort}

-- the law of ports for cards with numbers that need not fit
abbrev pub NamesPortsOfAnyCard : (Card → Option Signature) → Admits → Family → Type 0
NamesPortsOfAnyCard signature admits kinds =
    (card : Card) (local : List ℕ) (last : Option Token)
    → IsSome (signature card) → admits card local last → NamesPort signature card (kinds.answer card local last).act
