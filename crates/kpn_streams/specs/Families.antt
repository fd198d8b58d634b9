-- Laws of what processes write, in every family.
use Rattle.std.specs.Prelude.{◌≡◌, if◌then◌else◌, List, length}
use Rattle.kpn_model.specs.declared.token.Token.{Token}
use Rattle.kpn_model.specs.declared.kinds.Card.{Card}
use Rattle.kpn_model.specs.Network.{Family}
use Rattle.kpn_compute.specs.Both.{is_first, own_card, both_family}
use Rattle.kpn_streams.specs.Fed.{Writes}

abbrev pub AreFunctions : Family → Type 0
AreFunctions kinds =
    (card : Card) (ins outs others : List (List Token))
    → length outs ≡ length others → Writes kinds card ins outs → Writes kinds card ins others
    → outs ≡ others

-- a process of two joined families writes what it writes in its own
abbrev pub WriteAsTheirOwn : Family → Family → Type 0
WriteAsTheirOwn first second =
    (card : Card) (ins outs : List (List Token))
    → Writes (if is_first card then first else second) (own_card card) ins outs
    → Writes (both_family first second) card ins outs
