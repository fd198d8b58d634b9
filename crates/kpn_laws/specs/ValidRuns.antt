-- Runs of valid networks stay within the capacities.
use Rattle.std.specs.Prelude.{List, Option}
use Rattle.kpn_model.specs.declared.kinds.Card.{Card}
use Rattle.kpn_model.specs.declared.kinds.Signature.{Signature}
use Rattle.kpn_model.specs.declared.history.Entry.{Entry}
use Rattle.kpn_model.specs.Network.{Family, Network}
use Rattle.kpn_model.specs.Semantics.{State, start, IsRun}
use Rattle.kpn_model.specs.Moments.{IsWithin}
use Rattle.kpn_model.specs.Valid.{IsValid}

abbrev pub StartsWithin : (Card → Option Signature) → Family → Type 0
StartsWithin signature kinds = (net : Network) → IsValid signature net → IsWithin (start kinds net)

abbrev pub StaysWithin : (Card → Option Signature) → Family → Type 0
StaysWithin signature kinds =
    (net : Network)
    → IsValid signature net → (E : List Entry) (M : State) → IsRun kinds net E M → IsWithin M
