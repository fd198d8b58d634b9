-- What holds of what processes write in every family of kinds.
use Rattle.std.proofs.Common.{◌≡◌, ◌∙◌, ℕ, if◌then◌else◌, List, refl, None}
use Rattle.kpn_model.specs.declared.token.Token.{Token}
use Rattle.kpn_model.specs.declared.kinds.Card.{Card}
use Rattle.kpn_model.specs.declared.history.Status.{Status}
use Rattle.kpn_model.specs.declared.history.Status.TheVariants.{Live}
use Rattle.kpn_model.specs.Network.{Family}
use Rattle.kpn_compute.specs.Both.{is_first, own_card, both_family}
use Rattle.kpn_streams.specs.Fed.{written_in}
use Rattle.kpn_streams.specs.Families.{AreFunctions, WriteAsTheirOwn}
use Rattle.kpn_streams.proofs.Fed.{one_writing}

-- what a process writes is a function of what it is fed with
pub each_is_a_function : (kinds : Family) → AreFunctions kinds
each_is_a_function kinds card ins outs others same v w = one_writing kinds card (Live (kinds.start card) None) ins outs others same v w

module _ (first second : Family) (card : Card) where
  abbrev own : Family
  own = if is_first card then first else second

  -- the answers are the same, and so is what is written
  same : (n outputs : ℕ) (s : Status) (ins : List (List Token)) → written_in (both_family first second) card outputs n s ins ≡ written_in own (own_card card) outputs n s ins
  same n outputs s ins = refl

-- a process writes what it writes in its own family
pub write_as_their_own : (first second : Family) → WriteAsTheirOwn first second
write_as_their_own first second card ins outs w =
    record { enough = w.enough; written = λ n few. same first second card n _ _ ins ∙ w.written n few }
