-- Two families joined: kind 2k is the first's kind k, and 2k + 1 the second's; NO_KIND is no kind.
use Rattle.std.specs.Prelude.{◌≡◌, ◌≢◌, ℕ, ◌+◌, ◌-◌, ◌*◌, ◌/◌, ◌%◌, ◌^◌, ◌==◌, nat_lt, if◌then◌else◌, Bool, true, false, List, Option, Some, None, IfSome, IsSome, ◌<◌}
use Rattle.kpn_model.specs.declared.kinds.Card.{Card}
use Rattle.kpn_model.specs.declared.kinds.Signature.{Signature}
use Rattle.kpn_model.specs.Network.{Family, Admits}
use Rattle.kpn_compute.specs.declared.both.TheConstants.{NO_KIND}

abbrev pub is_first : Card → Bool
is_first card = card.kind % 2 == 0

abbrev pub own_card : Card → Card
own_card card = record { kind = card.kind / 2; args = card.args }

-- `place` is 0 for the first family, 1 for the second
abbrev pub number_in_both : ℕ → ℕ → ℕ
number_in_both place kind = if nat_lt kind (2 ^ 15 - 1) then 2 * kind + place else NO_KIND

abbrev pub meant_by : Option (ℕ × ℕ) → Option (ℕ × ℕ) → Option (ℕ × ℕ)
meant_by None None = None
meant_by (Some own) None = Some (number_in_both 0 own.0, own.1)
meant_by None (Some own) = Some (number_in_both 1 own.0, own.1)
meant_by (Some _) (Some _) = Some (NO_KIND, 0)

abbrev pub both_named : (List ℕ → Option (ℕ × ℕ)) → (List ℕ → Option (ℕ × ℕ)) → List ℕ → Option (ℕ × ℕ)
both_named first second name = meant_by (first name) (second name)

-- the ports of the card in its own family
abbrev pub own_ports : (Card → Option Signature) → (Card → Option Signature) → Card → Option Signature
own_ports first second card = (if is_first card then first else second) (own_card card)

abbrev pub both_ports : (Card → Option Signature) → (Card → Option Signature) → Card → Option Signature
both_ports first second card = if card.kind == NO_KIND then None else own_ports first second card

-- no card of the kind has ports
abbrev pub HasNoPorts : (Card → Option Signature) → ℕ × ℕ → Type 0
HasNoPorts ports kind = (args : List ℕ) → ports (record { kind = kind.0; args = args }) ≡ None

-- no card of the name's kind has ports
abbrev pub IsNameRefused : (Card → Option Signature) → Option (ℕ × ℕ) → Type 0
IsNameRefused ports meant = IfSome meant (HasNoPorts ports)

-- the card of this number and these arguments is, in its own family, of the kind
abbrev pub IsCardOfOwn : Bool → ℕ × ℕ → ℕ × ℕ → List ℕ → Type 0
IsCardOfOwn first own meant args =
    let card : Card = record { kind = meant.0; args = args } in
    (is_first card ≡ first) × (own_card card ≡ record { kind = own.0; args = args })

-- it takes as many arguments, and each card of its number is, in its own family, of that kind
abbrev pub MeansOwn : Bool → ℕ × ℕ → Option (ℕ × ℕ) → Type 0
MeansOwn first own None = ⊥
MeansOwn first own (Some meant) =
    (meant.1 ≡ own.1) × (meant.0 ≢ NO_KIND) × ((args : List ℕ) → IsCardOfOwn first own meant args)

-- of a name that the other family lacks, whose kind has a number here, this is the meaning
abbrev pub MeansOwnAlone : Bool → Option (ℕ × ℕ) → Option (ℕ × ℕ) → ℕ × ℕ → Type 0
MeansOwnAlone first other meant own = other ≡ None → own.0 < 2 ^ 15 - 1 → MeansOwn first own meant

module _ (first_ports second_ports : Card → Option Signature) (first second meant : Option (ℕ × ℕ)) where
  -- a name that both families have is refused
  abbrev pub IsSharedRefused : Type 0
  IsSharedRefused = IsSome first → IsSome second → IsNameRefused (both_ports first_ports second_ports) meant

abbrev pub both_family : Family → Family → Family
both_family first second =
    record {
      start = λ card. (if is_first card then first else second).start (own_card card);
      answer = λ card local last. (if is_first card then first else second).answer (own_card card) local last;
    }

abbrev pub picked : Bool → Type 0 → Type 0 → Type 0
picked true p q = p
picked false p q = q

-- its own family admits the card so
abbrev pub OwnAdmits : Admits → Admits
OwnAdmits admits card local last = admits (own_card card) local last

abbrev pub BothAdmit : Admits → Admits → Admits
BothAdmit first second card local last =
    picked (is_first card) (OwnAdmits first card local last) (OwnAdmits second card local last)
