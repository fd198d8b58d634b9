-- The ports of cards, and the laws of a family of kinds.
use Rattle.std.specs.Prelude.{◌≡◌, ℕ, ◌<◌, ◌^◌, Bool, true, false, List, [], ◌∷◌, length, slice_get, Option, Some, None, IsSome, is_none, option_and_then}
use Rattle.std.specs.List.{All, list_all}
use Rattle.kpn_model.specs.declared.token.Token.{Token}
use Rattle.kpn_model.specs.declared.token.Token.TheVariants.{Word, Flag}
use Rattle.kpn_model.specs.declared.token.Sort.{Sort}
use Rattle.kpn_model.specs.declared.token.Sort.TheVariants.{Words, Flags}
use Rattle.kpn_model.specs.declared.kinds.Card.{Card}
use Rattle.kpn_model.specs.declared.kinds.Signature.{Signature}
use Rattle.kpn_model.specs.declared.kinds.Act.{Act}
use Rattle.kpn_model.specs.declared.kinds.Act.TheVariants.{Read, Write, Stop}
use Rattle.kpn_model.specs.declared.kinds.Answer.{Answer}
use Rattle.kpn_model.specs.declared.history.Deed.{Deed}
use Rattle.kpn_model.specs.declared.history.Deed.TheVariants.{Took, Put, Stopped}
use Rattle.kpn_model.specs.Network.{Family, Admits}

abbrev pub sort_of : Token → Sort
sort_of (Word n) = Words
sort_of (Flag b) = Flags

abbrev pub Fits : Token → Type 0
Fits (Word n) = n < 2 ^ 64
Fits (Flag b) = Unit {0}

pub record CardFits (card : Card) : Type 0 where
  pub kind : card.kind < 2 ^ 16
  pub three : length card.args ≡ 3
  pub args : All (λ n. n < 2 ^ 64) card.args

-- the token that a deed took; arbitrary for any other deed
abbrev pub read_by : Deed → Token
read_by (Took c t) = t
read_by (Put c t) = Flag false
read_by Stopped = Flag false

abbrev pub is_filled : List (Option Sort) → Bool
is_filled [] = true
is_filled (Some sort ∷ ports) = is_filled ports
is_filled (None ∷ ports) = list_all is_none ports

abbrev pub port_at : List (Option Sort) → ℕ → Option Sort
port_at ports k = option_and_then (λ sort. sort) (slice_get ports k)

module _ (signature : Card → Option Signature) where
  abbrev pub in_sort : Card → ℕ → Option Sort
  in_sort card k = option_and_then (λ s. port_at s.ins k) (signature card)

  abbrev pub out_sort : Card → ℕ → Option Sort
  out_sort card k = option_and_then (λ s. port_at s.outs k) (signature card)

  -- an act names a port of the card, and a written token fits and has the port's sort
  abbrev pub NamesPort : Card → Act → Type 0
  NamesPort card Stop = Unit {0}
  NamesPort card (Read k) = (k < 3) × IsSome (in_sort card k)
  NamesPort card (Write k t) = (k < 3) × Fits t × (out_sort card k ≡ Some (sort_of t))

  module _ (admits : Admits) where
    abbrev pub AfterAct : Card → List ℕ → Act → Token → Type 0
    AfterAct card next Stop token = Unit {0}
    AfterAct card next (Read k) token =
        in_sort card k ≡ Some (sort_of token) → Fits token → admits card next (Some token)
    AfterAct card next (Write k t) token = admits card next None

    -- what follows an answer is admitted; after a read, with this token
    abbrev pub LeadsOn : Card → Answer → Token → Type 0
    LeadsOn card answer token = AfterAct card answer.next answer.act token

    -- the laws of a family, for cards that have a signature
    pub record AreLawful (kinds : Family) : Type 0 where
      pub names_port : (card : Card) (local : List ℕ) (last : Option Token) → CardFits card → IsSome (signature card)
          → admits card local last → NamesPort card (kinds.answer card local last).act
      pub leads_on : (card : Card) (local : List ℕ) (last : Option Token) (token : Token) → CardFits card
          → IsSome (signature card) → admits card local last → LeadsOn card (kinds.answer card local last) token
      pub starts : (card : Card) → CardFits card → IsSome (signature card) → admits card (kinds.start card) None
