-- What a process is asked, and the answer to it.
use Rattle.std.specs.Prelude.{◌≡◌, ℕ, List, Option, IsSome}
use Rattle.kpn_model.specs.declared.token.Token.{Token}
use Rattle.kpn_model.specs.declared.kinds.Card.{Card}
use Rattle.kpn_model.specs.declared.kinds.Signature.{Signature}
use Rattle.kpn_model.specs.declared.kinds.Answer.{Answer}
use Rattle.kpn_model.specs.Network.{Family, Admits}

pub record Input : Type 0 where
  pub process : ℕ
  pub card : Card
  pub local : List ℕ
  pub last : Option Token

abbrev pub input : ℕ → Card → List ℕ → Option Token → Input
input process card local last = record { process = process; card = card; local = local; last = last }

abbrev pub answer_to : Family → Input → Answer
answer_to family asked = family.answer asked.card asked.local asked.last

-- the card that is asked, with a signature
pub record IsAskedCard (signature : Card → Option Signature) (asked : Input) (c : Card) : Type 0 where
  pub card : c ≡ asked.card
  pub signed : IsSome (signature asked.card)

-- the local state that is asked, which the card admits with the last token
pub record IsAskedLocal (admits : Admits) (asked : Input) (l : List ℕ) : Type 0 where
  pub local : l ≡ asked.local
  pub admitted : admits asked.card asked.local asked.last

module _ (signature : Card → Option Signature) (admits : Admits) where
  -- the family's answer to an admitted input of a card with a signature
  pub record IsAnswerTo (family : Family) (asked : Input) (answer : Answer) : Type 0 where
    pub signed : IsSome (signature asked.card)
    pub admitted : admits asked.card asked.local asked.last
    pub is : answer ≡ answer_to family asked
