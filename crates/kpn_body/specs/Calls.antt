-- The duties of a stored closure of a card.
use Rattle.std.specs.Prelude.{◌≡◌, ℕ, List, Option}
use Rattle.std.specs.Coded.{Π_prop, →_prop}
use Rattle.kpn_model.specs.declared.token.Token.{Token}
use Rattle.kpn_model.specs.declared.kinds.Answer.{Answer}
use Rattle.kpn_body.specs.Equal.{answer_set}

-- what one card admits, or a call of its closure requires: a local state and a last token
abbrev pub AdmitsInput : Type 1
AdmitsInput = List ℕ → Option Token → Type 0

-- what a call with this local state and last token may return
abbrev pub MayReturn : Type 1
MayReturn = List ℕ → Option Token → Answer → Type 0

abbrev pub IsCallable : AdmitsInput → AdmitsInput → Type 0
IsCallable admits may_call = (local : List ℕ) (last : Option Token) → admits local last → may_call local last

module _ (admits : AdmitsInput) (may_return : MayReturn) (answer : List ℕ → Option Token → Answer) where
  -- if this is admitted and may be returned, it is the card's answer
  abbrev pub IsItsAnswer : List ℕ → Option Token → Answer → Type 0
  IsItsAnswer local last given = admits local last → may_return local last given → given ≡ answer local last

  -- what it returns is the card's answer
  abbrev pub Answers : Type 0
  Answers = (local : List ℕ) (last : Option Token) (given : Answer) → IsItsAnswer local last given

  its_answer_prop : (local : List ℕ) (last : Option Token) (given : Answer) → IsProp (IsItsAnswer local last given)
  its_answer_prop local last given = →_prop (→_prop (answer_set given (answer local last)))

  pub answers_prop : IsProp Answers
  answers_prop = Π_prop (λ local. Π_prop (λ last. Π_prop (λ given. its_answer_prop local last given)))
