-- There is at most one proof that two answers are equal.
use Rattle.std.specs.Prelude.{◌≡◌, ◌⊎◌, ℕ, Bool, List}
use Rattle.std.specs.Coded.{Coded, Coded-set, code_by, coded×, coded⊎, coded_ℕ, coded_bool, coded_list}
use base.Stored.{coded_unit}
use mathlib.Core.Logic.{inl, inr}
use Rattle.kpn_model.specs.declared.token.Token.{Token}
use Rattle.kpn_model.specs.declared.token.Token.TheVariants.{Word, Flag}
use Rattle.kpn_model.specs.declared.kinds.Act.{Act}
use Rattle.kpn_model.specs.declared.kinds.Act.TheVariants.{Read, Write, Stop}
use Rattle.kpn_model.specs.declared.kinds.Answer.{Answer}

abbrev plain_token : Token → ℕ ⊎ Bool
plain_token (Word w) = inl w
plain_token (Flag f) = inr f

abbrev token_of : ℕ ⊎ Bool → Token
token_of (inl w) = Word w
token_of (inr f) = Flag f

token_of-plain : (t : Token) → token_of (plain_token t) ≡ t
token_of-plain (Word w) = λ i. Word w
token_of-plain (Flag f) = λ i. Flag f

abbrev coded_token : Coded Token
coded_token = code_by (ℕ ⊎ Bool) (coded⊎ coded_ℕ coded_bool) plain_token token_of token_of-plain

-- a read's port, a write's port and token, or a stop
abbrev PlainAct : Type 0
PlainAct = ℕ ⊎ ((ℕ × Token) ⊎ Unit {0})

abbrev plain_act : Act → PlainAct
plain_act (Read k) = inl k
plain_act (Write k t) = inr (inl (k, t))
plain_act Stop = inr (inr tt)

abbrev act_of : PlainAct → Act
act_of (inl k) = Read k
act_of (inr (inl written)) = Write written.0 written.1
act_of (inr (inr _)) = Stop

act_of-plain : (a : Act) → act_of (plain_act a) ≡ a
act_of-plain (Read k) = λ i. Read k
act_of-plain (Write k t) = λ i. Write k t
act_of-plain Stop = λ i. Stop

abbrev coded_plain_act : Coded PlainAct
coded_plain_act = coded⊎ coded_ℕ (coded⊎ (coded× coded_ℕ coded_token) coded_unit)

abbrev coded_act : Coded Act
coded_act = code_by PlainAct coded_plain_act plain_act act_of act_of-plain

abbrev plain_answer : Answer → List ℕ × Act
plain_answer a = (a.next, a.act)

abbrev answer_from : List ℕ × Act → Answer
answer_from p = record { next = p.0; act = p.1 }

abbrev coded_plain_answer : Coded (List ℕ × Act)
coded_plain_answer = coded× (coded_list coded_ℕ) coded_act

abbrev coded_answer : Coded Answer
coded_answer = code_by (List ℕ × Act) coded_plain_answer plain_answer answer_from (λ a i. a)

pub answer_set : (a b : Answer) → IsProp (a ≡ b)
answer_set a b = Coded-set coded_answer a b
