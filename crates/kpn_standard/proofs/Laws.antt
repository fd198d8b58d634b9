-- What the laws ask of an answer: of a read, a write or a stop.
use Rattle.std.proofs.Common.{◌≡◌, ℕ, ◌<◌, ◌≤◌, ◌^◌, nat_lt, if◌then◌else◌, Bool, true, false, List, Option, Some, None, IsSome, option_and_then, refl, sym, ◌∙◌, ap, subst, ltb-true, ltb-false, arith}
use Rattle.kpn_model.specs.declared.token.Token.{Token}
use Rattle.kpn_model.specs.declared.token.Token.TheVariants.{Word, Flag}
use Rattle.kpn_model.specs.declared.token.Sort.{Sort}
use Rattle.kpn_model.specs.declared.token.Sort.TheVariants.{Words, Flags}
use Rattle.kpn_model.specs.declared.kinds.Card.{Card}
use Rattle.kpn_model.specs.declared.kinds.Signature.{Signature}
use Rattle.kpn_model.specs.declared.kinds.Act.TheVariants.{Read, Write, Stop}
use Rattle.kpn_model.specs.declared.kinds.Answer.{Answer}
use Rattle.kpn_model.specs.Lawful.{sort_of, Fits, port_at, in_sort, out_sort, NamesPort, LeadsOn}
use Rattle.kpn_standard.specs.Locals.{at}
use Rattle.kpn_standard.specs.declared.kind.Kind.{Kind}
use Rattle.kpn_standard.specs.Table.{row_of}
use Rattle.kpn_standard.specs.Signatures.{card_of_kind, given, signature}
use Rattle.kpn_standard.specs.Admitted.{Admitted, HasLine}

-- the answer names a port of the card, and what follows it is admitted
pub record IsLawful (card : Card) (answer : Answer) : Type 0 where
  pub names_port : NamesPort signature card answer.act
  pub leads_on : (token : Token) → LeadsOn signature Admitted card answer token

-- the arguments have 64 bits
pub record AreArguments (args : List ℕ) : Type 0 where
  pub first : at args 0 < 2 ^ 64
  pub second : at args 1 < 2 ^ 64

-- arguments with a signature pass the kind's test
pub passes : (test : Bool) (ins outs : List (Option Sort)) → IsSome (given test ins outs) → test ≡ true
passes true ins outs h = refl
passes false ins outs h = cc

-- and the signature has the kind's ports
pub has_ports : (test : Bool) (ins outs : List (Option Sort)) → IsSome (given test ins outs) → given test ins outs ≡ Some (record { ins = ins; outs = outs })
has_ports true ins outs h = refl
has_ports false ins outs h = cc

-- what holds of both branches holds of the conditional
pub by_test : (P : Answer → Type 0) (m n : ℕ) (a b : Answer) → (m < n → P a) → (n ≤ m → P b) → P (if nat_lt m n then a else b)
by_test P m n a b below above = go (nat_lt m n) refl
  where
    go : (x : Bool) → nat_lt m n ≡ x → P (if x then a else b)
    go true e = below (ltb-true m n e)
    go false e = above (ltb-false m n e)

-- what follows from less and from equal follows from at most
pub below_or_at : (P : Type 0) (m n : ℕ) → m ≤ n → (m < n → P) → (m ≡ n → P) → P
below_or_at P m n h below at_end = go (nat_lt m n) refl
  where
    go : (x : Bool) → nat_lt m n ≡ x → P
    go true e = below (ltb-true m n e)
    go false e = let above : n ≤ m = ltb-false m n e in at_end (omega arith)

-- what holds of two answers holds of the one that a flag chooses
pub by_flag : (P : Answer → Type 0) (f : Bool) (a b : Answer) → P a → P b → P (if f then a else b)
by_flag P true a b p q = p
by_flag P false a b p q = q

-- a port that has a sort exists
some_sort : (o : Option Sort) (s : Sort) → o ≡ Some s → IsSome o
some_sort o s e = subst (λ o. IsSome o) (sym e) refl

-- a stop is lawful
pub stops : (card : Card) (next : List ℕ) → IsLawful card (record { next = next; act = Stop })
stops card next = record { names_port = tt; leads_on = λ token. tt }

module _ (card : Card) (s : Signature) (signed : signature card ≡ Some s) (next : List ℕ) (k : ℕ) (small : k < 3) where
  -- the inputs of the card are those of its signature
  in_port : in_sort signature card k ≡ port_at s.ins k
  in_port = ap (λ (o : Option Signature). option_and_then (λ s. port_at s.ins k) o) signed

  -- and so are the outputs
  out_port : out_sort signature card k ≡ port_at s.outs k
  out_port = ap (λ (o : Option Signature). option_and_then (λ s. port_at s.outs k) o) signed

  -- a read of words is lawful, if it is admitted to go on with each word
  pub reads_word : port_at s.ins k ≡ Some Words → ((w : ℕ) → w < 2 ^ 64 → Admitted card next (Some (Word w))) → IsLawful card (record { next = next; act = Read k })
  reads_word port admitted = record { names_port = (small, some_sort _ _ (in_port ∙ port)); leads_on = λ token is fits. by_token token (sym (in_port ∙ port) ∙ is) fits }
    where
      by_token : (token : Token) → Some Words ≡ Some (sort_of token) → Fits token → Admitted card next (Some token)
      by_token (Word w) is fits = admitted w fits
      by_token (Flag f) is fits = cc

  -- a read of flags is lawful, if it is admitted to go on with each flag
  pub reads_flag : port_at s.ins k ≡ Some Flags → ((f : Bool) → Admitted card next (Some (Flag f))) → IsLawful card (record { next = next; act = Read k })
  reads_flag port admitted = record { names_port = (small, some_sort _ _ (in_port ∙ port)); leads_on = λ token is fits. by_token token (sym (in_port ∙ port) ∙ is) }
    where
      by_token : (token : Token) → Some Flags ≡ Some (sort_of token) → Admitted card next (Some token)
      by_token (Word w) is = cc
      by_token (Flag f) is = admitted f

  -- a write is lawful, if the token fits the port, and what follows is admitted
  pub writes : (token : Token) → port_at s.outs k ≡ Some (sort_of token) → Fits token → Admitted card next None → IsLawful card (record { next = next; act = Write k token })
  writes token port fits admitted = record { names_port = (small, fits, out_port ∙ port); leads_on = λ other. admitted }

-- what is admitted of a card is admitted of the card of its kind
pub admitted_by_kind : (kind : Kind) (card : Card) (local : List ℕ) (last : Option Token) → (row_of kind).number ≡ card.kind → Admitted card local last → Admitted (card_of_kind kind card.args) local last
admitted_by_kind kind card local last same h =
    record { local_fits = h.local_fits; last_fits = h.last_fits; line = subst (λ n. HasLine n card.args local last) (sym same) h.line }
