-- What the laws ask of an answer: of a read, a write, a stop, and of the two shapes of kinds.
use Rattle.std.proofs.Common.{◌≡◌, ℕ, ◌<◌, ◌^◌, ◌==◌, true, false, List, Option, Some, None, IsSome, option_and_then, sym, ◌∙◌, ap, subst, arith}
use Rattle.kpn_model.specs.declared.token.Token.{Token}
use Rattle.kpn_model.specs.declared.token.Token.TheVariants.{Word, Flag}
use Rattle.kpn_model.specs.declared.token.Sort.{Sort}
use Rattle.kpn_model.specs.declared.kinds.Card.{Card}
use Rattle.kpn_model.specs.declared.kinds.Signature.{Signature}
use Rattle.kpn_model.specs.declared.kinds.Act.TheVariants.{Read, Write, Stop}
use Rattle.kpn_model.specs.declared.kinds.Answer.{Answer}
use Rattle.kpn_model.specs.Lawful.{sort_of, Fits, port_at, in_sort, out_sort, NamesPort, LeadsOn}
use Rattle.kpn_standard.specs.Locals.{at, got, IsLocal, LastFits}
use Rattle.kpn_standard.proofs.Laws.{by_flag}
use Rattle.kpn_signals.specs.declared.turns.TheConstants.{READS_FIRST, READS_SECOND}
use Rattle.kpn_signals.specs.Shapes.{step_answer, number_of, join_answer, Admitted}
use Rattle.kpn_signals.specs.Signatures.{ports}
use Rattle.kpn_signals.proofs.Numbers.{local_word}

-- the answer names a port of the card, and what follows it is admitted
pub record IsLawful (card : Card) (answer : Answer) : Type 0 where
  pub names_port : NamesPort ports card answer.act
  pub leads_on : (token : Token) → LeadsOn ports (λ _. Admitted) card answer token

-- a token that fits is a number of 64 bits
pub number_fits : (token : Token) → Fits token → number_of token < 2 ^ 64
number_fits (Word n) fits = fits
number_fits (Flag true) fits = omega arith
number_fits (Flag false) fits = omega arith

-- so does the last token, if there is one or not
pub got_fits : (last : Option Token) → LastFits last → Fits (got last)
got_fits None fits = omega arith
got_fits (Some token) fits = fits

-- a stop is lawful
pub stops : (card : Card) (next : List ℕ) → IsLawful card (record { next = next; act = Stop })
stops card next = record { names_port = tt; leads_on = λ token. tt }

module _ (card : Card) (s : Signature) (is : ports card ≡ Some s) where
  -- the inputs of the card are those of its signature
  in_port : (k : ℕ) → in_sort ports card k ≡ port_at s.ins k
  in_port k = ap (λ (o : Option Signature). option_and_then (λ s. port_at s.ins k) o) is

  -- and so are the outputs
  out_port : (k : ℕ) → out_sort ports card k ≡ port_at s.outs k
  out_port k = ap (λ (o : Option Signature). option_and_then (λ s. port_at s.outs k) o) is

  -- a read of an input is lawful
  pub reads : (next : List ℕ) (k : ℕ) → k < 3 → IsSome (port_at s.ins k) → IsLocal next → IsLawful card (record { next = next; act = Read k })
  reads next k small port fits =
      record { names_port = (small, subst (λ (o : Option Sort). IsSome o) (sym (in_port k)) port); leads_on = λ token sort token_fits. record { local_fits = fits; last_fits = token_fits } }

  -- a write to an output of the token's sort is lawful
  pub writes : (next : List ℕ) (k : ℕ) (token : Token) → k < 3 → Fits token → port_at s.outs k ≡ Some (sort_of token) → IsLocal next → IsLawful card (record { next = next; act = Write k token })
  writes next k token small token_fits port fits =
      record { names_port = (small, token_fits, out_port k ∙ port); leads_on = λ other. record { local_fits = fits; last_fits = tt } }

  -- a step is lawful that writes the output's sort
  pub step_lawful : (step : List ℕ → Token → List ℕ × Token) → IsSome (port_at s.ins 0) → ((kept : List ℕ) (t : Token) → IsLocal kept → Fits t → IsLocal (step kept t).0 × Fits (step kept t).1 × (port_at s.outs 0 ≡ Some (sort_of (step kept t).1))) → (local : List ℕ) (last : Option Token) → IsLocal local → LastFits last → IsLawful card (step_answer step local last)
  step_lawful step port well local None fits last_fits = reads local 0 (omega arith) port fits
  step_lawful step port well local (Some t) fits last_fits =
      let made = well local t fits last_fits in writes (step local t).0 0 (step local t).1 (omega arith) made.1 made.2 made.0

  -- a join is lawful that writes the output's sort
  pub join_lawful : (join : ℕ → ℕ → Token → ℕ × Token) → IsSome (port_at s.ins 0) → IsSome (port_at s.ins 1) → ((kept first : ℕ) (t : Token) → kept < 2 ^ 64 → first < 2 ^ 64 → Fits t → ((join kept first t).0 < 2 ^ 64) × Fits (join kept first t).1 × (port_at s.outs 0 ≡ Some (sort_of (join kept first t).1))) → (local : List ℕ) (last : Option Token) → IsLocal local → LastFits last → IsLawful card (join_answer join local last)
  join_lawful join port_0 port_1 well local last fits last_fits =
      let kept = local_word local 2 fits in
      let made = well (at local 2) (at local 1) (got last) kept (local_word local 1 fits) (got_fits last last_fits) in
      by_flag (λ a. IsLawful card a) (at local 0 == READS_FIRST) _ _
      (reads _ 0 (omega arith) port_0 (omega arith, omega arith, kept, omega arith))
      (by_flag (λ a. IsLawful card a) (at local 0 == READS_SECOND) _ _
      (reads _ 1 (omega arith) port_1 (omega arith, number_fits (got last) (got_fits last last_fits), kept, omega arith))
      (writes _ 0 _ (omega arith) made.1 made.2 (omega arith, omega arith, made.0, omega arith)))
