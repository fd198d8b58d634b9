-- What names and cards of the standard kinds mean.
use Rattle.std.specs.Prelude.{ℕ, zero, suc, ◌+◌, ◌^◌, ◌==◌, nat_lt, ◌&&◌, if◌then◌else◌, Bool, true, List, Option, Some, None, option_map, option_and_then}
use Rattle.kpn_model.specs.declared.token.Sort.{Sort}
use Rattle.kpn_model.specs.declared.kinds.Card.{Card}
use Rattle.kpn_model.specs.declared.kinds.Signature.{Signature}
use Rattle.kpn_standard.specs.declared.kind.Kind.{Kind}
use Rattle.kpn_standard.specs.declared.kind.Kind.TheVariants.{Count, Weave, Divides}
use Rattle.kpn_standard.specs.Locals.{at}
use Rattle.kpn_standard.specs.Table.{row_of, numbered, called}

abbrev pub named : List ℕ → Option (ℕ × ℕ)
named name = option_map (λ kind. ((row_of kind).number, (row_of kind).arguments)) (called name)

abbrev pub card : ℕ → List ℕ → Card
card number args = record { kind = number; args = args }

abbrev pub card_of_kind : Kind → List ℕ → Card
card_of_kind kind args = card (row_of kind).number args

-- all arguments from the third, second or first on are 0
abbrev pub two_used : List ℕ → Bool
two_used args = at args 2 == 0

abbrev pub one_used : List ℕ → Bool
one_used args = (at args 1 == 0) && two_used args

abbrev pub none_used : List ℕ → Bool
none_used args = (at args 0 == 0) && one_used args

abbrev pub are_used : ℕ → List ℕ → Bool
are_used zero = none_used
are_used (suc zero) = one_used
are_used _ = two_used

abbrev pub suit : Kind → List ℕ → Bool
suit Count args = nat_lt (at args 0 + at args 1) (2 ^ 64)
suit Weave args = nat_lt 0 (at args 0) && nat_lt 0 (at args 1)
suit Divides args = nat_lt 0 (at args 0)
suit _ args = true

abbrev pub accepts : Kind → List ℕ → Bool
accepts kind args = are_used (row_of kind).arguments args && suit kind args

abbrev pub given : Bool → List (Option Sort) → List (Option Sort) → Option Signature
given accepted ins outs = if accepted then Some (record { ins = ins; outs = outs }) else None

abbrev pub signature_of_kind : Kind → List ℕ → Option Signature
signature_of_kind kind args = given (accepts kind args) (row_of kind).ins (row_of kind).outs

abbrev pub signature : Card → Option Signature
signature card = option_and_then (λ kind. signature_of_kind kind card.args) (numbered card.kind)
