-- The shape of a formula: how many states it has, and its ports.
use Rattle.std.specs.Prelude.{ℕ, ◌+◌, ◌*◌, ◌/◌, ◌%◌, ◌^◌, ◌==◌, nat_lt, nat_le, ◌&&◌, ◌||◌, if◌then◌else◌, Bool, List, [], ◌∷◌, Option, Some, None, option_map}
use Rattle.std.specs.List.{list_all}
use Rattle.kpn_model.specs.declared.token.Sort.{Sort}
use Rattle.kpn_model.specs.declared.token.Sort.TheVariants.{Words, Flags}
use Rattle.kpn_model.specs.declared.kinds.Card.{Card}
use Rattle.kpn_model.specs.declared.kinds.Signature.{Signature}
use Rattle.kpn_model.specs.Lawful.{is_filled}
use Rattle.kpn_rounds.specs.Steps.{count}
use Rattle.kpn_formula.specs.declared.shape.Shape.{Shape}

-- the ports that carry flags, as bits
abbrev pub flags : List (Option Sort) → ℕ
flags (Some Flags ∷ ports) = 1 + 2 * flags ports
flags (_ ∷ ports) = 2 * flags ports
flags [] = 0

-- the kind's number
abbrev pub number_of : Shape → ℕ
number_of s = s.states + 8 * (count s.ins + 4 * (count s.outs + 4 * (flags s.ins + 8 * flags s.outs)))

-- a port, if it is there: of flags, if the last bit is 1
abbrev pub port : Bool → ℕ → Option Sort
port there bits = if there then Some (if bits % 2 == 1 then Flags else Words) else None

-- n ports
abbrev pub ports_of : ℕ → ℕ → List (Option Sort)
ports_of n bits = port (nat_lt 0 n) bits ∷ port (nat_lt 1 n) (bits / 2) ∷ port (nat_lt 2 n) (bits / 4) ∷ []

-- the parts of a kind's number
abbrev pub states_of : ℕ → ℕ
states_of kind = kind % 8

abbrev pub inputs_of : ℕ → ℕ
inputs_of kind = kind / 8 % 4

abbrev pub outputs_of : ℕ → ℕ
outputs_of kind = kind / 32 % 4

abbrev pub in_ports_of : ℕ → List (Option Sort)
in_ports_of kind = ports_of (inputs_of kind) (kind / 128 % 8)

abbrev pub out_ports_of : ℕ → List (Option Sort)
out_ports_of kind = ports_of (outputs_of kind) (kind / 1024 % 8)

abbrev pub shape_numbered : ℕ → Shape
shape_numbered kind = record { states = states_of kind; ins = in_ports_of kind; outs = out_ports_of kind }

-- for how many states there is room beside n inputs and m outputs
abbrev pub most_states : ℕ → ℕ → ℕ
most_states n m = if nat_le n 1 && nat_le m 1 then 4 else if (n == 3) || (m == 3) then 1 else 2

abbrev pub is_allowed_with : ℕ → ℕ → ℕ → Bool
is_allowed_with k n m = nat_lt 0 (n + m) && nat_le (k + m) 5 && nat_le (k + m + n) 6 && nat_le k (most_states n m)

abbrev pub is_allowed : Shape → Bool
is_allowed s = is_filled s.ins && is_filled s.outs && is_allowed_with s.states (count s.ins) (count s.outs)

-- whether a number is that of an allowed shape
abbrev pub is_kind : ℕ → Bool
is_kind kind = is_allowed (shape_numbered kind) && (number_of (shape_numbered kind) == kind)

-- arguments have 60 bits
abbrev pub has_digits : Card → Bool
has_digits card = list_all (λ arg. nat_lt arg (2 ^ 60)) card.args

abbrev pub shape_of : Card → Option Shape
shape_of card = if has_digits card && is_kind card.kind then Some (shape_numbered card.kind) else None

abbrev pub ports : Card → Option Signature
ports card = option_map (λ s. record { ins = s.ins; outs = s.outs }) (shape_of card)
