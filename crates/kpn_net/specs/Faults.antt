-- The faults of a sketch, and the first of them.
use Rattle.std.specs.Prelude.{ℕ, ℤ, pos, negsuc, Bool, true, false, not, ◌&&◌, ◌||◌, ◌==◌, nat_lt, int_lt, unsigned_abs, List, [], ◌∷◌, length, slice_index_or, Option, Some, None, is_some, is_none, option_and_then}
use Rattle.std.specs.Option.{option_map_or}
use Rattle.std.specs.List.{find, list_any}
use Rattle.std.specs.Ordering.{int_eq}
use Rattle.std.specs.Str.{bytes_eq}
use Rattle.kpn_sketch.specs.declared.fault.NetFault.{NetFault}
use Rattle.kpn_sketch.specs.declared.fault.NetFault.TheVariants.{Version, Counts, Name, Kind, Args, NoEnd, Twice, Unused, Sorts, Capacity, Budget, Tokens, Step}
use Rattle.kpn_model.specs.declared.token.Sort.{Sort}
use Rattle.kpn_model.specs.declared.token.Sort.TheVariants.{Words, Flags}
use Rattle.kpn_sketch.specs.declared.sketch.TokenSketch.{TokenSketch}
use Rattle.kpn_sketch.specs.declared.sketch.TokenSketch.TheVariants.{Integer, Boolean, Word}
use Rattle.kpn_sketch.specs.declared.sketch.ProcessSketch.{ProcessSketch}
use Rattle.kpn_sketch.specs.declared.sketch.ChannelSketch.{ChannelSketch}
use Rattle.kpn_sketch.specs.declared.sketch.Sketch.{Sketch}
use Rattle.kpn_model.specs.declared.kinds.Card.{Card}
use Rattle.kpn_model.specs.declared.kinds.Signature.{Signature}
use Rattle.kpn_model.specs.declared.limits.TheConstants.{MOST_PROCESSES, MOST_CHANNELS, GREATEST_STEP}
use Rattle.kpn_model.specs.Lawful.{port_at}
use Rattle.kpn_model.specs.texts.NameForm.{is_name}
use Rattle.kpn_model.specs.texts.Version.{is_two, ceiling_in, greatest_budget_in}

-- the test holds of some item and a later one
abbrev pub any_pair : {A : Type 0} → (A → A → Bool) → List A → Bool
any_pair test [] = false
any_pair test (x ∷ xs) = list_any (test x) xs || any_pair test xs

abbrev pub is_outside : ℤ → ℤ → ℤ → Bool
is_outside low high z = int_lt z low || int_lt high z

abbrev pub same_process : ProcessSketch → ProcessSketch → Bool
same_process p q = bytes_eq p.name q.name

abbrev pub same_channel : ChannelSketch → ChannelSketch → Bool
same_channel c d = bytes_eq c.name d.name

abbrev pub same_out : ChannelSketch → ChannelSketch → Bool
same_out c d = bytes_eq c.from d.from && int_eq c.out d.out

abbrev pub same_in : ChannelSketch → ChannelSketch → Bool
same_in c d = bytes_eq c.to d.to && int_eq c.input d.input

abbrev pub port_sort : List (Option Sort) → ℤ → Option Sort
port_sort ports (pos k) = port_at ports k
port_sort ports (negsuc k) = None

abbrev pub is_sort : Sort → Option Sort → Bool
is_sort sort None = false
is_sort Words (Some Words) = true
is_sort Flags (Some Flags) = true
is_sort _ (Some _) = false

-- an integer from 0 on and a word by its value are words; a boolean is a flag
abbrev pub is_token : Sort → TokenSketch → Bool
is_token Words (Integer z) = not (int_lt z (pos 0))
is_token Flags (Boolean b) = true
is_token Words (Word w) = true
is_token Words (Boolean b) = false
is_token Flags (Integer z) = false
is_token Flags (Word w) = false

abbrev pub has_wrong_tokens : ChannelSketch → Bool
has_wrong_tokens c = list_any (λ t. not (is_token c.sort t)) c.tokens || int_lt c.capacity (pos (length c.tokens))

-- missing arguments are 0
abbrev pub card_with : ℕ → List ℤ → Card
card_with kind args =
    let arg : ℕ → ℕ = λ k. unsigned_abs (slice_index_or args k (pos 0)) in
    record { kind = kind; args = arg 0 ∷ arg 1 ∷ arg 2 ∷ [] }

-- the faults of a sketch, from the lowest number on
abbrev pub faults_in_order : List NetFault
faults_in_order =
    Version ∷ Counts ∷ Name ∷ Kind ∷ Args ∷ NoEnd ∷ Twice ∷ Unused ∷ Sorts ∷ Capacity ∷ Budget ∷ Tokens ∷ Step ∷ []

module _ (named : List ℕ → Option (ℕ × ℕ)) (signature : Card → Option Signature) where
  abbrev pub signature_of : ProcessSketch → Option Signature
  signature_of p = option_and_then (λ kind. signature (card_with kind.0 p.args)) (named p.kind)

  abbrev pub has_unknown_kind : ProcessSketch → Bool
  has_unknown_kind p = is_none (named p.kind)

  abbrev pub takes_other_count : ProcessSketch → Bool
  takes_other_count p = option_map_or (λ kind. not (length p.args == kind.1)) (named p.kind) true

  -- an argument is negative, or no card with these arguments has ports
  abbrev pub has_rejected_args : ProcessSketch → Bool
  has_rejected_args p = list_any (λ z. int_lt z (pos 0)) p.args || is_none (signature_of p)

  abbrev pub has_wrong_args : ProcessSketch → Bool
  has_wrong_args p = takes_other_count p || (nat_lt 3 (length p.args) || has_rejected_args p)

  module _ (sketch : Sketch) where
    abbrev pub signature_named : List ℕ → Option Signature
    signature_named name = option_and_then signature_of (find (λ p. bytes_eq p.name name) sketch.processes)

    abbrev pub sketched_out_sort : ChannelSketch → Option Sort
    sketched_out_sort c = option_and_then (λ s. port_sort s.outs c.out) (signature_named c.from)

    abbrev pub sketched_in_sort : ChannelSketch → Option Sort
    sketched_in_sort c = option_and_then (λ s. port_sort s.ins c.input) (signature_named c.to)

    -- a channel begins or ends at this port
    abbrev pub has_channel_from : List ℕ → ℤ → Bool
    has_channel_from name k = list_any (λ c. bytes_eq c.from name && int_eq c.out k) sketch.channels

    abbrev pub has_channel_to : List ℕ → ℤ → Bool
    has_channel_to name k = list_any (λ c. bytes_eq c.to name && int_eq c.input k) sketch.channels

    -- the port exists, and has no channel
    abbrev pub is_unused_out : List ℕ → Signature → ℤ → Bool
    is_unused_out name s k = is_some (port_sort s.outs k) && not (has_channel_from name k)

    abbrev pub is_unused_in : List ℕ → Signature → ℤ → Bool
    is_unused_in name s k = is_some (port_sort s.ins k) && not (has_channel_to name k)

    abbrev pub is_unused : List ℕ → Signature → ℤ → Bool
    is_unused name s k = is_unused_out name s k || is_unused_in name s k

    -- one of the three ports on either side exists and has no channel
    abbrev pub has_unused : List ℕ → Signature → Bool
    has_unused name s = is_unused name s (pos 0) || (is_unused name s (pos 1) || is_unused name s (pos 2))

    abbrev pub has_unused_port : ProcessSketch → Bool
    has_unused_port p = option_map_or (λ s. has_unused p.name s) (signature_of p) false

    -- a process at an end does not exist or lacks the port
    abbrev pub is_without_end : ChannelSketch → Bool
    is_without_end c = is_none (sketched_out_sort c) || is_none (sketched_in_sort c)

    -- a port at an end is missing or has another sort
    abbrev pub is_of_other_sort : ChannelSketch → Bool
    is_of_other_sort c = not (is_sort c.sort (sketched_out_sort c)) || not (is_sort c.sort (sketched_in_sort c))

    -- there are more than may be
    abbrev pub has_too_many : Bool
    has_too_many = nat_lt MOST_PROCESSES (length sketch.processes) || nat_lt MOST_CHANNELS (length sketch.channels)

    abbrev pub has_fault : NetFault → Bool
    has_fault Version = not (int_eq sketch.version (pos 1) || is_two sketch.version)
    has_fault Counts = length sketch.processes == 0 || has_too_many
    has_fault Name =
        (list_any (λ p. not (is_name p.name)) sketch.processes || list_any (λ c. not (is_name c.name)) sketch.channels)
        || (any_pair same_process sketch.processes || any_pair same_channel sketch.channels)
    has_fault Kind = list_any has_unknown_kind sketch.processes
    has_fault Args = list_any has_wrong_args sketch.processes
    has_fault NoEnd = list_any (λ c. is_without_end c) sketch.channels
    has_fault Twice = any_pair same_out sketch.channels || any_pair same_in sketch.channels
    has_fault Unused = list_any has_unused_port sketch.processes
    has_fault Sorts = list_any (λ c. is_of_other_sort c) sketch.channels
    has_fault Capacity = list_any (λ c. is_outside (pos 1) (pos (ceiling_in sketch.version)) c.capacity) sketch.channels
    has_fault Budget = is_outside (pos 1) (pos (greatest_budget_in sketch.version)) sketch.budget
    has_fault Tokens = list_any has_wrong_tokens sketch.channels
    has_fault Step = is_outside (pos 1) (pos GREATEST_STEP) sketch.step
    has_fault _ = false

    -- the fault with the lowest number whose condition holds
    abbrev pub first_fault : Option NetFault
    first_fault = find has_fault faults_in_order
