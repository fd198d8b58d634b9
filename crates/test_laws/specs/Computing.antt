-- Worked networks: what the kinds compute, and start tokens in a loop.
use Rattle.std.specs.Prelude.{true, false, List, [], ◌∷◌}
use Rattle.kpn_model.specs.declared.token.Token.{Token}
use Rattle.kpn_model.specs.declared.token.Token.TheVariants.{Flag}
use Rattle.kpn_model.specs.declared.parts.Channel.{Channel}
use Rattle.kpn_model.specs.declared.history.End.TheVariants.{Deadlock}
use Rattle.kpn_model.specs.declared.history.Place.TheVariants.{Stopped, Reads}
use Rattle.kpn_model.specs.Network.{Network}
use Rattle.kpn_model.specs.History.{Digest}
use Rattle.kpn_standard.specs.Standard.{standard}
use Rattle.kpn_laws.specs.Digested.{HasDigest}
use Rattle.test_laws.specs.Building.{count, sink, copy, add, scale, merge, divides, switch, words, flags, sums_back, numbers, just_number, one_to_three, one_to_six, network}

-- twice 9,223,372,036,854,775,807, and two more: sums and products wrap modulo 2^64
abbrev pub products_wrap : Network
products_wrap =
    network (count 9223372036854775807 1 ∷ scale 2 ∷ count 2 1 ∷ add ∷ sink 1 ∷ [])
    (words (0, 0) (1, 0) 1 ∷ words (1, 0) (3, 0) 1 ∷ words (2, 0) (3, 1) 1 ∷ words (3, 0) (4, 0) 1 ∷ [])

abbrev pub products_wrap_digest : Digest
products_wrap_digest =
    record {
      cause = Deadlock;
      places = Stopped ∷ Reads 0 ∷ Stopped ∷ Reads 1 ∷ Stopped ∷ [];
      steps = 2 ∷ 2 ∷ 2 ∷ 3 ∷ 2 ∷ [];
      capacities = 1 ∷ 1 ∷ 1 ∷ 1 ∷ [];
      streams = just_number 9223372036854775807 ∷ just_number 18446744073709551614 ∷ just_number 2 ∷ just_number 0 ∷ [];
      rests = [] ∷ [] ∷ [] ∷ [] ∷ [];
      growths = [];
      entries = 11;
    }

abbrev pub ProductsWrap : Type 0
ProductsWrap = HasDigest standard products_wrap products_wrap_digest

-- from the flags to the switch, and from it to each sink
abbrev pub around_switch : List Channel
around_switch = flags (2, 0) (3, 1) 1 ∷ words (3, 0) (4, 0) 1 ∷ words (3, 1) (5, 0) 1 ∷ []

-- whether each number from one to six is even
abbrev pub evenness : List Token
evenness = Flag false ∷ Flag true ∷ Flag false ∷ Flag true ∷ Flag false ∷ Flag true ∷ []

-- the odd and the even numbers of them
abbrev pub odd_ones : List Token
odd_ones = numbers (1 ∷ 3 ∷ 5 ∷ [])

abbrev pub even_ones : List Token
even_ones = numbers (2 ∷ 4 ∷ 6 ∷ [])

-- a switch sends odd numbers one way and even ones the other, as flags say
abbrev pub switched_by_flags : Network
switched_by_flags =
    network (count 1 6 ∷ copy ∷ divides 2 ∷ switch ∷ sink 3 ∷ sink 3 ∷ [])
    (words (0, 0) (1, 0) 1 ∷ words (1, 0) (2, 0) 1 ∷ words (1, 1) (3, 0) 1 ∷ around_switch)

abbrev pub switched_by_flags_digest : Digest
switched_by_flags_digest =
    record {
      cause = Deadlock;
      places = Stopped ∷ Reads 0 ∷ Reads 1 ∷ Reads 3 ∷ Stopped ∷ Stopped ∷ [];
      steps = 7 ∷ 18 ∷ 12 ∷ 18 ∷ 4 ∷ 4 ∷ [];
      capacities = 1 ∷ 1 ∷ 1 ∷ 1 ∷ 1 ∷ 1 ∷ [];
      streams = one_to_six ∷ one_to_six ∷ one_to_six ∷ evenness ∷ odd_ones ∷ even_ones ∷ [];
      rests = [] ∷ [] ∷ [] ∷ [] ∷ [] ∷ [] ∷ [];
      growths = [];
      entries = 63;
    }

abbrev pub SwitchedByFlags : Type 0
SwitchedByFlags = HasDigest standard switched_by_flags switched_by_flags_digest

-- the sums of one to three
abbrev pub one_three_six : List Token
one_three_six = numbers (1 ∷ 3 ∷ 6 ∷ [])

-- running sums of 1, 2, 3: each sum comes back through a channel that begins with 0
abbrev pub running_sums : Network
running_sums =
    network (count 1 3 ∷ add ∷ copy ∷ sink 3 ∷ [])
    (words (0, 0) (1, 0) 1 ∷ sums_back ∷ words (1, 0) (2, 0) 1 ∷ words (2, 1) (3, 0) 1 ∷ [])

abbrev pub running_sums_digest : Digest
running_sums_digest =
    record {
      cause = Deadlock;
      places = Stopped ∷ Reads 0 ∷ Reads 2 ∷ Stopped ∷ [];
      steps = 4 ∷ 9 ∷ 9 ∷ 4 ∷ [];
      capacities = 1 ∷ 1 ∷ 1 ∷ 1 ∷ [];
      streams = one_to_three ∷ (numbers (0 ∷ 1 ∷ 3 ∷ 6 ∷ [])) ∷ one_three_six ∷ one_three_six ∷ [];
      rests = [] ∷ (numbers (6 ∷ [])) ∷ [] ∷ [] ∷ [];
      growths = [];
      entries = 26;
    }

abbrev pub RunningSums : Type 0
RunningSums = HasDigest standard running_sums running_sums_digest

-- two rising streams merge into one, with equal numbers once
abbrev pub merged_in_order : Network
merged_in_order =
    network (count 1 3 ∷ count 2 2 ∷ merge ∷ sink 3 ∷ [])
    (words (0, 0) (2, 0) 1 ∷ words (1, 0) (2, 1) 1 ∷ words (2, 0) (3, 0) 1 ∷ [])

abbrev pub merged_in_order_digest : Digest
merged_in_order_digest =
    record {
      cause = Deadlock;
      places = Stopped ∷ Stopped ∷ Reads 0 ∷ Stopped ∷ [];
      steps = 4 ∷ 3 ∷ 8 ∷ 4 ∷ [];
      capacities = 1 ∷ 1 ∷ 1 ∷ [];
      streams = (numbers (1 ∷ 2 ∷ 3 ∷ [])) ∷ (numbers (2 ∷ 3 ∷ [])) ∷ (numbers (1 ∷ 2 ∷ 3 ∷ [])) ∷ [];
      rests = [] ∷ [] ∷ [] ∷ [];
      growths = [];
      entries = 19;
    }

abbrev pub MergedInOrder : Type 0
MergedInOrder = HasDigest standard merged_in_order merged_in_order_digest
