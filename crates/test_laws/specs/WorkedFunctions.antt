-- What processes of the standard kinds, of a filter and of rounds write, worked out by hand.
use Rattle.std.specs.Prelude.{ℕ, ◌+◌, ◌%◌, ◌^◌, true, false, List, [], ◌∷◌, Option, Some}
use Rattle.kpn_model.specs.declared.token.Token.{Token}
use Rattle.kpn_model.specs.declared.token.Sort.TheVariants.{Words, Flags}
use Rattle.kpn_model.specs.declared.kinds.Card.{Card}
use Rattle.kpn_model.specs.declared.kinds.Signature.{Signature}
use Rattle.kpn_standard.specs.declared.kind.Kind.TheVariants.{Count, Sink, Take, Copy, Prefix, Add, Scale, Weave, Merge, Divides, Switch, Select}
use Rattle.kpn_standard.specs.Locals.{at}
use Rattle.kpn_standard.specs.Table.{word_and_flag}
use Rattle.kpn_compute.specs.Filters.{filter_family}
use Rattle.kpn_rounds.specs.Rounds.{rounds_family}
use Rattle.kpn_streams.specs.Fed.{Writes}
use Rattle.kpn_streams.specs.Functions.{words, flags, woven}
use Rattle.kpn_streams.specs.Kinds.{KindWrites}
use Rattle.kpn_streams.specs.Joined.{TakesTurns, IsRisingUnion}

abbrev pub CountsFourFromThree : Type 0
CountsFourFromThree = KindWrites Count (3 ∷ 4 ∷ 0 ∷ []) [] (words (3 ∷ 4 ∷ 5 ∷ 6 ∷ []) ∷ [])

abbrev pub SinksAll : Type 0
SinksAll = KindWrites Sink (2 ∷ 0 ∷ 0 ∷ []) (words (7 ∷ 8 ∷ 9 ∷ []) ∷ []) ([] ∷ [])

abbrev pub TakesTwo : Type 0
TakesTwo = KindWrites Take (2 ∷ 0 ∷ 0 ∷ []) (words (7 ∷ 8 ∷ 9 ∷ []) ∷ []) (words (7 ∷ 8 ∷ []) ∷ [])

abbrev pub CopiesToBoth : Type 0
CopiesToBoth = KindWrites Copy (0 ∷ 0 ∷ 0 ∷ []) (words (4 ∷ 5 ∷ []) ∷ []) (words (4 ∷ 5 ∷ []) ∷ words (4 ∷ 5 ∷ []) ∷ [])

abbrev pub BeginsWithNine : Type 0
BeginsWithNine = KindWrites Prefix (9 ∷ 0 ∷ 0 ∷ []) (words (4 ∷ 5 ∷ []) ∷ []) (words (9 ∷ 4 ∷ 5 ∷ []) ∷ [])

-- of a kind that takes no arguments
abbrev pub no_arguments : List ℕ
no_arguments = 0 ∷ 0 ∷ 0 ∷ []

-- the second sum is 2^64; the third word of the first stream has no partner
abbrev pub to_add : List (List Token)
to_add = words (1 ∷ 18446744073709551615 ∷ 3 ∷ []) ∷ words (10 ∷ 1 ∷ []) ∷ []

abbrev pub AddsAndWraps : Type 0
AddsAndWraps = KindWrites Add no_arguments to_add (words (11 ∷ 0 ∷ []) ∷ [])

-- half the range of a word, 2^63
abbrev pub half_word : ℕ
half_word = 9223372036854775808

-- three times 2^63 is 2^64 + 2^63
abbrev pub ScalesAndWraps : Type 0
ScalesAndWraps = KindWrites Scale (3 ∷ 0 ∷ 0 ∷ []) (words (5 ∷ half_word ∷ []) ∷ []) (words (15 ∷ half_word ∷ []) ∷ [])

-- two and one in turn; the first stream ends within its turn, and 30 is left
abbrev pub to_weave : List (List Token)
to_weave = words (1 ∷ 2 ∷ 3 ∷ 4 ∷ 5 ∷ []) ∷ words (10 ∷ 20 ∷ 30 ∷ []) ∷ []

abbrev pub WeavesTwoAndOne : Type 0
WeavesTwoAndOne =
    KindWrites Weave (2 ∷ 1 ∷ 0 ∷ []) to_weave (words (1 ∷ 2 ∷ 10 ∷ 3 ∷ 4 ∷ 20 ∷ 5 ∷ []) ∷ [])

-- 3 comes once; the second stream ends, so 5 and 9 are not written
abbrev pub to_merge : List (List Token)
to_merge = words (1 ∷ 3 ∷ 5 ∷ 9 ∷ []) ∷ words (2 ∷ 3 ∷ 4 ∷ []) ∷ []

abbrev pub MergesUpToFour : Type 0
MergesUpToFour = KindWrites Merge no_arguments to_merge (words (1 ∷ 2 ∷ 3 ∷ 4 ∷ []) ∷ [])

-- three divides 9 and 0
abbrev pub to_divide : List (List Token)
to_divide = words (9 ∷ 10 ∷ 0 ∷ []) ∷ []

abbrev pub ThreeDivides : Type 0
ThreeDivides = KindWrites Divides (3 ∷ 0 ∷ 0 ∷ []) to_divide (flags (true ∷ false ∷ true ∷ []) ∷ [])

-- the fourth word has no flag
abbrev pub to_switch : List (List Token)
to_switch = words (1 ∷ 2 ∷ 3 ∷ 4 ∷ []) ∷ flags (true ∷ false ∷ true ∷ []) ∷ []

abbrev pub SwitchesByFlags : Type 0
SwitchesByFlags =
    KindWrites Switch no_arguments to_switch (words (2 ∷ []) ∷ words (1 ∷ 3 ∷ []) ∷ [])

-- the last flag asks for a third word of the first stream
abbrev pub to_select : List (List Token)
to_select =
    words (1 ∷ 2 ∷ []) ∷ words (10 ∷ 20 ∷ []) ∷ flags (true ∷ false ∷ false ∷ true ∷ false ∷ []) ∷ []

abbrev pub SelectsByFlags : Type 0
SelectsByFlags =
    KindWrites Select no_arguments to_select (words (10 ∷ 1 ∷ 2 ∷ 20 ∷ []) ∷ [])

-- a filter that keeps and writes the total so far, modulo 2^64
abbrev pub at_none : Card → List ℕ
at_none card = 0 ∷ 0 ∷ 0 ∷ 0 ∷ []

abbrev pub total : Card → List ℕ → ℕ → List ℕ × ℕ
total card kept w = ((at kept 0 + w) % 2 ^ 64 ∷ 0 ∷ 0 ∷ 0 ∷ [], (at kept 0 + w) % 2 ^ 64)

-- the third total is 2^64 + 2
abbrev pub to_total : List (List Token)
to_total = words (1 ∷ 2 ∷ 18446744073709551615 ∷ 4 ∷ []) ∷ []

abbrev pub TotalsSoFar : Type 0
TotalsSoFar =
    (card : Card) → Writes (filter_family at_none total) card to_total (words (1 ∷ 3 ∷ 2 ∷ 6 ∷ []) ∷ [])

-- rounds of a word, a flag and a word, which keep and write the total so far of all three, and write the flag. The
-- second of the kept words is lost
abbrev pub tally_ports : Card → Option Signature
tally_ports card = Some (record { ins = Some Words ∷ Some Flags ∷ Some Words ∷ []; outs = word_and_flag })

-- the total so far
abbrev pub tallied : List ℕ → List ℕ → ℕ
tallied kept inputs = (at kept 0 + at kept 1 + at inputs 0 + at inputs 1 + at inputs 2) % 2 ^ 64

abbrev pub tally : Card → List ℕ → List ℕ → List ℕ × List ℕ
tally card kept inputs =
    let sum = tallied kept inputs in (sum ∷ 9 ∷ 0 ∷ 0 ∷ [], sum ∷ at inputs 1 ∷ 0 ∷ [])

-- for the third round the last input has no word
abbrev pub to_tally : List (List Token)
to_tally = words (1 ∷ 2 ∷ 3 ∷ []) ∷ flags (true ∷ false ∷ true ∷ []) ∷ words (10 ∷ 20 ∷ []) ∷ []

abbrev pub TalliesTwoRounds : Type 0
TalliesTwoRounds =
    (card : Card)
    → Writes (rounds_family tally_ports at_none tally) card to_tally
    (words (12 ∷ 34 ∷ []) ∷ flags (true ∷ false ∷ []) ∷ [])

-- two words and one are turns; the numbers that merge writes above are the rising union
abbrev pub TwoAndOneAreTurns : Type 0
TwoAndOneAreTurns = TakesTurns 2 1 (woven 2 1)

abbrev pub FourIsUnion : Type 0
FourIsUnion = IsRisingUnion (1 ∷ 3 ∷ 5 ∷ 9 ∷ []) (2 ∷ 3 ∷ 4 ∷ []) (1 ∷ 2 ∷ 3 ∷ 4 ∷ [])
