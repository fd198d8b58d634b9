-- What each standard kind writes when fed (Kahn 1974). The arguments `others` don't matter.
use Rattle.std.specs.Prelude.{ℕ, ◌≤◌, Bool, not, List, [], ◌∷◌, map, take}
use Rattle.std.specs.List.{range_with_len}
use Rattle.std.specs.List.Sorted.{IsStrictlyIncreasing}
use Rattle.kpn_model.specs.declared.token.Token.{Token}
use Rattle.kpn_standard.specs.declared.kind.Kind.{Kind}
use Rattle.kpn_standard.specs.declared.kind.Kind.TheVariants.{Count, Sink, Take, Copy, Prefix, Add, Scale, Weave, Merge, Divides, Switch, Select}
use Rattle.kpn_standard.specs.Signatures.{card_of_kind}
use Rattle.kpn_standard.specs.Standard.{standard}
use Rattle.kpn_streams.specs.Fed.{nothing, Writes}
use Rattle.kpn_streams.specs.Functions.{words, flags, sums, products, divided, woven, merged, flagged, selected}
use Rattle.kpn_streams.specs.Joined.{TakesTurns, IsRisingUnion}

-- a process of the kind, with these arguments, fed with `ins`, writes `outs`
abbrev pub KindWrites : Kind → List ℕ → List (List Token) → List (List Token) → Type 0
KindWrites kind args ins outs = Writes standard (card_of_kind kind args) ins outs

-- count: the n numbers from `from` on
abbrev pub CountWrites : Type 0
CountWrites =
    (from n : ℕ) (others : List ℕ)
    → KindWrites Count (from ∷ n ∷ others) [] (words (range_with_len from n) ∷ [])

-- sink: nothing, on any number of outputs
abbrev pub SinkWrites : Type 0
SinkWrites =
    (n : ℕ) (others : List ℕ) (ts : List Token) (outputs : ℕ)
    → KindWrites Sink (n ∷ others) (ts ∷ []) (nothing outputs)

abbrev pub TakeWrites : Type 0
TakeWrites = (n : ℕ) (others xs : List ℕ) → KindWrites Take (n ∷ others) (words xs ∷ []) (words (take n xs) ∷ [])

abbrev pub CopyWrites : Type 0
CopyWrites = (others xs : List ℕ) → KindWrites Copy others (words xs ∷ []) (words xs ∷ words xs ∷ [])

-- prefix: v, then the numbers
abbrev pub PrefixWrites : Type 0
PrefixWrites = (v : ℕ) (others xs : List ℕ) → KindWrites Prefix (v ∷ others) (words xs ∷ []) (words (v ∷ xs) ∷ [])

abbrev pub AddWrites : Type 0
AddWrites = (others xs ys : List ℕ) → KindWrites Add others (words xs ∷ words ys ∷ []) (words (sums xs ys) ∷ [])

abbrev pub ScaleWrites : Type 0
ScaleWrites = (k : ℕ) (others xs : List ℕ) → KindWrites Scale (k ∷ others) (words xs ∷ []) (words (products k xs) ∷ [])

-- weave: a numbers of the first stream, then b of the second, in turn
abbrev pub WeaveWrites : Type 0
WeaveWrites =
    (a b : ℕ) (others xs ys : List ℕ)
    → KindWrites Weave (a ∷ b ∷ others) (words xs ∷ words ys ∷ []) (words (woven a b xs ys) ∷ [])

-- merge: the lesser of the two heads, one of two equal ones
abbrev pub MergeWrites : Type 0
MergeWrites = (others xs ys : List ℕ) → KindWrites Merge others (words xs ∷ words ys ∷ []) (words (merged xs ys) ∷ [])

abbrev pub DividesWrites : Type 0
DividesWrites =
    (m : ℕ) (others xs : List ℕ)
    → KindWrites Divides (m ∷ others) (words xs ∷ []) (flags (divided m xs) ∷ [])

-- switch: on output 0 the numbers whose flag is false, on output 1 the others
abbrev pub SwitchWrites : Type 0
SwitchWrites =
    (others xs : List ℕ) (fs : List Bool)
    → KindWrites Switch others (words xs ∷ flags fs ∷ []) (words (flagged (map not fs) xs) ∷ words (flagged fs xs) ∷ [])

-- select: for each flag the next number of the stream that it selects
abbrev pub SelectWrites : Type 0
SelectWrites =
    (others xs ys : List ℕ) (fs : List Bool)
    → KindWrites Select others (words xs ∷ words ys ∷ flags fs ∷ []) (words (selected fs xs ys) ∷ [])

abbrev pub WeaveTakesTurns : Type 0
WeaveTakesTurns = (a b : ℕ) → 1 ≤ a → 1 ≤ b → TakesTurns a b (woven a b)

abbrev pub MergeIsUnion : Type 0
MergeIsUnion = (xs ys : List ℕ) → IsStrictlyIncreasing xs → IsStrictlyIncreasing ys → IsRisingUnion xs ys (merged xs ys)
