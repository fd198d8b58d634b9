-- False claims about what the standard kinds write, and laws of weave and merge without a premise that they
-- need.
use Rattle.std.specs.Prelude.{◌≡◌, ◌≤◌, ◌⊎◌, ℕ, ◌+◌, ◌-◌, ◌%◌, ◌==◌, nat_lt, if◌then◌else◌, Bool, not, List, [], ◌∷◌, ◌++◌, map, zip, take, drop, length, Contains, Option, Some}
use Rattle.std.specs.List.{range_with_len}
use Rattle.std.specs.List.Sorted.{IsStrictlyIncreasing}
use Rattle.kpn_model.specs.declared.token.Token.{Token}
use Rattle.kpn_model.specs.declared.kinds.Card.{Card}
use Rattle.kpn_model.specs.declared.kinds.Signature.{Signature}
use Rattle.kpn_standard.specs.declared.kind.Kind.TheVariants.{Count, Take, Copy, Prefix, Add, Weave, Merge, Divides, Switch, Select}
use Rattle.kpn_compute.specs.Filters.{filter_family}
use Rattle.kpn_rounds.specs.Steps.{count, RoundStep}
use Rattle.kpn_rounds.specs.Rounds.{made_by, rounds_family}
use Rattle.kpn_streams.specs.Fed.{Writes}
use Rattle.kpn_streams.specs.Functions.{words, flags, woven, merged, flagged}
use Rattle.kpn_streams.specs.Joined.{TakesTurns}
use Rattle.kpn_streams.specs.Rounds.{side_by_side, columns}
use Rattle.kpn_streams.specs.Kinds.{KindWrites}

-- count: the numbers up to n, not n numbers
abbrev pub CountsUpTo : Type 0
CountsUpTo =
    (from n : ℕ) (others : List ℕ)
    → KindWrites Count (from ∷ n ∷ others) [] (words (range_with_len from (n + 1 - from)) ∷ [])

abbrev pub TakesOneMore : Type 0
TakesOneMore =
    (n : ℕ) (others xs : List ℕ)
    → KindWrites Take (n ∷ others) (words xs ∷ []) (words (take (n + 1) xs) ∷ [])

-- copy: to its outputs in turn, not to both
abbrev pub every_other : List ℕ → List ℕ
every_other [] = []
every_other (x ∷ []) = x ∷ []
every_other (x ∷ y ∷ xs) = x ∷ every_other xs

abbrev pub CopiesInTurn : Type 0
CopiesInTurn =
    (others xs : List ℕ)
    → KindWrites Copy others (words xs ∷ []) (words (every_other xs) ∷ words (every_other (drop 1 xs)) ∷ [])

abbrev pub ForgetsItsWord : Type 0
ForgetsItsWord = (v : ℕ) (others xs : List ℕ) → KindWrites Prefix (v ∷ others) (words xs ∷ []) (words xs ∷ [])

abbrev pub SumsDoNotWrap : Type 0
SumsDoNotWrap =
    (others xs ys : List ℕ)
    → KindWrites Add others (words xs ∷ words ys ∷ []) (words (map (λ p. p.0 + p.1) (zip xs ys)) ∷ [])

-- weave: one turn of the first stream, then the second for ever
abbrev pub StopsTakingTurns : Type 0
StopsTakingTurns =
    (a b : ℕ) (others xs ys : List ℕ)
    → KindWrites Weave (a ∷ b ∷ others) (words xs ∷ words ys ∷ []) (words (take a xs ++ ys) ∷ [])

-- merge: both of two equal heads
abbrev pub both_kept_with : ℕ → (List ℕ → List ℕ) → List ℕ → List ℕ
both_kept_with x rest [] = []
both_kept_with x rest (y ∷ ys) = if nat_lt y x then y ∷ both_kept_with x rest ys else x ∷ rest (y ∷ ys)

abbrev pub both_kept : List ℕ → List ℕ → List ℕ
both_kept [] ys = []
both_kept (x ∷ xs) ys = both_kept_with x (both_kept xs) ys

abbrev pub MergeKeepsBoth : Type 0
MergeKeepsBoth =
    (others xs ys : List ℕ)
    → KindWrites Merge others (words xs ∷ words ys ∷ []) (words (both_kept xs ys) ∷ [])

-- merge: the rest of one stream where the other has ended, instead of waiting
abbrev pub drained_with : ℕ → List ℕ → (List ℕ → List ℕ) → List ℕ → List ℕ
drained_with x xs rest [] = x ∷ xs
drained_with x xs rest (y ∷ ys) =
    if nat_lt x y then x ∷ rest (y ∷ ys) else if nat_lt y x then y ∷ drained_with x xs rest ys else x ∷ rest ys

abbrev pub drained : List ℕ → List ℕ → List ℕ
drained [] ys = ys
drained (x ∷ xs) ys = drained_with x xs (drained xs) ys

abbrev pub MergeDrains : Type 0
MergeDrains = (others xs ys : List ℕ) → KindWrites Merge others (words xs ∷ words ys ∷ []) (words (drained xs ys) ∷ [])

abbrev pub DividesOtherWay : Type 0
DividesOtherWay =
    (m : ℕ) (others xs : List ℕ)
    → KindWrites Divides (m ∷ others) (words xs ∷ []) (flags (map (λ x. m % x == 0) xs) ∷ [])

abbrev pub SwitchesOtherWay : Type 0
SwitchesOtherWay =
    (others xs : List ℕ) (fs : List Bool)
    → KindWrites Switch others (words xs ∷ flags fs ∷ []) (words (flagged fs xs) ∷ words (flagged (map not fs) xs) ∷ [])

-- select: takes a word of each stream for each flag, and writes one
abbrev pub picked : List Bool → List ℕ → List ℕ → List ℕ
picked (f ∷ fs) (x ∷ xs) (y ∷ ys) = (if f then y else x) ∷ picked fs xs ys
picked fs xs ys = []

abbrev pub SelectReadsBoth : Type 0
SelectReadsBoth =
    (others xs ys : List ℕ) (fs : List Bool)
    → KindWrites Select others (words xs ∷ words ys ∷ flags fs ∷ []) (words (picked fs xs ys) ∷ [])

-- filters: each word with the local state of the start
abbrev pub FiltersKeepNothing : Type 0
FiltersKeepNothing =
    (start : Card → List ℕ) (step : Card → List ℕ → ℕ → List ℕ × ℕ) (card : Card) (ws : List ℕ)
    → Writes (filter_family start step) card (words ws ∷ []) (words (map (λ w. (step card (start card) w).1) ws) ∷ [])

module _ (ports : Card → Option Signature) (start : Card → List ℕ) (step : Card → RoundStep) where
  -- what a round writes with the local state of the start
  abbrev pub made_at_start : Card → Signature → List ℕ → List ℕ
  made_at_start card s inputs = (made_by s (step card) (start card) inputs).1

  -- each round writes so
  abbrev pub RoundsForget : Type 0
  RoundsForget =
      (card : Card) (s : Signature) (ins : List (List Token))
      → ports card ≡ Some s → 1 ≤ length ins → length ins ≡ count s.ins
      → Writes (rounds_family ports start step) card ins (columns s (map (made_at_start card s) (side_by_side ins)))

-- rounds: the same
abbrev pub RoundsKeepNothing : Type 0
RoundsKeepNothing =
    (ports : Card → Option Signature) (start : Card → List ℕ) (step : Card → RoundStep) → RoundsForget ports start step

abbrev pub TurnsOfNone : Type 0
TurnsOfNone = (a b : ℕ) → TakesTurns a b (woven a b)

-- all numbers of two rising streams, not only those before one ends
abbrev pub MergeHasAll : Type 0
MergeHasAll =
    (xs ys : List ℕ)
    → IsStrictlyIncreasing xs → IsStrictlyIncreasing ys → (z : ℕ) → Contains xs z ⊎ Contains ys z
    → Contains (merged xs ys) z
