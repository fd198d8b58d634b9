-- The table of the kinds for signals.
use Rattle.std.specs.Prelude.{ℕ, ◌==◌, List, [], ◌∷◌, Option, Some, None, codes}
use Rattle.std.specs.List.{find}
use Rattle.std.specs.Str.{bytes_eq}
use Rattle.kpn_model.specs.declared.token.Sort.{Sort}
use Rattle.kpn_model.specs.declared.token.Sort.TheVariants.{Flags}
use Rattle.kpn_standard.specs.Table.{Row, tabled, no_port, one_word, two_words, one_flag, word_and_flag}
use Rattle.kpn_signals.specs.declared.signal.Signal.{Signal}
use Rattle.kpn_signals.specs.declared.signal.Signal.TheVariants.{Input, InputFlags, Drain, DrainFlags, Constant, CountUp, Sub, Mul, Shift, Left, Less, Equal, Not, And, Or, Decimate, Repeat, Hold, Delay, LowPass, Clip, SignedConstant, SignedHold, SignedClip, SignedScale, SignedPrefix, CopyFlags, Min, Max, Abs, Offset, Gain, Div, Mod, Sum, Difference, Average, Counter, Edge, Noise, Gate, SignedOffset, SignedGain}

abbrev pub two_flags : List (Option Sort)
two_flags = Some Flags ∷ Some Flags ∷ None ∷ []

abbrev pub row_of : Signal → Row
row_of Input = tabled 0 (codes "input") 0 no_port one_word
row_of InputFlags = tabled 1 (codes "input_flags") 0 no_port one_flag
row_of Drain = tabled 2 (codes "drain") 0 one_word no_port
row_of DrainFlags = tabled 3 (codes "drain_flags") 0 one_flag no_port
row_of Constant = tabled 4 (codes "constant") 1 no_port one_word
row_of CountUp = tabled 5 (codes "count_up") 0 no_port one_word
row_of Sub = tabled 6 (codes "sub") 0 two_words one_word
row_of Mul = tabled 7 (codes "mul") 0 two_words one_word
row_of Shift = tabled 8 (codes "shift") 1 one_word one_word
row_of Left = tabled 9 (codes "left") 1 one_word one_word
row_of Less = tabled 10 (codes "less") 0 two_words one_flag
row_of Equal = tabled 11 (codes "equal") 0 two_words one_flag
row_of Not = tabled 12 (codes "not") 0 one_flag one_flag
row_of And = tabled 13 (codes "and") 0 two_flags one_flag
row_of Or = tabled 14 (codes "or") 0 two_flags one_flag
row_of Decimate = tabled 15 (codes "decimate") 1 one_word one_word
row_of Repeat = tabled 16 (codes "repeat") 1 one_word one_word
row_of Hold = tabled 17 (codes "hold") 1 word_and_flag one_word
row_of Delay = tabled 18 (codes "delay") 1 one_word one_word
row_of LowPass = tabled 19 (codes "low_pass") 1 one_word one_word
row_of Clip = tabled 20 (codes "clip") 2 one_word one_word
row_of SignedConstant = tabled 21 (codes "constant, signed") 2 no_port one_word
row_of SignedHold = tabled 22 (codes "hold, signed") 2 word_and_flag one_word
row_of SignedClip = tabled 23 (codes "clip, signed") 3 one_word one_word
row_of SignedScale = tabled 24 (codes "scale, signed") 2 one_word one_word
row_of SignedPrefix = tabled 25 (codes "prefix, signed") 2 one_word one_word
row_of CopyFlags = tabled 26 (codes "copy_flags") 0 one_flag two_flags
row_of Min = tabled 27 (codes "min") 0 two_words one_word
row_of Max = tabled 28 (codes "max") 0 two_words one_word
row_of Abs = tabled 29 (codes "abs") 0 one_word one_word
row_of Offset = tabled 30 (codes "offset") 1 one_word one_word
row_of Gain = tabled 31 (codes "gain") 2 one_word one_word
row_of Div = tabled 32 (codes "div") 0 two_words one_word
row_of Mod = tabled 33 (codes "mod") 0 two_words one_word
row_of Sum = tabled 34 (codes "sum") 0 one_word one_word
row_of Difference = tabled 35 (codes "difference") 0 one_word one_word
row_of Average = tabled 36 (codes "average") 1 one_word one_word
row_of Counter = tabled 37 (codes "counter") 0 one_flag one_word
row_of Edge = tabled 38 (codes "edge") 0 one_flag one_flag
row_of Noise = tabled 39 (codes "noise") 1 no_port one_word
row_of Gate = tabled 40 (codes "gate") 0 word_and_flag one_word
row_of SignedOffset = tabled 41 (codes "offset, signed") 2 one_word one_word
row_of SignedGain = tabled 42 (codes "gain, signed") 3 one_word one_word

-- a kind's name in descriptions, and its number of arguments there: its own, unless arguments are negative
abbrev pub called_by : Signal → List ℕ × ℕ
called_by SignedConstant = (codes "constant", 1)
called_by SignedHold = (codes "hold", 1)
called_by SignedClip = (codes "clip", 2)
called_by SignedScale = (codes "scale", 1)
called_by SignedPrefix = (codes "prefix", 1)
called_by SignedOffset = (codes "offset", 1)
called_by SignedGain = (codes "gain", 2)
called_by kind = ((row_of kind).name, (row_of kind).arguments)

-- the kinds from one of them on
abbrev pub from_counter : List Signal
from_counter = Counter ∷ Edge ∷ Noise ∷ Gate ∷ SignedOffset ∷ SignedGain ∷ []

abbrev pub from_copy_flags : List Signal
from_copy_flags =
    CopyFlags ∷ Min ∷ Max ∷ Abs ∷ Offset ∷ Gain ∷ Div ∷ Mod ∷ Sum ∷ Difference ∷ Average ∷ from_counter

abbrev pub from_clip : List Signal
from_clip = Clip ∷ SignedConstant ∷ SignedHold ∷ SignedClip ∷ SignedScale ∷ SignedPrefix ∷ from_copy_flags

abbrev pub from_less : List Signal
from_less = Less ∷ Equal ∷ Not ∷ And ∷ Or ∷ Decimate ∷ Repeat ∷ Hold ∷ Delay ∷ LowPass ∷ from_clip

abbrev pub all_kinds : List Signal
all_kinds = Input ∷ InputFlags ∷ Drain ∷ DrainFlags ∷ Constant ∷ CountUp ∷ Sub ∷ Mul ∷ Shift ∷ Left ∷ from_less

abbrev pub numbered : ℕ → Option Signal
numbered number = find (λ kind. number == (row_of kind).number) all_kinds

abbrev pub called : List ℕ → Option Signal
called name = find (λ kind. bytes_eq name (row_of kind).name) all_kinds
