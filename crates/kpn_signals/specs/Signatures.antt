-- What names and cards of the kinds for signals mean.
use Rattle.std.specs.Prelude.{ℕ, ◌^◌, nat_lt, ◌==◌, ◌&&◌, ◌||◌, int_le, Bool, true, List, Option, option_map, option_and_then}
use Rattle.kpn_model.specs.declared.kinds.Card.{Card}
use Rattle.kpn_model.specs.declared.kinds.Signature.{Signature}
use Rattle.kpn_standard.specs.Locals.{at}
use Rattle.kpn_standard.specs.Signatures.{are_used, given}
use Rattle.kpn_signals.specs.declared.signal.Signal.{Signal}
use Rattle.kpn_signals.specs.declared.signal.Signal.TheVariants.{Shift, Left, LowPass, Decimate, Repeat, Delay, Clip, SignedConstant, SignedHold, SignedClip, SignedScale, SignedPrefix, Gain, Average, SignedOffset, SignedGain}
use Rattle.kpn_signals.specs.Words.{signed, word_below, bound}
use Rattle.kpn_signals.specs.Table.{row_of, numbered, called}

abbrev pub number_named : List ℕ → Option (ℕ × ℕ)
number_named name = option_map (λ kind. ((row_of kind).number, (row_of kind).arguments)) (called name)

-- n may stand for the negative argument -1 - n
abbrev pub is_below : ℕ → Bool
is_below n = nat_lt n (2 ^ 63)

-- one negative argument, and the number 1 of such
abbrev pub is_one_below : List ℕ → Bool
is_one_below args = is_below (at args 0) && (at args 1 == 1)

-- the first bound is at most the second
abbrev pub are_in_order : ℕ → ℕ → ℕ → Bool
are_in_order lo hi below = int_le (signed (word_below lo)) (signed (bound hi below))

-- the bounds of `clip, signed`: the first is negative, and if `below` is 2 the second too
abbrev pub are_bounds : ℕ → ℕ → ℕ → Bool
are_bounds lo hi below = is_below lo && (is_below hi && ((below == 1 || below == 2) && are_in_order lo hi below))

-- after negative arguments comes how many they are, from the first on
abbrev pub suit : Signal → List ℕ → Bool
suit Shift args = nat_lt (at args 0) 64
suit Left args = nat_lt (at args 0) 64
suit LowPass args = nat_lt (at args 0) 64
suit Decimate args = nat_lt 0 (at args 0)
suit Repeat args = nat_lt 0 (at args 0)
suit Delay args = nat_lt 0 (at args 0) && nat_lt (at args 0) 5
suit Clip args = int_le (signed (at args 0)) (signed (at args 1))
suit SignedConstant args = is_one_below args
suit SignedHold args = is_one_below args
suit SignedScale args = is_one_below args
suit SignedPrefix args = is_one_below args
suit SignedClip args = are_bounds (at args 0) (at args 1) (at args 2)
suit Gain args = nat_lt 0 (at args 1)
suit Average args = nat_lt 0 (at args 0) && nat_lt (at args 0) 6
suit SignedOffset args = is_one_below args
suit SignedGain args = is_below (at args 0) && (nat_lt 0 (at args 1) && (at args 2 == 1))
suit _ args = true

abbrev pub are_own : Signal → List ℕ → Bool
are_own SignedClip args = true
are_own SignedGain args = true
are_own kind args = are_used (row_of kind).arguments args

abbrev pub accepts : Signal → List ℕ → Bool
accepts kind args = are_own kind args && suit kind args

abbrev pub signature_of_kind : Signal → List ℕ → Option Signature
signature_of_kind kind args = given (accepts kind args) (row_of kind).ins (row_of kind).outs

abbrev pub ports : Card → Option Signature
ports card = option_and_then (λ kind. signature_of_kind kind card.args) (numbered card.kind)
