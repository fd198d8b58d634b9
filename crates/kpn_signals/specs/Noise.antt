-- noise: the generator SplitMix64 (Steele, Lea and Flood 2014), from its argument on.
use Rattle.std.specs.Prelude.{ℕ, ◌+◌, ◌/◌, ◌%◌, ◌^◌, List}
use Rattle.std.specs.Int.Bits.{bit_xor}
use Rattle.kpn_model.specs.declared.token.Token.TheVariants.{Word}
use Rattle.kpn_model.specs.declared.kinds.Act.TheVariants.{Write}
use Rattle.kpn_model.specs.declared.kinds.Answer.{Answer}
use Rattle.kpn_standard.specs.Locals.{at, says}
use Rattle.kpn_signals.specs.Arithmetic.{product}

-- the state moves on by a constant, modulo 2^64
abbrev pub moved : ℕ → ℕ
moved s = (s + 0x9e3779b97f4a7c15) % 2 ^ 64

-- a word with its own bits, shifted right by k, flipped in it
abbrev pub shaken : ℕ → ℕ → ℕ
shaken k w = bit_xor w (w / 2 ^ k)

-- what is written in a state
abbrev pub mixed : ℕ → ℕ
mixed s = shaken 31 (product (shaken 27 (product (shaken 30 s) 0xbf58476d1ce4e5b9)) 0x94d049bb133111eb)

-- noise:
--     [s]   [moved s]   write mixed (moved s) to output 0
abbrev pub noise_answer : List ℕ → Answer
noise_answer l = says (moved (at l 0)) 0 0 (Write 0 (Word (mixed (moved (at l 0)))))
