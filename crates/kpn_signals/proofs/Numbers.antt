-- What the kinds write and keep are words.
use Rattle.std.proofs.Common.{◌≡◌, ◌∙◌, ℕ, zero, suc, ◌<◌, ◌/◌, ◌^◌, ◌==◌, Bool, true, false, if◌then◌else◌, ℤ, pos, negsuc, ◌+ℤ◌, ◌-ℤ◌, List, [], ◌∷◌, refl, subst, sym, ap, arith}
use Rattle.std.specs.Prelude.{FitsSigned, unsigned_abs}
use Rattle.std.specs.Int.{w64, w128, int_shr}
use Rattle.std.specs.Int.Signed.{shr_z, mag_shr}
use Rattle.std.proofs.lemmas.Int.{ints, clamps, to_z-of_z}
use mir.Val.{to_z, of_z}
use Rattle.std.proofs.lemmas.Nat.{shr_le, xor_lt}
use Rattle.kpn_standard.specs.Locals.{at, IsLocal}
use Rattle.kpn_signals.specs.Words.{signed, word_of, wrapped, floor_div, word_below, bound}
use Rattle.kpn_signals.specs.Arithmetic.{right_shift, least, greatest, quotient}
use Rattle.kpn_signals.specs.Noise.{shaken, mixed}
use Rattle.kpn_signals.specs.Filters.{next_level, nearest}

-- each of the four numbers of a local state is a word
pub local_word : (l : List ℕ) (k : ℕ) → IsLocal l → at l k < 2 ^ 64
local_word [] k fits = absurd fits
local_word (a ∷ []) k fits = absurd fits
local_word (a ∷ b ∷ []) k fits = absurd fits
local_word (a ∷ b ∷ c ∷ []) k fits = absurd fits
local_word (a ∷ b ∷ c ∷ d ∷ []) zero fits = fits.0
local_word (a ∷ b ∷ c ∷ d ∷ []) (suc zero) fits = fits.1
local_word (a ∷ b ∷ c ∷ d ∷ []) (suc (suc zero)) fits = fits.2
local_word (a ∷ b ∷ c ∷ d ∷ []) (suc (suc (suc zero))) fits = fits.3
local_word (a ∷ b ∷ c ∷ d ∷ []) (suc (suc (suc (suc k)))) fits = omega arith
local_word (a ∷ b ∷ c ∷ d ∷ e ∷ l) k fits = absurd fits

-- a signed number of 64 bits has a word
pub word_fits : (z : ℤ) → FitsSigned w64 z → word_of z < 2 ^ 64
word_fits (pos n) fits = omega (arith, fits.sfits)
word_fits (negsuc n) fits = omega arith

-- so has -1 - n, and a bound
pub below_fits : (n : ℕ) → word_below n < 2 ^ 64
below_fits n = omega arith

chosen_fits : (b : Bool) (n : ℕ) → n < 2 ^ 64 → (if b then word_below n else n) < 2 ^ 64
chosen_fits true n small = below_fits n
chosen_fits false n small = small

pub bound_fits : (n below : ℕ) → n < 2 ^ 64 → bound n below < 2 ^ 64
bound_fits n below small = chosen_fits (below == 2) n small

-- a word stands for a signed number of 64 bits
pub signed_fits : (w : ℕ) → w < 2 ^ 64 → FitsSigned w64 (signed w)
signed_fits w small = omega (arith, ints)

pub right_shift_fits : (k w : ℕ) → w < 2 ^ 64 → right_shift k w < 2 ^ 64
right_shift_fits k w small = let fits = signed_fits w small in word_fits (int_shr (signed w) k) (record { sfits = omega (arith, mag_shr (signed w) (2 ^ k), fits.sfits) })

pub least_fits : (x y : ℕ) → x < 2 ^ 64 → y < 2 ^ 64 → least x y < 2 ^ 64
least_fits x y x_small y_small = omega (arith, ints, clamps)

pub greatest_fits : (x y : ℕ) → x < 2 ^ 64 → y < 2 ^ 64 → greatest x y < 2 ^ 64
greatest_fits x y x_small y_small = omega (arith, ints, clamps)

pub size_fits : (w : ℕ) → w < 2 ^ 64 → unsigned_abs (signed w) < 2 ^ 64
size_fits w small = sized (signed w) (signed_fits w small)
  where
    sized : (z : ℤ) → FitsSigned w64 z → unsigned_abs z < 2 ^ 64
    sized (pos n) fits = omega (arith, fits.sfits)
    sized (negsuc n) fits = omega (arith, fits.sfits)

pub wrapped_fits : (z : ℤ) → wrapped z < 2 ^ 64
wrapped_fits (pos n) = omega arith
wrapped_fits (negsuc n) = omega arith

chosen_word_fits : (b : Bool) (n : ℕ) → n < 2 ^ 64 → (if b then 0 else n) < 2 ^ 64
chosen_word_fits true n small = omega arith
chosen_word_fits false n small = small

pub quotient_fits : (x d : ℕ) → quotient x d < 2 ^ 64
quotient_fits x d = chosen_word_fits (d == 0) _ (wrapped_fits (floor_div (signed x) (signed d)))

-- a word made of two words
shaken_fits : (k w : ℕ) → w < 2 ^ 64 → shaken k w < 2 ^ 64
shaken_fits k w small = xor_lt 64 w (w / 2 ^ k) small (omega (arith, shr_le w k))

pub mixed_fits : (s : ℕ) → mixed s < 2 ^ 64
mixed_fits s = shaken_fits 31 _ (omega arith)

pub nearest_fits : (lo hi w : ℕ) → lo < 2 ^ 64 → hi < 2 ^ 64 → w < 2 ^ 64 → nearest lo hi w < 2 ^ 64
nearest_fits lo hi w lo_small hi_small small = omega (arith, ints, clamps)

-- from one number towards another by a part of their difference lies between the two
between : (x y d : ℤ) (k : ℕ) → FitsSigned w64 x → FitsSigned w64 y → x -ℤ y ≡ d → FitsSigned w64 (y +ℤ int_shr d k)
between x y (pos d) k x_fits y_fits is = omega (arith, ints, shr_le d k)
between x y (negsuc d) k x_fits y_fits is = omega (arith, ints, shr_le d k)

pub next_level_fits : (k y x : ℕ) → y < 2 ^ 64 → x < 2 ^ 64 → next_level k y x < 2 ^ 64
next_level_fits k y x y_small x_small = word_fits _ (between (signed x) (signed y) _ k (signed_fits x x_small) (signed_fits y y_small) refl)

-- what a cast of a word to a signed number gives, also by way of the number's bits
from_signed : (w : ℕ) (z r : ℤ) → w < 2 ^ 64 → z ≡ signed w → r ≡ to_z w64 (of_z w64 z) → r ≡ signed w
from_signed w z r small is same = same ∙ ap (λ (x : ℤ). to_z w64 (of_z w64 x)) is ∙ to_z-of_z w64 (signed w) (signed_fits w small)

wider : (z : ℤ) → FitsSigned w64 z → FitsSigned w128 z
wider z fits = omega (arith, ints)

difference_fits : (x y : ℤ) → FitsSigned w64 x → FitsSigned w64 y → FitsSigned w128 (x -ℤ y)
difference_fits x y x_fits y_fits = omega (arith, ints)

-- a number computed with 128 bits
abbrev wide : ℤ → ℤ
wide z = to_z w128 (of_z w128 z)

-- with 128 bits each number on the way from y towards x is exact
wide_sum : (x y : ℤ) (k : ℕ) → FitsSigned w64 x → FitsSigned w64 y → wide y +ℤ wide (shr_z (wide (wide x -ℤ wide y)) (2 ^ k)) ≡ y +ℤ int_shr (x -ℤ y) k
wide_sum x y k x_fits y_fits =
    let apart = difference_fits x y x_fits y_fits in
    let part : FitsSigned w128 (shr_z (x -ℤ y) (2 ^ k)) = record { sfits = omega (arith, mag_shr (x -ℤ y) (2 ^ k), apart.sfits) } in
    rw (to_z-of_z w128 x (wider x x_fits), to_z-of_z w128 y (wider y y_fits), to_z-of_z w128 (x -ℤ y) apart, to_z-of_z w128 (shr_z (x -ℤ y) (2 ^ k)) part) refl

level_fits : (x y : ℤ) (k : ℕ) → FitsSigned w64 x → FitsSigned w64 y → FitsSigned w128 (y +ℤ int_shr (x -ℤ y) k)
level_fits x y k x_fits y_fits = wider (y +ℤ int_shr (x -ℤ y) k) (between x y (x -ℤ y) k x_fits y_fits refl)

wide_level : (x y : ℤ) (k : ℕ) → FitsSigned w64 x → FitsSigned w64 y → wide (wide y +ℤ wide (shr_z (wide (wide x -ℤ wide y)) (2 ^ k))) ≡ y +ℤ int_shr (x -ℤ y) k
wide_level x y k x_fits y_fits =
    rw (wide_sum x y k x_fits y_fits, to_z-of_z w128 (y +ℤ int_shr (x -ℤ y) k) (level_fits x y k x_fits y_fits)) refl

-- the next level of two words that were cast: it fits, and is what is defined
module _ (k level word : ℕ) (level_small : level < 2 ^ 64) (word_small : word < 2 ^ 64) (a y b x : ℤ) (a_is : a ≡ signed level) (y_is : y ≡ to_z w64 (of_z w64 a)) (b_is : b ≡ signed word) (x_is : x ≡ to_z w64 (of_z w64 b)) where
  next_fits : FitsSigned w64 (signed level +ℤ int_shr (signed word -ℤ signed level) k)
  next_fits = between (signed word) (signed level) (signed word -ℤ signed level) k (signed_fits word word_small) (signed_fits level level_small) refl

  exact : wide (wide y +ℤ wide (shr_z (wide (wide x -ℤ wide y)) (2 ^ k))) ≡ signed level +ℤ int_shr (signed word -ℤ signed level) k
  exact =
      let from = from_signed level a y level_small a_is y_is in
      let towards = from_signed word b x word_small b_is x_is in
      rw (from, towards) (wide_level (signed word) (signed level) k (signed_fits word word_small) (signed_fits level level_small))

  pub level_casts : FitsSigned w64 (wide (wide y +ℤ wide (shr_z (wide (wide x -ℤ wide y)) (2 ^ k))))
  level_casts = subst (λ (z : ℤ). FitsSigned w64 z) (sym exact) next_fits

  pub level_is : (r : ℕ) → r ≡ of_z w64 (to_z w64 (of_z w64 (wide (wide y +ℤ wide (shr_z (wide (wide x -ℤ wide y)) (2 ^ k)))))) → r ≡ next_level k level word
  level_is r is = is ∙ ap (λ (z : ℤ). of_z w64 (to_z w64 (of_z w64 z))) exact ∙ ap (λ (z : ℤ). of_z w64 z) (to_z-of_z w64 _ next_fits)
