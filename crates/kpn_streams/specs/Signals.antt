-- What the kinds for signals write when fed. The arguments `others` don't matter.
use Rattle.std.specs.Prelude.{◌≡◌, ℕ, suc, ◌+◌, ◌<◌, ◌≤◌, ◌%◌, ◌^◌, int_lt, ◌==◌, ◌&&◌, not, Bool, true, false, unsigned_abs, List, [], ◌∷◌, Option, map, zip, replicate}
use Rattle.kpn_model.specs.declared.token.Token.{Token}
use Rattle.kpn_model.specs.declared.token.Token.TheVariants.{Flag}
use Rattle.kpn_model.specs.declared.kinds.Card.{Card}
use Rattle.kpn_model.specs.Network.{Family}
use Rattle.kpn_standard.specs.Locals.{at, three}
use Rattle.kpn_standard.specs.Signatures.{card}
use Rattle.kpn_signals.specs.declared.turns.TheConstants.{READS_FIRST}
use Rattle.kpn_signals.specs.declared.signal.Signal.{Signal}
use Rattle.kpn_signals.specs.declared.signal.Signal.TheVariants.{Sub, Mul, Shift, Left, Less, Equal, Hold, Delay, LowPass, Clip, CopyFlags, Min, Max, Abs, Offset, Gain, Div, Mod, Sum, Difference, Average, Counter, Edge, Gate}
use Rattle.kpn_signals.specs.Words.{signed}
use Rattle.kpn_signals.specs.Shapes.{step_answer, number_of, join_answer}
use Rattle.kpn_signals.specs.Arithmetic.{difference, product, right_shift, left_shift, least, greatest, amplified, quotient, remainder}
use Rattle.kpn_signals.specs.Filters.{next_level, nearest, total, mean}
use Rattle.kpn_signals.specs.Table.{row_of}
use Rattle.kpn_signals.specs.Family.{signals}
use Rattle.kpn_streams.specs.Fed.{Writes}
use Rattle.kpn_streams.specs.Functions.{words, flags, flagged}

-- what the steps make of these tokens, each with what the one before kept
abbrev pub stepped : (List ℕ → Token → List ℕ × Token) → List ℕ → List Token → List Token
stepped step kept [] = []
stepped step kept (t ∷ ts) = (step kept t).1 ∷ stepped step (step kept t).0 ts

-- the kind answers by reads of a token, each followed by a write of what the step makes of it
abbrev pub AnswersByStep : Family → Card → (List ℕ → Token → List ℕ × Token) → Type 0
AnswersByStep kinds card step =
    (local : List ℕ) (last : Option Token) → kinds.answer card local last ≡ step_answer step local last

-- every process that reads a token, then writes what a step makes of it, writes the scan
abbrev pub StepsScan : Family → Type 0
StepsScan kinds =
    (card : Card) (step : List ℕ → Token → List ℕ × Token) → AnswersByStep kinds card step
    → (ts : List Token) → Writes kinds card (ts ∷ []) (stepped step (kinds.start card) ts ∷ [])

-- what the joins make of the tokens of two streams side by side, each with the word that the one before kept
abbrev pub joined : (ℕ → ℕ → Token → ℕ × Token) → ℕ → List Token → List Token → List Token
joined join kept (x ∷ xs) (y ∷ ys) = (join kept (number_of x) y).1 ∷ joined join (join kept (number_of x) y).0 xs ys
joined join kept xs ys = []

-- the kind answers by reads of a token of both inputs, followed by a write of what the join makes of them
abbrev pub AnswersByJoin : Family → Card → (ℕ → ℕ → Token → ℕ × Token) → Type 0
AnswersByJoin kinds card join =
    (local : List ℕ) (last : Option Token) → kinds.answer card local last ≡ join_answer join local last

-- every process that reads a token of both inputs, then writes what is made of them, writes that of both streams
abbrev pub JoinsScan : Family → Type 0
JoinsScan kinds =
    (card : Card) (join : ℕ → ℕ → Token → ℕ × Token) (kept : ℕ) → AnswersByJoin kinds card join
    → kinds.start card ≡ three READS_FIRST 0 kept
    → (xs ys : List Token) → Writes kinds card (xs ∷ ys ∷ []) (joined join kept xs ys ∷ [])

abbrev pub signal_card : Signal → List ℕ → Card
signal_card kind args = card (row_of kind).number args

-- a process of the kind, with these arguments, fed with `ins`, writes `outs`
abbrev pub SignalWrites : Signal → List ℕ → List (List Token) → List (List Token) → Type 0
SignalWrites kind args ins outs = Writes signals (signal_card kind args) ins outs

-- fed with words, it writes what f makes of each
abbrev pub Maps : Signal → List ℕ → (ℕ → ℕ) → Type 0
Maps kind args f = (xs : List ℕ) → SignalWrites kind args (words xs ∷ []) (words (map f xs) ∷ [])

abbrev pub ShiftWrites : Type 0
ShiftWrites = (k : ℕ) (others : List ℕ) → Maps Shift (k ∷ others) (right_shift k)

abbrev pub LeftWrites : Type 0
LeftWrites = (k : ℕ) (others : List ℕ) → Maps Left (k ∷ others) (left_shift k)

abbrev pub ClipWrites : Type 0
ClipWrites = (lo hi : ℕ) (others : List ℕ) → Maps Clip (lo ∷ hi ∷ others) (nearest lo hi)

abbrev pub AbsWrites : Type 0
AbsWrites = (others : List ℕ) → Maps Abs others (λ x. unsigned_abs (signed x))

abbrev pub OffsetWrites : Type 0
OffsetWrites = (k : ℕ) (others : List ℕ) → Maps Offset (k ∷ others) (λ x. (x + k) % 2 ^ 64)

abbrev pub GainWrites : Type 0
GainWrites = (a b : ℕ) (others : List ℕ) → Maps Gain (a ∷ b ∷ others) (amplified a b)

-- fed with words, it writes what f makes of all of them
abbrev pub Makes : Signal → List ℕ → (List ℕ → List ℕ) → Type 0
Makes kind args f = (xs : List ℕ) → SignalWrites kind args (words xs ∷ []) (words (f xs) ∷ [])

-- the level y moves towards each number
abbrev pub levels : ℕ → ℕ → List ℕ → List ℕ
levels k y [] = []
levels k y (x ∷ xs) = next_level k y x ∷ levels k (next_level k y x) xs

abbrev pub LowPassWrites : Type 0
LowPassWrites = (k : ℕ) (others : List ℕ) → Makes LowPass (k ∷ others) (levels k 0)

-- the sums of the numbers so far and z, modulo 2^64
abbrev pub running : ℕ → List ℕ → List ℕ
running z [] = []
running z (x ∷ xs) = total z x ∷ running (total z x) xs

abbrev pub SumWrites : Type 0
SumWrites = (others : List ℕ) → Makes Sum others (running 0)

-- what f makes of each number and all before it, the latest first
abbrev pub over_past : (List ℕ → ℕ) → List ℕ → List ℕ → List ℕ
over_past f past [] = []
over_past f past (x ∷ xs) = f (x ∷ past) ∷ over_past f (x ∷ past) xs

-- before the first number there were zeros
abbrev pub DelayWrites : Type 0
DelayWrites =
    (n : ℕ) (others : List ℕ)
    → n < 4 → Makes Delay (suc n ∷ others) (over_past (λ past. at past (suc n)) (replicate 4 0))

abbrev pub AverageWrites : Type 0
AverageWrites = (n : ℕ) (others : List ℕ) → n ≤ 5 → Makes Average (n ∷ others) (over_past (mean n) (replicate 4 0))

-- what f makes of the first of each list, of the second of each, and so on
abbrev pub pairwise : {A B C : Type 0} → (A → B → C) → List A → List B → List C
pairwise f xs ys = map (λ p. f p.0 p.1) (zip xs ys)

-- each number minus the one before
abbrev pub DifferenceWrites : Type 0
DifferenceWrites = (others : List ℕ) → Makes Difference others (λ xs. pairwise difference xs (0 ∷ xs))

-- fed with words on both inputs, it writes what f makes of each two
abbrev pub Zips : Signal → (ℕ → ℕ → ℕ) → Type 0
Zips kind f =
    (others xs ys : List ℕ) → SignalWrites kind others (words xs ∷ words ys ∷ []) (words (pairwise f xs ys) ∷ [])

abbrev pub SubWrites : Type 0
SubWrites = Zips Sub difference

abbrev pub MulWrites : Type 0
MulWrites = Zips Mul product

abbrev pub MinWrites : Type 0
MinWrites = Zips Min least

abbrev pub MaxWrites : Type 0
MaxWrites = Zips Max greatest

abbrev pub DivWrites : Type 0
DivWrites = Zips Div quotient

abbrev pub ModWrites : Type 0
ModWrites = Zips Mod remainder

-- it writes what it tells of each two
abbrev pub Tells : Signal → (ℕ → ℕ → Bool) → Type 0
Tells kind f =
    (others xs ys : List ℕ) → SignalWrites kind others (words xs ∷ words ys ∷ []) (flags (pairwise f xs ys) ∷ [])

abbrev pub LessWrites : Type 0
LessWrites = Tells Less (λ x y. int_lt (signed x) (signed y))

abbrev pub EqualWrites : Type 0
EqualWrites = Tells Equal (λ x y. x == y)

-- the number if the flag is true, else the last one that was written, v at first
abbrev pub held : ℕ → List ℕ → List Bool → List ℕ
held v (x ∷ xs) (true ∷ fs) = x ∷ held x xs fs
held v (x ∷ xs) (false ∷ fs) = v ∷ held v xs fs
held v xs fs = []

abbrev pub HoldWrites : Type 0
HoldWrites =
    (v : ℕ) (others xs : List ℕ) (fs : List Bool)
    → SignalWrites Hold (v ∷ others) (words xs ∷ flags fs ∷ []) (words (held v xs fs) ∷ [])

-- the words whose flag is true
abbrev pub GateWrites : Type 0
GateWrites =
    (others xs : List ℕ) (fs : List Bool)
    → SignalWrites Gate others (words xs ∷ flags fs ∷ []) (words (flagged fs xs) ∷ [])

abbrev pub CopyFlagsWrites : Type 0
CopyFlagsWrites =
    (others : List ℕ) (fs : List Bool)
    → SignalWrites CopyFlags others (flags fs ∷ []) (flags fs ∷ flags fs ∷ [])

-- whether each flag is true and the one before is not; before the first is false
abbrev pub EdgeWrites : Type 0
EdgeWrites =
    (others : List ℕ) (fs : List Bool)
    → SignalWrites Edge others (flags fs ∷ []) (flags (pairwise (λ f before. f && not before) fs (false ∷ fs)) ∷ [])

-- how many flags were true so far, and z, modulo 2^64
abbrev pub counts : ℕ → List Bool → List ℕ
counts z [] = []
counts z (f ∷ fs) = (z + number_of (Flag f)) % 2 ^ 64 ∷ counts ((z + number_of (Flag f)) % 2 ^ 64) fs

abbrev pub CounterWrites : Type 0
CounterWrites =
    (others : List ℕ) (fs : List Bool)
    → SignalWrites Counter others (flags fs ∷ []) (words (counts 0 fs) ∷ [])
