-- What each kind for signals writes, as a function of what it is fed with.
use Rattle.std.proofs.Common.{◌≡◌, ◌∙◌, sym, ap, subst, ℕ, zero, suc, ◌+◌, ◌-◌, ◌<◌, ◌≤◌, ◌%◌, ◌^◌, ◌==◌, ◌&&◌, Bool, true, false, not, List, [], ◌∷◌, Option, Some, None, refl, map, zip, take, arith}
use Rattle.std.specs.Prelude.{int_lt, unsigned_abs, pos}
use Rattle.kpn_model.specs.declared.token.Token.{Token}
use Rattle.kpn_model.specs.declared.token.Token.TheVariants.{Word, Flag}
use Rattle.kpn_model.specs.declared.kinds.Card.{Card}
use Rattle.kpn_model.specs.declared.kinds.Act.TheVariants.{Read}
use Rattle.kpn_model.specs.declared.history.Status.TheVariants.{Live}
use Rattle.kpn_standard.specs.Locals.{at, one, two, three}
use Rattle.kpn_signals.specs.declared.turns.TheConstants.{READS_FIRST, READS_SECOND, WRITES}
use Rattle.kpn_signals.specs.declared.signal.Signal.{Signal}
use Rattle.kpn_signals.specs.declared.signal.Signal.TheVariants.{Sub, Mul, Shift, Left, Less, Equal, Hold, Delay, LowPass, Clip, CopyFlags, Min, Max, Abs, Offset, Gain, Div, Mod, Sum, Difference, Average, Counter, Edge, Gate}
use Rattle.kpn_signals.specs.Words.{signed, wrapped, floor_div}
use Rattle.kpn_signals.specs.Shapes.{step_answer, number_of, join_answer}
use Rattle.kpn_signals.specs.Arithmetic.{difference, product, right_shift, left_shift, least, greatest, amplified, quotient, remainder, sub_join, mul_join, shift_step, left_step, min_join, max_join, abs_step, offset_step, gain_step, div_join, mod_join}
use Rattle.kpn_signals.specs.Logic.{less_join, equal_join, edge_step}
use Rattle.kpn_signals.specs.Filters.{next_level, nearest, total, signed_sum, mean, hold_join, delay_step, low_pass_step, clip_step, sum_step, difference_step, average_step, counter_step}
use Rattle.kpn_signals.specs.Family.{signals}
use Rattle.kpn_streams.specs.Fed.{Writes, WritesFrom}
use Rattle.kpn_streams.specs.Functions.{words, flags, flagged}
use Rattle.kpn_streams.specs.Signals.{stepped, joined, signal_card, Maps, Zips, Tells, levels, running, over_past, held, counts, ShiftWrites, LeftWrites, ClipWrites, AbsWrites, OffsetWrites, GainWrites, LowPassWrites, SumWrites, DifferenceWrites, DelayWrites, AverageWrites, SubWrites, MulWrites, MinWrites, MaxWrites, DivWrites, ModWrites, LessWrites, EqualWrites, HoldWrites, GateWrites, CopyFlagsWrites, EdgeWrites, CounterWrites}
use Rattle.kpn_streams.proofs.Fed.{waits, reads, writes, puts}
use Rattle.kpn_streams.proofs.Shapes.{steps_scan, joins_scan}

-- a step that keeps what it was given writes what it makes of each word
mapped : (f : ℕ → ℕ) (step : List ℕ → Token → List ℕ × Token) → ((kept : List ℕ) (x : ℕ) → step kept (Word x) ≡ (kept, Word (f x))) → (kept xs : List ℕ) → stepped step kept (words xs) ≡ words (map f xs)
mapped f step each kept [] = refl
mapped f step each kept (x ∷ xs) =
    ap (λ (p : List ℕ × Token). p.1 ∷ stepped step p.0 (words xs)) (each kept x) ∙ ap (λ (ts : List Token). Word (f x) ∷ ts) (mapped f step each kept xs)

-- what it is fed with is written as these tokens, since the scan is these
module _ (kind : Signal) (args : List ℕ) (step : List ℕ → Token → List ℕ × Token) (is : (local : List ℕ) (last : Option Token) → signals.answer (signal_card kind args) local last ≡ step_answer step local last) where
  scans : (ts outs : List Token) → stepped step (signals.start (signal_card kind args)) ts ≡ outs → Writes signals (signal_card kind args) (ts ∷ []) (outs ∷ [])
  scans ts outs same = subst (λ (l : List Token). Writes signals (signal_card kind args) (ts ∷ []) (l ∷ [])) same (steps_scan signals (signal_card kind args) step is ts)

  maps : (f : ℕ → ℕ) → ((kept : List ℕ) (x : ℕ) → step kept (Word x) ≡ (kept, Word (f x))) → Maps kind args f
  maps f each xs = scans (words xs) (words (map f xs)) (mapped f step each (signals.start (signal_card kind args)) xs)

pub shift_writes : ShiftWrites
shift_writes k others = maps Shift (k ∷ others) (shift_step k) (λ l last. refl) (right_shift k) (λ kept x. refl)

pub left_writes : LeftWrites
left_writes k others = maps Left (k ∷ others) (left_step k) (λ l last. refl) (left_shift k) (λ kept x. refl)

pub clip_writes : ClipWrites
clip_writes lo hi others = maps Clip (lo ∷ hi ∷ others) (clip_step lo hi) (λ l last. refl) (nearest lo hi) (λ kept x. refl)

pub abs_writes : AbsWrites
abs_writes others = maps Abs others abs_step (λ l last. refl) (λ x. unsigned_abs (signed x)) (λ kept x. refl)

pub offset_writes : OffsetWrites
offset_writes k others = maps Offset (k ∷ others) (offset_step k) (λ l last. refl) (λ x. (x + k) % 2 ^ 64) (λ kept x. refl)

pub gain_writes : GainWrites
gain_writes a b others = maps Gain (a ∷ b ∷ others) (gain_step a b) (λ l last. refl) (amplified a b) (λ kept x. refl)

-- the scans of the kinds that keep words
moves : (k y : ℕ) (xs : List ℕ) → stepped (low_pass_step k) (one y) (words xs) ≡ words (levels k y xs)
moves k y [] = refl
moves k y (x ∷ xs) = ap (λ (ts : List Token). Word (next_level k y x) ∷ ts) (moves k (next_level k y x) xs)

pub low_pass_writes : LowPassWrites
low_pass_writes k others xs = scans LowPass (k ∷ others) (low_pass_step k) (λ l last. refl) (words xs) _ (moves k 0 xs)

sums : (z : ℕ) (xs : List ℕ) → stepped sum_step (one z) (words xs) ≡ words (running z xs)
sums z [] = refl
sums z (x ∷ xs) = ap (λ (ts : List Token). Word (total z x) ∷ ts) (sums (total z x) xs)

pub sum_writes : SumWrites
sum_writes others xs = scans Sum others sum_step (λ l last. refl) (words xs) _ (sums 0 xs)

differences : (b : ℕ) (xs : List ℕ) → stepped difference_step (one b) (words xs) ≡ words (map (λ p. difference p.0 p.1) (zip xs (b ∷ xs)))
differences b [] = refl
differences b (x ∷ xs) = ap (λ (ts : List Token). Word (difference x b) ∷ ts) (differences x xs)

pub difference_writes : DifferenceWrites
difference_writes others xs = scans Difference others difference_step (λ l last. refl) (words xs) _ (differences 0 xs)

-- of the last four words the kept ones are enough
same_at : (n a b c d : ℕ) (more : List ℕ) → n < 4 → at (a ∷ b ∷ c ∷ d ∷ []) (suc n - 1) ≡ at (a ∷ b ∷ c ∷ d ∷ more) n
same_at zero a b c d more small = refl
same_at (suc zero) a b c d more small = refl
same_at (suc (suc zero)) a b c d more small = refl
same_at (suc (suc (suc zero))) a b c d more small = refl
same_at (suc (suc (suc (suc n)))) a b c d more small = absurd (omega arith)

delays : (n : ℕ) → n < 4 → (a b c d : ℕ) (more xs : List ℕ) → stepped (delay_step (suc n)) (a ∷ b ∷ c ∷ d ∷ []) (words xs) ≡ words (over_past (λ past. at past (suc n)) (a ∷ b ∷ c ∷ d ∷ more) xs)
delays n small a b c d more [] = refl
delays n small a b c d more (x ∷ xs) =
    ap (λ (w : ℕ). Word w ∷ stepped (delay_step (suc n)) (x ∷ a ∷ b ∷ c ∷ []) (words xs)) (same_at n a b c d more small)
    ∙ ap (λ (ts : List Token). Word (at (a ∷ b ∷ c ∷ d ∷ more) n) ∷ ts) (delays n small x a b c (d ∷ more) xs)

pub delay_writes : DelayWrites
delay_writes n others small xs = scans Delay (suc n ∷ others) (delay_step (suc n)) (λ l last. refl) (words xs) _ (delays n small 0 0 0 0 [] xs)

same_taken : (n x a b c d : ℕ) (more : List ℕ) → n ≤ 5 → take n (x ∷ a ∷ b ∷ c ∷ d ∷ []) ≡ take n (x ∷ a ∷ b ∷ c ∷ d ∷ more)
same_taken zero x a b c d more small = refl
same_taken (suc zero) x a b c d more small = refl
same_taken (suc (suc zero)) x a b c d more small = refl
same_taken (suc (suc (suc zero))) x a b c d more small = refl
same_taken (suc (suc (suc (suc zero)))) x a b c d more small = refl
same_taken (suc (suc (suc (suc (suc zero))))) x a b c d more small = refl
same_taken (suc (suc (suc (suc (suc (suc n)))))) x a b c d more small = absurd (omega arith)

means : (n : ℕ) → n ≤ 5 → (a b c d : ℕ) (more xs : List ℕ) → stepped (average_step n) (a ∷ b ∷ c ∷ d ∷ []) (words xs) ≡ words (over_past (mean n) (a ∷ b ∷ c ∷ d ∷ more) xs)
means n small a b c d more [] = refl
means n small a b c d more (x ∷ xs) =
    ap (λ (ws : List ℕ). Word (wrapped (floor_div (signed_sum ws) (pos n))) ∷ stepped (average_step n) (x ∷ a ∷ b ∷ c ∷ []) (words xs)) (same_taken n x a b c d more small)
    ∙ ap (λ (ts : List Token). Word (mean n (x ∷ a ∷ b ∷ c ∷ d ∷ more)) ∷ ts) (means n small x a b c (d ∷ more) xs)

pub average_writes : AverageWrites
average_writes n others small xs = scans Average (n ∷ others) (average_step n) (λ l last. refl) (words xs) _ (means n small 0 0 0 0 [] xs)

-- the scans of those that read flags
counted_all : (z : ℕ) (fs : List Bool) → stepped counter_step (one z) (flags fs) ≡ words (counts z fs)
counted_all z [] = refl
counted_all z (f ∷ fs) = ap (λ (ts : List Token). Word ((z + number_of (Flag f)) % 2 ^ 64) ∷ ts) (counted_all ((z + number_of (Flag f)) % 2 ^ 64) fs)

pub counter_writes : CounterWrites
counter_writes others fs = scans Counter others counter_step (λ l last. refl) (flags fs) _ (counted_all 0 fs)

edges : (b : Bool) (fs : List Bool) → stepped edge_step (one (number_of (Flag b))) (flags fs) ≡ flags (map (λ p. p.0 && not p.1) (zip fs (b ∷ fs)))
edges b [] = refl
edges true (f ∷ fs) = ap (λ (ts : List Token). Flag (f && false) ∷ ts) (edges f fs)
edges false (f ∷ fs) = ap (λ (ts : List Token). Flag (f && true) ∷ ts) (edges f fs)

pub edge_writes : EdgeWrites
edge_writes others fs = scans Edge others edge_step (λ l last. refl) (flags fs) _ (edges false fs)

-- the joins that keep no word
zipped : (f : ℕ → ℕ → ℕ) (join : ℕ → ℕ → Token → ℕ × Token) → ((kept x y : ℕ) → join kept x (Word y) ≡ (kept, Word (f x y))) → (kept : ℕ) (xs ys : List ℕ) → joined join kept (words xs) (words ys) ≡ words (map (λ p. f p.0 p.1) (zip xs ys))
zipped f join each kept [] ys = refl
zipped f join each kept (x ∷ xs) [] = refl
zipped f join each kept (x ∷ xs) (y ∷ ys) =
    ap (λ (p : ℕ × Token). p.1 ∷ joined join p.0 (words xs) (words ys)) (each kept x y) ∙ ap (λ (ts : List Token). Word (f x y) ∷ ts) (zipped f join each kept xs ys)

told : (f : ℕ → ℕ → Bool) (join : ℕ → ℕ → Token → ℕ × Token) → ((kept x y : ℕ) → join kept x (Word y) ≡ (kept, Flag (f x y))) → (kept : ℕ) (xs ys : List ℕ) → joined join kept (words xs) (words ys) ≡ flags (map (λ p. f p.0 p.1) (zip xs ys))
told f join each kept [] ys = refl
told f join each kept (x ∷ xs) [] = refl
told f join each kept (x ∷ xs) (y ∷ ys) =
    ap (λ (p : ℕ × Token). p.1 ∷ joined join p.0 (words xs) (words ys)) (each kept x y) ∙ ap (λ (ts : List Token). Flag (f x y) ∷ ts) (told f join each kept xs ys)

module _ (kind : Signal) (join : ℕ → ℕ → Token → ℕ × Token) (is : (args local : List ℕ) (last : Option Token) → signals.answer (signal_card kind args) local last ≡ join_answer join local last) (starts : (args : List ℕ) → signals.start (signal_card kind args) ≡ three READS_FIRST 0 0) where
  both : (args : List ℕ) (xs ys outs : List Token) → joined join 0 xs ys ≡ outs → Writes signals (signal_card kind args) (xs ∷ ys ∷ []) (outs ∷ [])
  both args xs ys outs same =
      subst (λ (l : List Token). Writes signals (signal_card kind args) (xs ∷ ys ∷ []) (l ∷ [])) same (joins_scan signals (signal_card kind args) join 0 (is args) (starts args) xs ys)

  zips : (f : ℕ → ℕ → ℕ) → ((kept x y : ℕ) → join kept x (Word y) ≡ (kept, Word (f x y))) → Zips kind f
  zips f each others xs ys = both others (words xs) (words ys) _ (zipped f join each 0 xs ys)

  tells : (f : ℕ → ℕ → Bool) → ((kept x y : ℕ) → join kept x (Word y) ≡ (kept, Flag (f x y))) → Tells kind f
  tells f each others xs ys = both others (words xs) (words ys) _ (told f join each 0 xs ys)

pub sub_writes : SubWrites
sub_writes = zips Sub sub_join (λ args l last. refl) (λ args. refl) difference (λ kept x y. refl)

pub mul_writes : MulWrites
mul_writes = zips Mul mul_join (λ args l last. refl) (λ args. refl) product (λ kept x y. refl)

pub min_writes : MinWrites
min_writes = zips Min min_join (λ args l last. refl) (λ args. refl) least (λ kept x y. refl)

pub max_writes : MaxWrites
max_writes = zips Max max_join (λ args l last. refl) (λ args. refl) greatest (λ kept x y. refl)

pub div_writes : DivWrites
div_writes = zips Div div_join (λ args l last. refl) (λ args. refl) quotient (λ kept x y. refl)

pub mod_writes : ModWrites
mod_writes = zips Mod mod_join (λ args l last. refl) (λ args. refl) remainder (λ kept x y. refl)

pub less_writes : LessWrites
less_writes = tells Less less_join (λ args l last. refl) (λ args. refl) (λ x y. int_lt (signed x) (signed y)) (λ kept x y. refl)

pub equal_writes : EqualWrites
equal_writes = tells Equal equal_join (λ args l last. refl) (λ args. refl) (λ x y. x == y) (λ kept x y. refl)

-- hold keeps the word that it wrote
holds : (v : ℕ) (xs : List ℕ) (fs : List Bool) → joined hold_join v (words xs) (flags fs) ≡ words (held v xs fs)
holds v [] fs = refl
holds v (x ∷ xs) [] = refl
holds v (x ∷ xs) (true ∷ fs) = ap (λ (ts : List Token). Word x ∷ ts) (holds x xs fs)
holds v (x ∷ xs) (false ∷ fs) = ap (λ (ts : List Token). Word v ∷ ts) (holds v xs fs)

pub hold_writes : HoldWrites
hold_writes v others xs fs =
    subst (λ (l : List Token). Writes signals (signal_card Hold (v ∷ others)) (words xs ∷ flags fs ∷ []) (l ∷ [])) (holds v xs fs)
    (joins_scan signals (signal_card Hold (v ∷ others)) hold_join v (λ l last. refl) refl (words xs) (flags fs))

module _ (others : List ℕ) where
  abbrev gater : Card
  gater = signal_card Gate others

  none_flagged : (fs : List Bool) → flagged fs [] ≡ []
  none_flagged [] = refl
  none_flagged (f ∷ fs) = refl

  -- where it asks for a word, it writes those whose flag is true
  gates :
      (local : List ℕ) (last : Option Token) → signals.answer gater local last ≡ record { next = three READS_SECOND 0 0; act = Read 0 }
      → (xs : List ℕ) (fs : List Bool) → WritesFrom signals gater (Live local last) (words xs ∷ flags fs ∷ []) (words (flagged fs xs) ∷ [])
  gates local last is [] fs =
      subst (λ (l : List ℕ). WritesFrom signals gater (Live local last) ([] ∷ flags fs ∷ []) (words l ∷ [])) (sym (none_flagged fs))
      (waits signals gater (three READS_SECOND 0 0) 0 is refl refl)
  gates local last is (x ∷ xs) [] =
      reads signals gater (three READS_SECOND 0 0) 0 (Word x) (words xs) is refl (waits signals gater (three WRITES x 0) 1 refl refl refl)
  gates local last is (x ∷ xs) (true ∷ fs) =
      reads signals gater (three READS_SECOND 0 0) 0 (Word x) (words xs) is refl
      (reads signals gater (three WRITES x 0) 1 (Flag true) (flags fs) refl refl (puts signals gater (three READS_FIRST 0 0) (Word x) refl (gates (three READS_FIRST 0 0) None refl xs fs)))
  gates local last is (x ∷ xs) (false ∷ fs) =
      reads signals gater (three READS_SECOND 0 0) 0 (Word x) (words xs) is refl
      (reads signals gater (three WRITES x 0) 1 (Flag false) (flags fs) refl refl (gates (three WRITES x 0) (Some (Flag false)) refl xs fs))

pub gate_writes : GateWrites
gate_writes others xs fs = gates others (one 0) None refl xs fs

module _ (others : List ℕ) where
  abbrev copier : Card
  copier = signal_card CopyFlags others

  copied : (f : Bool) → Flag (number_of (Flag f) == 1) ≡ Flag f
  copied true = refl
  copied false = refl

  copies : (fs : List Bool) → WritesFrom signals copier (Live (one 0) None) (flags fs ∷ []) (flags fs ∷ flags fs ∷ [])
  copies [] = waits signals copier (one 0) 0 refl refl refl
  copies (f ∷ fs) =
      reads signals copier (one 0) 0 (Flag f) (flags fs) refl refl
      (writes signals copier (two 1 (number_of (Flag f))) (flags fs ∷ (Flag f ∷ flags fs) ∷ []) 0 (Flag f) refl refl refl refl
      (subst (λ (t : Token). WritesFrom signals copier (Live (two 1 (number_of (Flag f))) None) (flags fs ∷ []) (flags fs ∷ (t ∷ flags fs) ∷ [])) (copied f)
      (writes signals copier (one 0) (flags fs ∷ flags fs ∷ []) 1 (Flag (number_of (Flag f) == 1)) refl refl refl refl (copies fs))))

pub copy_flags_writes : CopyFlagsWrites
copy_flags_writes others fs = copies others fs
