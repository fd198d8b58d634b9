-- The laws of the kinds for signals, for every card.
use Rattle.std.proofs.Common.{◌≡◌, ℕ, ◌<◌, ◌-◌, ◌^◌, ◌==◌, Bool, true, false, List, Option, Some, None, IsSome, option_and_then, refl, ◌∙◌, ap, arith}
use Rattle.std.specs.Option.{option_map_or}
use Rattle.kpn_model.specs.declared.token.Token.{Token}
use Rattle.kpn_model.specs.declared.token.Token.TheVariants.{Word, Flag}
use Rattle.kpn_model.specs.declared.kinds.Card.{Card}
use Rattle.kpn_model.specs.declared.kinds.Signature.{Signature}
use Rattle.kpn_model.specs.Lawful.{Fits, CardFits, AreLawful}
use Rattle.kpn_standard.specs.Locals.{at, got, word, flag, one, stays, IsLocal, LastFits}
use Rattle.kpn_standard.specs.Table.{one_word, one_flag, word_and_flag}
use Rattle.kpn_standard.specs.Signatures.{given}
use Rattle.kpn_standard.proofs.Laws.{passes, by_flag}
use Rattle.kpn_signals.specs.declared.signal.Signal.{Signal}
use Rattle.kpn_signals.specs.declared.signal.Signal.TheVariants.{Input, InputFlags, Drain, DrainFlags, Constant, CountUp, Sub, Mul, Shift, Left, Less, Equal, Not, And, Or, Decimate, Repeat, Hold, Delay, LowPass, Clip, SignedConstant, SignedHold, SignedClip, SignedScale, SignedPrefix, CopyFlags, Min, Max, Abs, Offset, Gain, Div, Mod, Sum, Difference, Average, Counter, Edge, Noise, Gate, SignedOffset, SignedGain}
use Rattle.kpn_signals.specs.declared.turns.TheConstants.{READS_FIRST, READS_SECOND}
use Rattle.kpn_signals.specs.Words.{word_below, bound}
use Rattle.kpn_signals.specs.Shapes.{Admitted}
use Rattle.kpn_signals.specs.Arithmetic.{sub_join, mul_join, shift_step, left_step, scale_step, min_join, max_join, abs_step, offset_step, gain_step, div_join, mod_join}
use Rattle.kpn_signals.specs.Logic.{less_join, equal_join, not_step, and_join, or_join, edge_step}
use Rattle.kpn_signals.specs.Ends.{copy_flags_answer, prefix_answer}
use Rattle.kpn_signals.specs.Rates.{decimate_answer, repeat_answer, gate_answer}
use Rattle.kpn_signals.specs.Noise.{moved}
use Rattle.kpn_signals.specs.Filters.{choice, hold_join, delay_step, low_pass_step, clip_step, sum_step, difference_step, average_step, counter_step}
use Rattle.kpn_signals.specs.Table.{two_flags, row_of, numbered}
use Rattle.kpn_signals.specs.Signatures.{accepts, signature_of_kind, ports}
use Rattle.kpn_signals.specs.Family.{answer_of, start_of, signals}
use Rattle.kpn_signals.proofs.Numbers.{local_word, below_fits, bound_fits, right_shift_fits, next_level_fits, nearest_fits, least_fits, greatest_fits, size_fits, wrapped_fits, quotient_fits, mixed_fits}
use Rattle.kpn_signals.proofs.Laws.{IsLawful, number_fits, got_fits, stops, reads, writes, step_lawful, join_lawful}

-- the word of a token that fits
word_fits : (t : Token) → Fits t → word t < 2 ^ 64
word_fits (Word w) fits = fits
word_fits (Flag f) fits = omega arith

-- the word that hold chooses
choice_fits : (kept first : ℕ) (t : Token) → kept < 2 ^ 64 → first < 2 ^ 64 → choice kept first t < 2 ^ 64
choice_fits kept first (Word w) kept_fits first_fits = kept_fits
choice_fits kept first (Flag true) kept_fits first_fits = first_fits
choice_fits kept first (Flag false) kept_fits first_fits = kept_fits

-- the ports of a kind whose arguments are accepted
has_ports : (kind : Signal) (card : Card) → numbered card.kind ≡ Some kind → accepts kind card.args ≡ true → ports card ≡ Some (record { ins = (row_of kind).ins; outs = (row_of kind).outs })
has_ports kind card is taken =
    ap (λ (o : Option Signal). option_and_then (λ kind. signature_of_kind kind card.args) o) is ∙ ap (λ (test : Bool). given test (row_of kind).ins (row_of kind).outs) taken

-- the arguments of a card are words
argument : (card : Card) (k : ℕ) → k < 3 → CardFits card → at card.args k < 2 ^ 64
argument card k small fits = fits.args k 0 (omega (arith, fits.three))

-- the answers of a kind are lawful in each local state and after each token
abbrev AnswersWell : Signal → Card → Type 0
AnswersWell kind card = (l : List ℕ) (last : Option Token) → IsLocal l → LastFits last → IsLawful card (answer_of kind card.args l last)

module _ (card : Card) (s : Signature) (is : ports card ≡ Some s) where
  -- decimate, whose card has an input and an output of words
  decimate_lawful : (n : ℕ) → n < 2 ^ 64 → s.ins ≡ one_word → s.outs ≡ one_word → (l : List ℕ) (last : Option Token) → IsLocal l → LastFits last → IsLawful card (decimate_answer n l last)
  decimate_lawful n small ins outs l None fits last_fits =
      reads card s is _ 0 (omega arith) (rw ins refl) (local_word l 0 fits, omega arith, omega arith, omega arith)
  decimate_lawful n small ins outs l (Some t) fits last_fits =
      by_flag (λ a. IsLawful card a) (at l 0 == 0) _ _
      (writes card s is _ 0 _ (omega arith) (word_fits t last_fits) (rw outs refl) (omega arith, omega arith, omega arith, omega arith))
      (let p = local_word l 0 fits in reads card s is _ 0 (omega arith) (rw ins refl) (omega arith, omega arith, omega arith, omega arith))

  -- repeat, whose card has the same
  repeat_lawful : (n : ℕ) → n < 2 ^ 64 → s.ins ≡ one_word → s.outs ≡ one_word → (l : List ℕ) (last : Option Token) → IsLocal l → LastFits last → IsLawful card (repeat_answer n l last)
  repeat_lawful n small ins outs l None fits last_fits =
      let m = local_word l 0 fits in
      let v = local_word l 1 fits in
      by_flag (λ a. IsLawful card a) (at l 0 == 0) _ _
      (reads card s is _ 0 (omega arith) (rw ins refl) (omega arith, v, omega arith, omega arith))
      (writes card s is _ 0 _ (omega arith) v (rw outs refl) (omega arith, v, omega arith, omega arith))
  repeat_lawful n small ins outs l (Some t) fits last_fits =
      let w = word_fits t last_fits in writes card s is _ 0 _ (omega arith) w (rw outs refl) (omega arith, w, omega arith, omega arith)

  -- prefix, whose card has the same
  prefix_lawful : (v : ℕ) → v < 2 ^ 64 → s.ins ≡ one_word → s.outs ≡ one_word → (l : List ℕ) (last : Option Token) → IsLocal l → LastFits last → IsLawful card (prefix_answer v l last)
  prefix_lawful v small ins outs l None fits last_fits =
      by_flag (λ a. IsLawful card a) (at l 0 == 0) _ _
      (writes card s is _ 0 _ (omega arith) small (rw outs refl) (omega arith, omega arith, omega arith, omega arith))
      (reads card s is _ 0 (omega arith) (rw ins refl) (omega arith, omega arith, omega arith, omega arith))
  prefix_lawful v small ins outs l (Some t) fits last_fits =
      writes card s is _ 0 _ (omega arith) (word_fits t last_fits) (rw outs refl) (omega arith, omega arith, omega arith, omega arith)

  -- copy_flags, whose card has an input and two outputs of flags
  copy_flags_lawful : s.ins ≡ one_flag → s.outs ≡ two_flags → (l : List ℕ) (last : Option Token) → IsLocal l → LastFits last → IsLawful card (copy_flags_answer l last)
  copy_flags_lawful ins outs l None fits last_fits =
      by_flag (λ a. IsLawful card a) (at l 0 == 0) _ _
      (reads card s is _ 0 (omega arith) (rw ins refl) (omega arith, omega arith, omega arith, omega arith))
      (writes card s is _ 1 _ (omega arith) tt (rw outs refl) (omega arith, omega arith, omega arith, omega arith))
  copy_flags_lawful ins outs l (Some t) fits last_fits =
      writes card s is _ 0 _ (omega arith) tt (rw outs refl) (omega arith, number_fits (Flag (flag t)) tt, omega arith, omega arith)

  -- gate, whose card has an input of words, one of flags and an output of words
  gate_lawful : s.ins ≡ word_and_flag → s.outs ≡ one_word → (l : List ℕ) (last : Option Token) → IsLocal l → LastFits last → IsLawful card (gate_answer l last)
  gate_lawful ins outs l last fits last_fits =
      by_flag (λ a. IsLawful card a) (at l 0 == READS_FIRST) _ _
      (reads card s is _ 0 (omega arith) (rw ins refl) (omega arith, omega arith, omega arith, omega arith))
      (by_flag (λ a. IsLawful card a) (at l 0 == READS_SECOND) _ _
      (reads card s is _ 1 (omega arith) (rw ins refl) (omega arith, word_fits (got last) (got_fits last last_fits), omega arith, omega arith))
      (by_flag (λ a. IsLawful card a) (flag (got last)) _ _
      (writes card s is _ 0 _ (omega arith) (local_word l 1 fits) (rw outs refl) (omega arith, omega arith, omega arith, omega arith))
      (reads card s is _ 0 (omega arith) (rw ins refl) (omega arith, omega arith, omega arith, omega arith))))

-- a local state of one word
one_fits : (n : ℕ) → n < 2 ^ 64 → IsLocal (one n)
one_fits n small = (small, omega arith, omega arith, omega arith)

-- an answer of each kind is lawful
kind_lawful : (kind : Signal) (card : Card) → CardFits card → numbered card.kind ≡ Some kind → accepts kind card.args ≡ true → AnswersWell kind card
kind_lawful Input card small is taken = λ l last fits last_fits. stops card l
kind_lawful InputFlags card small is taken = λ l last fits last_fits. stops card l
kind_lawful Drain card small is taken = λ l last fits last_fits. reads card _ (has_ports Drain card is taken) l 0 (omega arith) refl fits
kind_lawful DrainFlags card small is taken = λ l last fits last_fits. reads card _ (has_ports DrainFlags card is taken) l 0 (omega arith) refl fits
kind_lawful Constant card small is taken = λ l last fits last_fits. writes card _ (has_ports Constant card is taken) l 0 _ (omega arith) (argument card 0 (omega arith) small) refl fits
kind_lawful CountUp card small is taken =
    λ l last fits last_fits. writes card _ (has_ports CountUp card is taken) _ 0 _ (omega arith) (local_word l 0 fits) refl (omega arith, omega arith, omega arith, omega arith)
kind_lawful Sub card small is taken = join_lawful card _ (has_ports Sub card is taken) sub_join refl refl (λ kept x t kept_fits x_fits fits. (kept_fits, omega arith, refl))
kind_lawful Mul card small is taken = join_lawful card _ (has_ports Mul card is taken) mul_join refl refl (λ kept x t kept_fits x_fits fits. (kept_fits, omega arith, refl))
kind_lawful Shift card small is taken =
    step_lawful card _ (has_ports Shift card is taken) (shift_step (at card.args 0)) refl (λ kept t kept_fits fits. (kept_fits, right_shift_fits (at card.args 0) (word t) (word_fits t fits), refl))
kind_lawful Left card small is taken = step_lawful card _ (has_ports Left card is taken) (left_step (at card.args 0)) refl (λ kept t kept_fits fits. (kept_fits, omega arith, refl))
kind_lawful Less card small is taken = join_lawful card _ (has_ports Less card is taken) less_join refl refl (λ kept x t kept_fits x_fits fits. (kept_fits, tt, refl))
kind_lawful Equal card small is taken = join_lawful card _ (has_ports Equal card is taken) equal_join refl refl (λ kept x t kept_fits x_fits fits. (kept_fits, tt, refl))
kind_lawful Not card small is taken = step_lawful card _ (has_ports Not card is taken) not_step refl (λ kept t kept_fits fits. (kept_fits, tt, refl))
kind_lawful And card small is taken = join_lawful card _ (has_ports And card is taken) and_join refl refl (λ kept x t kept_fits x_fits fits. (kept_fits, tt, refl))
kind_lawful Or card small is taken = join_lawful card _ (has_ports Or card is taken) or_join refl refl (λ kept x t kept_fits x_fits fits. (kept_fits, tt, refl))
kind_lawful Decimate card small is taken = decimate_lawful card _ (has_ports Decimate card is taken) (at card.args 0) (argument card 0 (omega arith) small) refl refl
kind_lawful Repeat card small is taken = repeat_lawful card _ (has_ports Repeat card is taken) (at card.args 0) (argument card 0 (omega arith) small) refl refl
kind_lawful Hold card small is taken =
    join_lawful card _ (has_ports Hold card is taken) hold_join refl refl (λ kept x t kept_fits x_fits fits. let c = choice_fits kept x t kept_fits x_fits in (c, c, refl))
kind_lawful Delay card small is taken =
    step_lawful card _ (has_ports Delay card is taken) (delay_step (at card.args 0)) refl
    (λ kept t kept_fits fits. ((word_fits t fits, local_word kept 0 kept_fits, local_word kept 1 kept_fits, local_word kept 2 kept_fits), local_word kept (at card.args 0 - 1) kept_fits, refl))
kind_lawful LowPass card small is taken =
    step_lawful card _ (has_ports LowPass card is taken) (low_pass_step (at card.args 0)) refl
    (λ kept t kept_fits fits. let y = next_level_fits (at card.args 0) (at kept 0) (word t) (local_word kept 0 kept_fits) (word_fits t fits) in ((y, omega arith, omega arith, omega arith), y, refl))
kind_lawful Clip card small is taken =
    step_lawful card _ (has_ports Clip card is taken) (clip_step (at card.args 0) (at card.args 1)) refl
    (λ kept t kept_fits fits. (kept_fits, nearest_fits _ _ _ (argument card 0 (omega arith) small) (argument card 1 (omega arith) small) (word_fits t fits), refl))
kind_lawful SignedConstant card small is taken = λ l last fits last_fits. writes card _ (has_ports SignedConstant card is taken) l 0 _ (omega arith) (below_fits (at card.args 0)) refl fits
kind_lawful SignedHold card small is taken =
    join_lawful card _ (has_ports SignedHold card is taken) hold_join refl refl (λ kept x t kept_fits x_fits fits. let c = choice_fits kept x t kept_fits x_fits in (c, c, refl))
kind_lawful SignedClip card small is taken =
    step_lawful card _ (has_ports SignedClip card is taken) (clip_step (word_below (at card.args 0)) (bound (at card.args 1) (at card.args 2))) refl
    (λ kept t kept_fits fits. (kept_fits, nearest_fits _ _ _ (below_fits (at card.args 0)) (bound_fits (at card.args 1) (at card.args 2) (argument card 1 (omega arith) small)) (word_fits t fits), refl))
kind_lawful SignedScale card small is taken =
    step_lawful card _ (has_ports SignedScale card is taken) (scale_step (word_below (at card.args 0))) refl (λ kept t kept_fits fits. (kept_fits, omega arith, refl))
kind_lawful SignedPrefix card small is taken = prefix_lawful card _ (has_ports SignedPrefix card is taken) (word_below (at card.args 0)) (below_fits (at card.args 0)) refl refl
kind_lawful CopyFlags card small is taken = copy_flags_lawful card _ (has_ports CopyFlags card is taken) refl refl
kind_lawful Min card small is taken =
    join_lawful card _ (has_ports Min card is taken) min_join refl refl (λ kept x t kept_fits x_fits fits. (kept_fits, least_fits x (word t) x_fits (word_fits t fits), refl))
kind_lawful Max card small is taken =
    join_lawful card _ (has_ports Max card is taken) max_join refl refl (λ kept x t kept_fits x_fits fits. (kept_fits, greatest_fits x (word t) x_fits (word_fits t fits), refl))
kind_lawful Abs card small is taken = step_lawful card _ (has_ports Abs card is taken) abs_step refl (λ kept t kept_fits fits. (kept_fits, size_fits (word t) (word_fits t fits), refl))
kind_lawful Offset card small is taken = step_lawful card _ (has_ports Offset card is taken) (offset_step (at card.args 0)) refl (λ kept t kept_fits fits. (kept_fits, omega arith, refl))
kind_lawful Gain card small is taken =
    step_lawful card _ (has_ports Gain card is taken) (gain_step (at card.args 0) (at card.args 1)) refl (λ kept t kept_fits fits. (kept_fits, wrapped_fits _, refl))
kind_lawful Div card small is taken = join_lawful card _ (has_ports Div card is taken) div_join refl refl (λ kept x t kept_fits x_fits fits. (kept_fits, quotient_fits x (word t), refl))
kind_lawful Mod card small is taken = join_lawful card _ (has_ports Mod card is taken) mod_join refl refl (λ kept x t kept_fits x_fits fits. (kept_fits, omega arith, refl))
kind_lawful Sum card small is taken =
    step_lawful card _ (has_ports Sum card is taken) sum_step refl (λ kept t kept_fits fits. (one_fits _ (omega arith), omega arith, refl))
kind_lawful Difference card small is taken =
    step_lawful card _ (has_ports Difference card is taken) difference_step refl (λ kept t kept_fits fits. (one_fits _ (word_fits t fits), omega arith, refl))
kind_lawful Average card small is taken =
    step_lawful card _ (has_ports Average card is taken) (average_step (at card.args 0)) refl
    (λ kept t kept_fits fits. ((word_fits t fits, local_word kept 0 kept_fits, local_word kept 1 kept_fits, local_word kept 2 kept_fits), wrapped_fits _, refl))
kind_lawful Counter card small is taken =
    step_lawful card _ (has_ports Counter card is taken) counter_step refl (λ kept t kept_fits fits. (one_fits _ (omega arith), omega arith, refl))
kind_lawful Edge card small is taken =
    step_lawful card _ (has_ports Edge card is taken) edge_step refl (λ kept t kept_fits fits. (one_fits _ (number_fits (Flag (flag t)) tt), tt, refl))
kind_lawful Noise card small is taken =
    λ l last fits last_fits. writes card _ (has_ports Noise card is taken) _ 0 _ (omega arith) (mixed_fits (moved (at l 0))) refl (omega arith, omega arith, omega arith, omega arith)
kind_lawful Gate card small is taken = gate_lawful card _ (has_ports Gate card is taken) refl refl
kind_lawful SignedOffset card small is taken =
    step_lawful card _ (has_ports SignedOffset card is taken) (offset_step (word_below (at card.args 0))) refl (λ kept t kept_fits fits. (kept_fits, omega arith, refl))
kind_lawful SignedGain card small is taken =
    step_lawful card _ (has_ports SignedGain card is taken) (gain_step (word_below (at card.args 0)) (at card.args 1)) refl (λ kept t kept_fits fits. (kept_fits, wrapped_fits _, refl))

-- the start of each kind is a local state
start_fits : (kind : Signal) (args : List ℕ) → at args 0 < 2 ^ 64 → IsLocal (start_of kind args)
start_fits Hold args small = (omega arith, omega arith, small, omega arith)
start_fits SignedHold args small = (omega arith, omega arith, below_fits (at args 0), omega arith)
start_fits Noise args small = (small, omega arith, omega arith, omega arith)
start_fits _ args small = (omega arith, omega arith, omega arith, omega arith)

-- a card that has ports is of a kind that accepts its arguments
module _ (card : Card) (small : CardFits card) (l : List ℕ) (last : Option Token) (fits : IsLocal l) (last_fits : LastFits last) where
  answers : (o : Option Signal) → numbered card.kind ≡ o → IsSome (option_and_then (λ kind. signature_of_kind kind card.args) o) → IsLawful card (option_map_or (λ kind. answer_of kind card.args l last) o (stays l))
  answers None is signed = stops card l
  answers (Some kind) is signed = kind_lawful kind card small is (passes _ _ _ signed) l last fits last_fits

starts : (card : Card) (o : Option Signal) → at card.args 0 < 2 ^ 64 → IsLocal (option_map_or (λ kind. start_of kind card.args) o (one 0))
starts card None small = (omega arith, omega arith, omega arith, omega arith)
starts card (Some kind) small = start_fits kind card.args small

-- an admitted answer is lawful
answers_lawful : (card : Card) (l : List ℕ) (last : Option Token) → CardFits card → IsSome (ports card) → Admitted l last → IsLawful card (signals.answer card l last)
answers_lawful card l last small signed admitted = answers card small l last admitted.local_fits admitted.last_fits (numbered card.kind) refl signed

-- the laws of the kinds for signals
pub signals_lawful : AreLawful ports (λ card. Admitted) signals
signals_lawful =
    record {
      names_port = λ card l last small signed admitted. (answers_lawful card l last small signed admitted).names_port;
      leads_on = λ card l last token small signed admitted. (answers_lawful card l last small signed admitted).leads_on token;
      starts = λ card small signed. record { local_fits = starts card (numbered card.kind) (argument card 0 (omega arith) small); last_fits = tt };
    }
