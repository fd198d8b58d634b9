-- The family of the kinds for signals.
use Rattle.std.specs.Prelude.{ℕ, List, Option}
use Rattle.std.specs.Option.{option_map_or}
use Rattle.kpn_model.specs.declared.token.Token.{Token}
use Rattle.kpn_model.specs.declared.kinds.Answer.{Answer}
use Rattle.kpn_model.specs.Network.{Family}
use Rattle.kpn_standard.specs.Locals.{at, one, three, stays}
use Rattle.kpn_signals.specs.declared.turns.TheConstants.{READS_FIRST}
use Rattle.kpn_signals.specs.declared.signal.Signal.{Signal}
use Rattle.kpn_signals.specs.declared.signal.Signal.TheVariants.{Input, InputFlags, Drain, DrainFlags, Constant, CountUp, Sub, Mul, Shift, Left, Less, Equal, Not, And, Or, Decimate, Repeat, Hold, Delay, LowPass, Clip, SignedConstant, SignedHold, SignedClip, SignedScale, SignedPrefix, CopyFlags, Min, Max, Abs, Offset, Gain, Div, Mod, Sum, Difference, Average, Counter, Edge, Noise, Gate, SignedOffset, SignedGain}
use Rattle.kpn_signals.specs.Words.{word_below, bound}
use Rattle.kpn_signals.specs.Shapes.{step_answer, join_answer}
use Rattle.kpn_signals.specs.Ends.{input_answer, drain_answer, constant_answer, count_up_answer, copy_flags_answer, prefix_answer}
use Rattle.kpn_signals.specs.Arithmetic.{sub_join, mul_join, shift_step, left_step, scale_step, min_join, max_join, abs_step, offset_step, gain_step, div_join, mod_join}
use Rattle.kpn_signals.specs.Logic.{less_join, equal_join, not_step, and_join, or_join, edge_step}
use Rattle.kpn_signals.specs.Rates.{decimate_answer, repeat_answer, gate_answer}
use Rattle.kpn_signals.specs.Noise.{noise_answer}
use Rattle.kpn_signals.specs.Filters.{hold_join, delay_step, low_pass_step, clip_step, sum_step, difference_step, average_step, counter_step}
use Rattle.kpn_signals.specs.Table.{numbered}

-- the step of `clip, signed`
abbrev pub signed_clip_step : List ℕ → List ℕ → Token → List ℕ × Token
signed_clip_step args = clip_step (word_below (at args 0)) (bound (at args 1) (at args 2))

abbrev pub answer_of : Signal → List ℕ → List ℕ → Option Token → Answer
answer_of Input args l last = input_answer l
answer_of InputFlags args l last = input_answer l
answer_of Drain args l last = drain_answer l
answer_of DrainFlags args l last = drain_answer l
answer_of Constant args l last = constant_answer (at args 0) l
answer_of CountUp args l last = count_up_answer l
answer_of Sub args l last = join_answer sub_join l last
answer_of Mul args l last = join_answer mul_join l last
answer_of Shift args l last = step_answer (shift_step (at args 0)) l last
answer_of Left args l last = step_answer (left_step (at args 0)) l last
answer_of Less args l last = join_answer less_join l last
answer_of Equal args l last = join_answer equal_join l last
answer_of Not args l last = step_answer not_step l last
answer_of And args l last = join_answer and_join l last
answer_of Or args l last = join_answer or_join l last
answer_of Decimate args l last = decimate_answer (at args 0) l last
answer_of Repeat args l last = repeat_answer (at args 0) l last
answer_of Hold args l last = join_answer hold_join l last
answer_of Delay args l last = step_answer (delay_step (at args 0)) l last
answer_of LowPass args l last = step_answer (low_pass_step (at args 0)) l last
answer_of Clip args l last = step_answer (clip_step (at args 0) (at args 1)) l last
answer_of SignedConstant args l last = constant_answer (word_below (at args 0)) l
answer_of SignedHold args l last = join_answer hold_join l last
answer_of SignedClip args l last = step_answer (signed_clip_step args) l last
answer_of SignedScale args l last = step_answer (scale_step (word_below (at args 0))) l last
answer_of SignedPrefix args l last = prefix_answer (word_below (at args 0)) l last
answer_of CopyFlags args l last = copy_flags_answer l last
answer_of Min args l last = join_answer min_join l last
answer_of Max args l last = join_answer max_join l last
answer_of Abs args l last = step_answer abs_step l last
answer_of Offset args l last = step_answer (offset_step (at args 0)) l last
answer_of Gain args l last = step_answer (gain_step (at args 0) (at args 1)) l last
answer_of Div args l last = join_answer div_join l last
answer_of Mod args l last = join_answer mod_join l last
answer_of Sum args l last = step_answer sum_step l last
answer_of Difference args l last = step_answer difference_step l last
answer_of Average args l last = step_answer (average_step (at args 0)) l last
answer_of Counter args l last = step_answer counter_step l last
answer_of Edge args l last = step_answer edge_step l last
answer_of Noise args l last = noise_answer l
answer_of Gate args l last = gate_answer l last
answer_of SignedOffset args l last = step_answer (offset_step (word_below (at args 0))) l last
answer_of SignedGain args l last = step_answer (gain_step (word_below (at args 0)) (at args 1)) l last

-- hold and noise keep their argument, all else is 0
abbrev pub start_of : Signal → List ℕ → List ℕ
start_of Hold args = three READS_FIRST 0 (at args 0)
start_of SignedHold args = three READS_FIRST 0 (word_below (at args 0))
start_of Noise args = one (at args 0)
start_of _ args = one 0

-- what a process of this kind answers; one of no kind stops
abbrev pub answer_by_kind : Option Signal → List ℕ → List ℕ → Option Token → Answer
answer_by_kind found args local last = option_map_or (λ kind. answer_of kind args local last) found (stays local)

-- a card of no kind stops
abbrev pub signals : Family
signals =
    record {
      start = λ card. option_map_or (λ kind. start_of kind card.args) (numbered card.kind) (one 0);
      answer = λ card local last. answer_by_kind (numbered card.kind) card.args local last;
    }
