-- The family of the twelve standard kinds.
use Rattle.std.specs.Prelude.{ℕ, List, [], ◌∷◌, Option}
use Rattle.std.specs.Option.{option_map_or}
use Rattle.kpn_model.specs.declared.token.Token.{Token}
use Rattle.kpn_model.specs.declared.kinds.Card.{Card}
use Rattle.kpn_model.specs.declared.kinds.Answer.{Answer}
use Rattle.kpn_model.specs.Network.{Family}
use Rattle.kpn_standard.specs.declared.kind.Kind.{Kind}
use Rattle.kpn_standard.specs.declared.kind.Kind.TheVariants.{Count, Sink, Take, Copy, Prefix, Add, Scale, Weave, Merge, Divides, Switch, Select}
use Rattle.kpn_standard.specs.Locals.{stays, got}
use Rattle.kpn_standard.specs.Ends.{count_answer, sink_answer}
use Rattle.kpn_standard.specs.Copies.{take_answer, copy_answer, prefix_answer}
use Rattle.kpn_standard.specs.Arithmetic.{add_answer, scale_answer}
use Rattle.kpn_standard.specs.Merging.{weave_answer, merge_answer}
use Rattle.kpn_standard.specs.Flags.{divides_answer, switch_answer, select_answer}
use Rattle.kpn_standard.specs.Table.{numbered}

abbrev pub answer_of : Kind → List ℕ → List ℕ → Token → Answer
answer_of Count = count_answer
answer_of Sink = sink_answer
answer_of Take = take_answer
answer_of Copy = copy_answer
answer_of Prefix = prefix_answer
answer_of Add = add_answer
answer_of Scale = scale_answer
answer_of Weave = weave_answer
answer_of Merge = merge_answer
answer_of Divides = divides_answer
answer_of Switch = switch_answer
answer_of Select = select_answer

-- what a process of this kind answers; one of no kind stops
abbrev pub answer_of_found : Option Kind → List ℕ → List ℕ → Token → Answer
answer_of_found found args local t = option_map_or (λ kind. answer_of kind args local t) found (stays local)

-- a card of an unknown number stops
abbrev pub answer_by_number : ℕ → List ℕ → List ℕ → Token → Answer
answer_by_number number args local t = answer_of_found (numbered number) args local t

-- what a process of the card answers
abbrev pub answer_by_card : Card → List ℕ → Option Token → Answer
answer_by_card card local last = answer_by_number card.kind card.args local (got last)

abbrev pub standard : Family
standard = record { start = λ card. 0 ∷ 0 ∷ 0 ∷ 0 ∷ []; answer = λ card local last. answer_by_card card local last }
