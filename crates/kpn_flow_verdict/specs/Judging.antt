-- The verdict on a flow that ended.
use Rattle.std.specs.Prelude.{◌≡◌, ◌⊎◌, ◌<◌, ◌++◌, ℕ, true, List, [], length}
use Rattle.kpn_model.specs.declared.history.End.{End}
use Rattle.kpn_model.specs.declared.history.End.TheVariants.{Ceiling}
use Rattle.kpn_model.specs.declared.history.Place.{Place}
use Rattle.kpn_model.specs.declared.verdict.Verdict.{Verdict}
use Rattle.kpn_model.specs.declared.verdict.Verdict.TheVariants.{RanDry, Full}
use Rattle.kpn_model.specs.Network.{Family, channel_of}
use Rattle.kpn_model.specs.Semantics.{State}
use Rattle.kpn_model.specs.History.{each_process, place_of, put_on}
use Rattle.kpn_model.specs.Verdicts.{IsVerdict}
use Rattle.kpn_state.specs.Standings.{standing, parked_answer}
use Rattle.kpn_verdict.specs.VerdictText.{verdict_line}
use Rattle.kpn_dry.specs.ActiveLine.{active_line}
use Rattle.kpn_dry.specs.Told.{is_told_dry}
use Rattle.kpn_flow.specs.Events.{Event, entries_of}
use Rattle.kpn_flow.specs.Flows.{FlowView, is_among}
use Rattle.kpn_flow.specs.Pauses.{NoneCanHelp}
use Rattle.kpn_flow_verdict.specs.FlowDry.{GoesOn}

-- channel c is an output
abbrev pub IsOutput : FlowView → ℕ → Type 0
IsOutput s c = (c < length s.network.channels) × (is_among s.outputs c ≡ true)

-- there is an output, and the writer of each is dry, as the standings tell
pub record HasAll (s : FlowView) : Type 0 where
  pub output : ℕ
  pub is_output : IsOutput s output
  pub complete : (c : ℕ) → IsOutput s c → is_told_dry s.network s.standings (channel_of s.network c).writer ≡ true

abbrev pub places_in : FlowView → List Place
places_in s = each_process s.network (λ p. place_of s.network p (parked_answer (standing s.standings p)))

-- at the ceiling, ran dry exactly if each output has all
abbrev pub IsJudged : FlowView → End → Verdict → Type 0
IsJudged s Ceiling verdict = (HasAll s × (verdict ≡ RanDry)) ⊎ ((HasAll s → ⊥) × (verdict ≡ Full))
IsJudged s end verdict = IsVerdict s.network (places_in s) end verdict

-- the line with the processes that could go on, after the verdict `ran dry` at the ceiling
abbrev pub active_part : FlowView → End → Verdict → List ℕ
active_part s Ceiling RanDry = active_line s.network (is_told_dry s.network s.standings)
active_part s end verdict = []

abbrev pub judged_text : FlowView → End → Verdict → List ℕ
judged_text s end verdict = verdict_line s.network (places_in s) verdict ++ active_part s end verdict

-- if the outside can't help, nothing more comes out, whatever is fed and drained later
abbrev pub AreWhole : Family → FlowView → Type 0
AreWhole kinds s =
    NoneCanHelp kinds s.network s.unended s.outputs s.state → (c : ℕ) → is_among s.outputs c ≡ true
    → (xs : List Event) (N : State) → GoesOn kinds s.network s.unended s.outputs s.state xs N
    → put_on (entries_of xs) c ≡ []

-- so it is if the verdict at the ceiling is `ran dry`
abbrev pub AreWholeIfDry : Family → FlowView → End → Verdict → Type 0
AreWholeIfDry kinds s end verdict = verdict ≡ RanDry → end ≡ Ceiling → AreWhole kinds s
