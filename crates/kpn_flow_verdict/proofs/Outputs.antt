-- The outputs that were looked at, and what a flow without more to give has.
use Rattle.std.proofs.Common.{◌≡◌, ◌<◌, ◌++◌, List, inl, inr, ℕ, Bool, true, false, sym, ap, ◌∙◌, subst}
use Rattle.kpn_model.specs.Network.{Family, Network, channel_of}
use Rattle.kpn_model.specs.declared.history.End.{End}
use Rattle.kpn_model.specs.declared.history.End.TheVariants.{Ceiling}
use Rattle.kpn_model.specs.declared.history.Place.{Place}
use Rattle.kpn_model.specs.declared.verdict.Verdict.{Verdict}
use Rattle.kpn_model.specs.declared.verdict.Verdict.TheVariants.{RanDry, Full}
use Rattle.kpn_verdict.specs.VerdictText.{verdict_line}
use Rattle.kpn_dry.specs.Told.{TellWaits, is_told_dry}
use Rattle.kpn_dry.proofs.Told.{dry_if_told}
use Rattle.kpn_flow.specs.Flows.{AreEnds, FlowView, is_among}
use Rattle.kpn_flow_verdict.specs.FlowDry.{CompleteStaysInFlow}
use Rattle.kpn_flow_verdict.specs.Judging.{AreWhole, IsJudged, IsOutput, active_part, judged_text, places_in}

abbrev pub Found : FlowView → ℕ → Bool → Type 0
Found s n true = (c : ℕ) × (c < n) × IsOutput s c
Found s n false = (c : ℕ) → c < n → is_among s.outputs c ≡ false

-- of the first n channels, `has` tells whether one is an output, and the writer of each output is dry
pub record AreCompleteUpto (s : FlowView) (n : ℕ) (has : Bool) : Type 0 where
  pub found : Found s n has
  pub complete : (c : ℕ) → c < n → is_among s.outputs c ≡ true → is_told_dry s.network s.standings (channel_of s.network c).writer ≡ true

-- the line of the verdict on these places, and what follows it
pub text_of :
    (s : FlowView) (net : Network) (places : List Place) (verdict : Verdict) (end : End) (line text : List ℕ) → net ≡ s.network → places ≡ places_in s → line ≡ verdict_line net places verdict
    → text ≡ line ++ active_part s end verdict → text ≡ judged_text s end verdict
text_of s net places verdict end line text same there is follows =
    follows ∙ ap (λ (t : List ℕ). t ++ active_part s end verdict) (is ∙ ap (λ n. verdict_line n places verdict) same ∙ ap (λ l. verdict_line s.network l verdict) there)

-- a flow that ran dry at the ceiling gives no more
pub whole_if_dry :
    (s : FlowView) (kinds : Family) → CompleteStaysInFlow kinds → TellWaits kinds s.network s.state s.standings → AreEnds kinds s.network s.inputs s.outputs
    → (end : End) (verdict : Verdict) → IsJudged s end verdict → verdict ≡ RanDry → end ≡ Ceiling → AreWhole kinds s
whole_if_dry s kinds stays tell ends end verdict judged dry at = by_judged (subst (λ x. IsJudged s x verdict) at judged)
  where
    differs : RanDry ≡ Full → ⊥
    differs same = cc

    by_judged : IsJudged s Ceiling verdict → AreWhole kinds s
    by_judged (inl all) =
        λ none c output xs N on.
        stays s.network s.unended s.outputs s.state N xs c none on (dry_if_told kinds s.network s.state s.standings tell (channel_of s.network c).writer (all.0.complete c ((ends.only_drained c output).0, output)))
    by_judged (inr other) = absurd (differs (sym dry ∙ other.1))
