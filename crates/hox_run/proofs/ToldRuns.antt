-- What is told of a run that is over is told of each.
use Rattle.std.proofs.Common.{◌≡◌, ℕ, Bool, true, false, if◌then◌else◌, List, [], ◌++◌, map, get_or, Some, None, codes, slice_index_or, refl, sym, ap, ◌∙◌, subst, string_bytes}
use Rattle.std.proofs.Math.Path.{fun_ext}
use Rattle.std.specs.List.{flat_map}
use Rattle.kpn_model.specs.declared.token.Token.{Token}
use Rattle.kpn_model.specs.declared.history.Entry.{Entry}
use Rattle.kpn_model.specs.declared.history.End.{End}
use Rattle.kpn_model.specs.declared.history.End.TheVariants.{Terminated, Deadlock, Ceiling, Budget, Memory}
use Rattle.kpn_model.specs.declared.history.Place.{Place}
use Rattle.kpn_model.specs.declared.verdict.Verdict.{Verdict}
use Rattle.kpn_model.specs.Network.{Family, Network, Admits}
use Rattle.kpn_model.specs.Semantics.{State, start}
use Rattle.kpn_model.specs.Endings.{IsOver, IsFinal}
use Rattle.kpn_model.specs.texts.Reports.{has_report}
use Rattle.kpn_model.specs.History.{Digest, digest, each_channel, each_process, place_of, stream}
use Rattle.kpn_model.specs.Determinacy.{AllPrefixComparable, OneDigest}
use Rattle.kpn_state.specs.Standings.{standing, parked_answer}
use Rattle.kpn_machine.specs.MachineView.{MachineView, IsFaithful}
use Rattle.kpn_laws.specs.RoomOfRun.{TakesLeastRoom}
use Rattle.kpn_laws.specs.StreamsOfRun.{ApproachLeastSolution}
use Rattle.kpn_run.proofs.RunReports.{at_rest, is_final}
use Rattle.kpn_execute.proofs.Telling.{justified_by}
use Rattle.kpn_laws.proofs.Causes.{over_quiet}
use Rattle.kpn_laws.proofs.Kept.{fresh_start}
use Rattle.kpn_laws.proofs.Standstill.{same_stand}
use Rattle.kpn_dry.specs.Dry.{CompleteIsWhole}
use Rattle.kpn_dry.specs.Told.{is_told_dry}
use Rattle.kpn_model.specs.declared.verdict.Verdict.TheVariants.{RanDry, Cut, Full}
use Rattle.kpn_laws.proofs.ReportedStreams.{each_stream}
use Rattle.kpn_report.specs.Text.{report_text}
use Rattle.kpn_report.proofs.OverTexts.{one_text}
use Rattle.kpn_verdict.specs.VerdictText.{verdict_line}
use Rattle.kpn_tokens.specs.declared.layouts.Decimals.{Decimals}
use Rattle.kpn_tokens.specs.declared.layouts.Layout.{Layout}
use Rattle.hox_run.specs.declared.files.StreamFile.{StreamFile}
use Rattle.hox_run.specs.declared.shown.ChannelAs.{ChannelAs}
use Rattle.hox_run.specs.Judging.{IsJudged, active_part, has_all}
use Rattle.hox_run.specs.Notes.{AreNotes}
use Rattle.hox_run.specs.declared.telling.Told.{Told}
use Rattle.hox_run.specs.Cuts.{after_verdict, before_verdict, left_at, tokens_line}
use Rattle.hox_run.proofs.Dried.{dry_there, early_whole, known_dry}
use Rattle.hox_run.proofs.Cutting.{follows_from, leaves_of, nothing_after, nothing_follows}
use Rattle.hox_run.specs.Telling.{TellsOf, TellsRun, fitted, places_in, status_with, stream_file}

-- what is said of a network, a history and places is said of equal ones
pub moved : (P : Network → List Entry → List Place → Type 0) (net m : Network) (E F : List Entry) (places others : List Place) → m ≡ net → F ≡ E → others ≡ places → P m F others → P net E places
moved P net m E F places others same_net same_history same_places h = subst (λ x. P x E places) same_net (subst (λ x. P m x places) same_history (subst (λ x. P m F x) same_places h))

-- a verdict that does not depend on the places
fixed : (net : Network) (places others : List Place) (cause : End) (verdict other : Verdict) (test : Bool) → verdict ≡ (if test then RanDry else other)
    → verdict_line net places RanDry ≡ verdict_line net others RanDry → verdict_line net places other ≡ verdict_line net others other → verdict_line net places verdict ≡ verdict_line net others verdict
fixed net places others cause verdict other true judged dry not_dry = rw judged dry
fixed net places others cause verdict other false judged dry not_dry = rw judged not_dry

-- if the run came to no end of its own, where it left the processes says nothing of the verdict, nor of its line
module _ (net : Network) (dry : ℕ → Bool) (show : List (ChannelAs Decimals)) (outputs : List (ChannelAs Layout)) (places others : List Place) where
  pub judged_anyhow : (cause : End) (verdict : Verdict) → (has_report cause ≡ true → places ≡ others)
      → IsJudged net dry show outputs places cause verdict → IsJudged net dry show outputs others cause verdict × (verdict_line net places verdict ≡ verdict_line net others verdict)
  judged_anyhow Budget verdict same judged = (judged, fixed net places others Budget verdict Cut (has_all net dry show outputs) judged refl refl)
  judged_anyhow Ceiling verdict same judged = (judged, fixed net places others Ceiling verdict Full (has_all net dry show outputs) judged refl refl)
  judged_anyhow Memory verdict same judged = (judged, rw judged refl)
  judged_anyhow Terminated verdict same judged = (judged, rw judged refl)
  judged_anyhow Deadlock verdict same judged =
      subst (λ l. IsJudged net dry show outputs l Deadlock verdict × (verdict_line net places verdict ≡ verdict_line net l verdict)) (same refl) (judged, refl)

module _ (kinds : Family) (net : Network) where
  -- the streams that are shown of a run that is over, from its digest
  abbrev shown_of : List (ChannelAs Decimals) → Digest → List ℕ
  shown_of show d = flat_map (λ c. tokens_line net (codes "stream ") (slice_index_or d.streams c.channel []) c) show

  over_shown : (show : List (ChannelAs Decimals)) (cause : End) (E : List Entry) (M : State) → IsOver kinds net M cause → before_verdict net cause E show ≡ shown_of show (digest kinds net cause E M)
  over_shown show Terminated E M over = refl
  over_shown show Deadlock E M over = refl
  over_shown show Ceiling E M over = refl
  over_shown show Budget E M over = elim over [ ]
  over_shown show Memory E M over = elim over [ ]

  module _ (show : List (ChannelAs Decimals)) (outputs : List (ChannelAs Layout)) (told : Told) (one : OneDigest kinds) where
    pub told_of_each : (cause b : End) (E F : List Entry) (M N : State) (verdict : Verdict) → IsFinal kinds net E M cause → IsFinal kinds net F N b
        → TellsOf kinds net show outputs told cause E M verdict → TellsOf kinds net show outputs told b F N verdict
    told_of_each cause b E F M N verdict e f tells =
        let same : digest kinds net cause E M ≡ digest kinds net b F N = one net E F M N cause b e f in
        let streams : each_channel net (λ c. stream net E c) ≡ each_channel net (λ c. stream net F c) = ap (λ (d : Digest). d.streams) same in
        let places : places_in kinds net M ≡ places_in kinds net N = ap (λ (d : Digest). d.places) same in
        let texts : report_text kinds net cause E M None ≡ report_text kinds net b F N None = one_text kinds net one E F M N cause b None e f in
        let shown : before_verdict net cause E show ≡ before_verdict net b F show = over_shown show cause E M e.over ∙ ap (shown_of show) same ∙ sym (over_shown show b F N f.over) in
        let at : (c : ℕ) → stream net E c ≡ stream net F c = λ c. each_stream kinds net (start kinds net) E M e.run c ∙ ap (λ (ss : List (List Token)). get_or ss c []) streams ∙ sym (each_stream kinds net (start kinds net) F N f.run c) in
        let ends : cause ≡ b = ap (λ (d : Digest). d.cause) same in
        let S = start kinds net in
        let state : M ≡ N = same_stand kinds net S (fresh_start kinds net) E F M N e.run (over_quiet kinds net M cause e.over) f.run (over_quiet kinds net N b f.over) (ap (λ (d : Digest). d.growths) same) in
        let outs : stream_file net E ≡ stream_file net F = fun_ext (λ c. ap (fitted c.written) (at c.channel)) in
        record {
          dry = tells.dry;
          are_dry = dry_there kinds net cause b M N tells.dry ends state tells.are_dry;
          judged = subst (λ (d : Digest). IsJudged net tells.dry show outputs d.places d.cause verdict) same tells.judged;
          status_is = tells.status_is;
          after = tells.after;
          follows = nothing_follows kinds net show F N b tells.after f.over (nothing_after kinds net show E M cause tells.after e.over tells.follows);
          report_is = tells.report_is ∙ ap (λ t. t ++ before_verdict net cause E show ++ verdict_line net (places_in kinds net M) verdict ++ active_part net tells.dry cause verdict ++ tells.after) texts
              ∙ ap (λ t. report_text kinds net b F N None ++ t ++ verdict_line net (places_in kinds net M) verdict ++ active_part net tells.dry cause verdict ++ tells.after) shown
              ∙ ap (λ (p : List Place). report_text kinds net b F N None ++ before_verdict net b F show ++ verdict_line net p verdict ++ active_part net tells.dry cause verdict ++ tells.after) places
              ∙ ap (λ (x : End). report_text kinds net b F N None ++ before_verdict net b F show ++ verdict_line net (places_in kinds net N) verdict ++ active_part net tells.dry x verdict ++ tells.after) ends;
          outputs_are = tells.outputs_are ∙ ap (λ (o : ChannelAs Layout → StreamFile). map o outputs) outs;
        }

-- so is what is told of the run of a machine that has ended
pub told_so :
    (kinds : Family) (admits : Admits) (s : MachineView) (cause : End) (places : List Place) (verdict : Verdict) (show : List (ChannelAs Decimals)) (outputs : List (ChannelAs Layout)) (told : Told)
    → IsFaithful kinds admits s → TakesLeastRoom kinds s.network s.history s.state → ApproachLeastSolution kinds s.network s.history s.state → AllPrefixComparable kinds → OneDigest kinds → CompleteIsWhole kinds
    → s.end ≡ Some cause → places ≡ each_process s.network (λ p. place_of s.network p (parked_answer (standing s.standings p)))
    → IsJudged s.network (is_told_dry s.network s.standings) show outputs places cause verdict → told.status ≡ status_with verdict told.outputs.items
    → ((has_report cause ≡ true → places ≡ places_in kinds s.network s.state) → string_bytes told.report ≡ report_text kinds s.network cause s.history s.state None ++ before_verdict s.network cause s.history show ++ verdict_line s.network places verdict ++ active_part s.network (is_told_dry s.network s.standings) cause verdict ++ after_verdict s.network cause s.history (left_at s.standings places) show)
    → told.outputs.items ≡ map (stream_file s.network s.history) outputs → AreNotes s.network verdict s.history (left_at s.standings places) told.notes → TellsRun kinds s.network show outputs told
told_so kinds admits s cause places verdict show outputs told faithful room streams comparable one whole ended places_are judged status_is report outputs_are notes =
    let net = s.network in
    let here = places_in kinds net s.state in
    let same : has_report cause ≡ true → places ≡ here = λ has. places_are ∙ at_rest kinds admits s cause faithful ended has in
    let dry = is_told_dry net s.standings in
    let both = judged_anyhow net dry show outputs places here cause verdict same judged in
    let left = left_at s.standings places in
    let leaves = leaves_of kinds admits s places faithful places_are in
    let after = after_verdict net cause s.history left show in
    let justified = justified_by kinds admits s cause faithful ended in
    let tells : TellsOf kinds net show outputs told cause s.history s.state verdict = record {
      dry = dry;
      are_dry = known_dry kinds admits s faithful cause ended;
      judged = both.0;
      status_is = status_is;
      after = after;
      follows = follows_from kinds net show cause s.history s.state left leaves;
      report_is = report same ∙ ap (λ (l : List ℕ). report_text kinds net cause s.history s.state None ++ before_verdict net cause s.history show ++ l ++ active_part net dry cause verdict ++ after) both.1;
      outputs_are = outputs_are;
    } in
    record {
      history = s.history;
      state = s.state;
      cause = cause;
      verdict = verdict;
      run = faithful.run;
      justified = justified;
      room = room;
      streams = streams;
      comparable = λ sizes F N run. comparable net sizes s.history F s.state N faithful.run run;
      tells = tells;
      left = left;
      leaves = leaves;
      notes = notes;
      whole = early_whole kinds admits s faithful whole show outputs places cause verdict judged;
      settled = λ has F N b final.
          told_of_each kinds net show outputs told one cause b s.history F s.state N verdict (is_final kinds admits s cause faithful ended has) final tells;
    }
