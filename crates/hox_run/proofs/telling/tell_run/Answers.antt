-- What is told of the run's history.
use Rattle.std.proofs.Common.{◌≡◌, ◌++◌, true, None, string_bytes, sym}
use Rattle.kpn_model.specs.Network.{family_of}
use Rattle.kpn_model.specs.texts.Reports.{has_report}
use Rattle.kpn_dry.specs.Told.{is_told_dry}
use Rattle.kpn_report.specs.Text.{report_text}
use Rattle.kpn_verdict.specs.VerdictText.{verdict_line}
use Rattle.hox_run.specs.Cuts.{after_verdict, before_verdict, left_at}
use Rattle.hox_run.specs.Judging.{IsJudged, active_part}
use Rattle.hox_run.specs.Telling.{places_in}
use Rattle.hox_run.proofs.ToldRuns.{moved, told_so}
use Rattle.hox_run.proofs.telling.tell_run.Goals as goal

pub returns : goal.returns
returns g c =
    let kinds = (family_of g.K.Kinds.start g.K.Kinds.answer_of) in
    let s = c.args.chronicle.now in
    let faithful = c.in-Some.ensures.faithful in
    let cause = c.in-Some.end in
    let places = c.in_ok-places.places.items in
    let verdict = c.in_ok-judged.judged.verdict in
    let report = c.in_ok-judged.judged.report in
    let net_is = c.net-net.ensures in
    let history_is = c.requires.entries in
    let places_are = c.as_slice.ensures.value in
    let standings_are = c.standings-standings.ensures in
    let show = c.args.wanted.now.show.now in
    let outputs = c.args.wanted.now.outputs.now in
    let judged = moved (λ net E ps. IsJudged net (is_told_dry net s.standings) show outputs ps cause verdict) s.network _ s.history _ places _ net_is history_is places_are (rw standings_are at c.in_ok-judged.ensures.verdict) in
    let told = moved (λ net E ps. (has_report cause ≡ true → ps ≡ places_in kinds net s.state) → string_bytes report ≡ report_text kinds net cause E s.state None ++ before_verdict net cause E show ++ verdict_line net ps verdict ++ active_part net (is_told_dry net s.standings) cause verdict ++ after_verdict net cause E (left_at s.standings ps) show)
    s.network _ s.history _ places _ net_is history_is places_are (rw standings_are at (c.in_ok-judged.ensures.report kinds s.state)) in
    told_so kinds g.K.Kinds.admits s cause places verdict c.args.wanted.now.show.now c.args.wanted.now.outputs.now _ faithful
    (c.least_room_of.ensures.each_run _ _ _ faithful.run) (c.least_solution_of.ensures.each_run _ _ _ faithful.run)
    c.determinacy_of.ensures.all_comparable c.determinacy_of.ensures.one_digest c.dryness_of.ensures.whole (sym c.in-Some.ensures.end)
    (rw (c.net-net.ensures, c.standings-standings.ensures) at c.in_ok-places.ensures)
    judged
    (rw c.as_slice-2.ensures.value at c.status_with.ensures)
    told
    (rw (c.net-net.ensures, c.requires.entries) at c.in_ok-outputs.ensures)
    (rw (c.net-net.ensures, c.requires.entries, c.standings-standings.ensures, c.as_slice.ensures.value) at c.in_ok-notes_of.ensures)
