-- The picture is that of the run's report, and the report is the run's own and that of each run.
use Rattle.std.proofs.Common.{sym, ◌∙◌}
use Rattle.kpn_model.specs.Network.{family_of}
use Rattle.kpn_run.proofs.RunReports.{own_report, every_runs, is_final}
use Rattle.kpn_execute.proofs.Telling.{justified_by}
use Rattle.hox_draw.proofs.Pictures.{own_picture, every_picture}
use Rattle.hox_draw.proofs.running.picture_of_run.Goals as goal

pub returns : goal.returns
returns g c =
    let kinds = family_of g.K.Kinds.start g.K.Kinds.answer_of in
    let title = g.K.Titled.title in
    let direction = c.args.style.now.direction in
    let titles = c.args.style.now.titles.now in
    let s = c.args.chronicle.now in
    let cause = c.in-Some.end in
    let detail = c.in_ok-report.report.detail in
    let faithful = c.in-Some.ensures.faithful in
    let ended = sym c.in-Some.ensures.end in
    let own =
    own_report kinds g.K.Kinds.admits s cause c.in_ok-places.places.items detail faithful ended
    (rw (c.net-net.ensures, c.standings.ensures) at c.in_ok-places.ensures)
    (rw (c.net-net.ensures, c.history.ensures) at (c.in_ok-report.ensures.detail kinds s.state)) in
    let justified = justified_by kinds g.K.Kinds.admits s cause faithful ended in
    let every = every_runs kinds s.network s.history s.state cause detail own (is_final kinds g.K.Kinds.admits s cause faithful ended) c.determinacy_of.ensures.one_digest in
    let drawn = rw (c.net-net.ensures, c.in_ok-report.ensures.end) at c.in_ok-picture.ensures in
    record {
      history = s.history;
      state = s.state;
      cause = cause;
      run = faithful.run;
      justified = justified;
      text_is = drawn ∙ own_picture kinds title direction titles s.network cause s.history s.state detail own;
      settled = λ has F N b final. drawn ∙ every_picture kinds title direction titles s.network cause detail every has F N b final;
    }
