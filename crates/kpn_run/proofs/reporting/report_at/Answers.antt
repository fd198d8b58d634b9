-- The report is that of the history, and so of every run that is over.
use Rattle.kpn_model.specs.Network.{family_of}
use Rattle.kpn_report.specs.Reported.{IsReport}
use Rattle.kpn_run.proofs.RunReports.{own_report, every_runs, outcome, least_streams, is_final}
use Rattle.kpn_run.proofs.reporting.report_at.Goals as goal

pub returns : goal.returns
returns g c =
    let kinds = (family_of g.K.Kinds.start g.K.Kinds.answer_of) in
    let s = c.args.chronicle.now in
    let detail = c.in_ok-report.report.detail in
    let own : IsReport kinds s.network c.args.end s.history s.state detail = own_report kinds g.K.Kinds.admits s c.args.end c.in_ok-places.places.items detail c.end.ensures.faithful c.requires
    (rw (c.net-net.ensures, c.standings.ensures) at c.in_ok-places.ensures)
    (rw (c.net-net.ensures, c.history.ensures) at (c.in_ok-report.ensures.detail kinds s.state)) in
    let final = is_final kinds g.K.Kinds.admits s c.args.end c.end.ensures.faithful c.requires in
    let laws = c.least_solution_of.ensures in
    record {
      end_is = c.in_ok-report.ensures.end;
      own = own;
      every = every_runs kinds s.network s.history s.state c.args.end detail own final c.determinacy_of.ensures.one_digest;
      any_capacities = outcome kinds s.network s.history s.state c.args.end detail own final c.determinacy_of.ensures.one_outcome;
      streams = least_streams kinds s.network s.history s.state c.args.end detail own final laws.below_digest laws.digest_is_least;
    }
