-- Each fact is a field of what the report at an end says.
use Rattle.std.proofs.lemmas.Result.{IfOk-weaker}
use Rattle.kpn_run.proofs.reporting.report.Goals as goal

pub returns-clause-end : goal.returns-clause-end
returns-clause-end g c = IfOk-weaker c.report_at.result _ _ (λ r is. is.end_is) (rw (c.chronicle.ensures, c.deref.ensures.0, c.end.ensures.end) at c.report_at.ensures)

pub returns-clause-own : goal.returns-clause-own
returns-clause-own g c = IfOk-weaker c.report_at.result _ _ (λ r is. is.own) (rw (c.chronicle.ensures, c.deref.ensures.0, c.end.ensures.end) at c.report_at.ensures)

pub returns-clause-every : goal.returns-clause-every
returns-clause-every g c = IfOk-weaker c.report_at.result _ _ (λ r is. is.every) (rw (c.chronicle.ensures, c.deref.ensures.0, c.end.ensures.end) at c.report_at.ensures)

pub returns-clause-any_capacities : goal.returns-clause-any_capacities
returns-clause-any_capacities g c = IfOk-weaker c.report_at.result _ _ (λ r is. is.any_capacities) (rw (c.chronicle.ensures, c.deref.ensures.0, c.end.ensures.end) at c.report_at.ensures)

pub returns-clause-streams : goal.returns-clause-streams
returns-clause-streams g c = IfOk-weaker c.report_at.result _ _ (λ r is. is.streams) (rw (c.chronicle.ensures, c.deref.ensures.0, c.end.ensures.end) at c.report_at.ensures)
