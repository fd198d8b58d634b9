-- Found without an answer too; with it a wrong body is refused at once.
use Rattle.std.proofs.Common.{rules}
use Rattle.kpn_flow.proofs.stretch.awaited.Goals as goal

pub returns-then-any_starves-clause-some : goal.returns-then-any_starves-clause-some
returns-then-any_starves-clause-some g c = search rules

pub returns-then-any_holds_up-clause-some : goal.returns-then-any_holds_up-clause-some
returns-then-any_holds_up-clause-some g c = search rules

pub returns-clause-not_fed : goal.returns-clause-not_fed
returns-clause-not_fed g c = search rules

pub returns-clause-not_drained : goal.returns-clause-not_drained
returns-clause-not_drained g c = search rules
