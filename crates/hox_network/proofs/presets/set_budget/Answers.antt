-- Found without an answer too; with it a wrong body is refused at once.
use Rattle.std.proofs.Common.{rules}
use Rattle.hox_network.proofs.presets.set_budget.Goals as goal

pub returns-then-budget-lt1-clause-no : goal.returns-then-budget-lt1-clause-no
returns-then-budget-lt1-clause-no c = search rules
