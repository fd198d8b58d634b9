-- Each fact is a field of what the run with a keeper promises.
use Rattle.std.proofs.lemmas.Result.{IfOk-weaker}
use Rattle.kpn_run.proofs.running.run.Goals as goal

pub returns-clause-finish : goal.returns-clause-finish
returns-clause-finish g c = IfOk-weaker c.run_with_keeper.result _ _ (λ f run. run.finish) c.run_with_keeper.ensures.run

pub returns-clause-within : goal.returns-clause-within
returns-clause-within g c = IfOk-weaker c.run_with_keeper.result _ _ (λ f run. run.laws.within) c.run_with_keeper.ensures.run

pub returns-clause-budget : goal.returns-clause-budget
returns-clause-budget g c = IfOk-weaker c.run_with_keeper.result _ _ (λ f run. run.budget) c.run_with_keeper.ensures.run

pub returns-clause-comparable : goal.returns-clause-comparable
returns-clause-comparable g c = IfOk-weaker c.run_with_keeper.result _ _ (λ f run. run.laws.comparable) c.run_with_keeper.ensures.run

pub returns-clause-room : goal.returns-clause-room
returns-clause-room g c = IfOk-weaker c.run_with_keeper.result _ _ (λ f run. run.laws.room) c.run_with_keeper.ensures.run

pub returns-clause-streams : goal.returns-clause-streams
returns-clause-streams g c = IfOk-weaker c.run_with_keeper.result _ _ (λ f run. run.laws.streams) c.run_with_keeper.ensures.run

pub returns-clause-cards : goal.returns-clause-cards
returns-clause-cards g c = c.run_with_keeper.ensures.cards

pub returns-clause-many : goal.returns-clause-many
returns-clause-many g c = c.run_with_keeper.ensures.many

pub returns-clause-failed : goal.returns-clause-failed
returns-clause-failed g c = c.run_with_keeper.ensures.failed
