-- The watcher that is made under the lock is of this board, and has seen a run.
use Rattle.std.proofs.Common.{refl}
use Rattle.std.proofs.lemmas.Result.{IfOk-weaker}
use Rattle.kpn_monitor.proofs.monitor.Monitor.watch.Goals as goal

pub returns-clause-board : goal.returns-clause-board
returns-clause-board g c = IfOk-weaker c.watch.result _ _ (λ w is. rw is refl) c.watch.ensures.seen

pub returns-clause-run : goal.returns-clause-run
returns-clause-run g c = IfOk-weaker c.watch.result _ _ (λ w run. (run.0, run.1)) c.watch.ensures.run
