-- What is published is the history that the lock keeps.
use Rattle.std.proofs.lemmas.Grind.{common_steps}
use Rattle.std.proofs.Common.{subst, arith}
use Rattle.kpn_model.specs.Network.{family_of}
use Rattle.std.specs.Prelude.{IfOk}
use Rattle.std.proofs.lemmas.Result.{IfOk-weaker}
use Rattle.kpn_model.specs.Semantics.{State, IsRun}
use Rattle.kpn_model.specs.Endings.{MayStand}
use Rattle.kpn_monitor.specs.Views.{UnderLock}
use Rattle.kpn_monitor.proofs.Showing.{shown_run}
use Rattle.kpn_monitor.proofs.guarded.Guarded.watch.Goals as goal

pub returns-clause-run : goal.returns-clause-run
returns-clause-run g c =
    let kinds = (family_of g.B.Kinds.Kinds.start g.B.Kinds.Kinds.answer_of) in
    let net = g.E.EntryLedger.net in
    let i = c.self.inside in
    subst (λ (h : UnderLock). IfOk c.watch.result (λ w. (M : State) × IsRun kinds net w.entries M × MayStand kinds net w.entries M h.machine.end)) c.self.view_is
    (IfOk-weaker c.watch.result _ _ (λ w is. shown_run kinds g.B.Kinds.Kinds.admits net i.machine g.E.EntryLedger.board i.publisher w c.self.invariant.0.network c.assure_faithful.ensures.faithful c.self.invariant.1 is) c.watch.ensures.seen)

pub invariant_of-self : goal.invariant_of-self
invariant_of-self g c = grind (arith, common_steps)
