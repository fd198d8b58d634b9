-- A run that ended is reported; so is refused memory, and an answer that was refused.
use Rattle.std.proofs.Common.{inl, inr, refl, ap, ◌∙◌, Err}
use Rattle.kpn_machine.specs.MachineView.{MachineView}
use Rattle.kpn_execute.proofs.Telling.{not_refused}
use Rattle.kpn_execute.proofs.Written.{written, written_of, no_memory}
use Rattle.kpn_execute.proofs.execution.tell_by_workers.Goals as goal

pub returns-in-Ok : goal.returns-in-Ok
returns-in-Ok g c =
    let same = ap (λ (s : MachineView). s.network) (c.chronicle-chronicle.ensures ∙ c.deref.ensures.0) ∙ c.in-Ok.ensures.run.finish.network in
    written_of (λ s t told. inr (rw same at told)) c.say_told.ensures

pub returns-in-Err-Memory : goal.returns-in-Err-Memory
returns-in-Err-Memory g c = written c.say_refused.ensures (inr (inl no_memory))

pub returns-in-Err-Lost : goal.returns-in-Err-Lost
returns-in-Err-Lost g c = written c.say_lost.ensures (inl (record { several = c.requires.workers.0; status_is = refl; text_is = refl }))

pub unreachable-requires-in-Err-Open : goal.unreachable-requires-in-Err-Open
unreachable-requires-in-Err-Open g c =
    let misfit = rw (c.in-Err-Open.is ∙ ap (λ x. Err x) c.in-Err-Open.field-0-is) at c.run_with_keeper.ensures.failed in
    not_refused _ _ _ c.requires.cards misfit.2 misfit.3
