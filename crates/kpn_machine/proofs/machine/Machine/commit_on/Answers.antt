-- The answer of a process that is out is worked on, and the process goes out again.
use Rattle.std.proofs.lemmas.List.{length-set}
use denote.Param.Send.{sendable}
use Rattle.std.proofs.Common.{◌≡◌, ◌<◌, None, arith, length, refl, sym, ◌∙◌}
use Rattle.std.proofs.lemmas.List.{set-set, set-get_or}
use Rattle.kpn_state.specs.declared.standing.Standing.TheVariants.{Ready, Out, Stopped}
use Rattle.kpn_state.specs.Standings.{standing}
use Rattle.kpn_state.proofs.Placed.{standing_set_same}
use Rattle.kpn_machine.specs.MachineView.{IsOutAt}
use Rattle.kpn_machine.proofs.Listed.{waiting_moved}
use Rattle.kpn_machine.proofs.Sound.{commits_fit, out_within, none_of}
use Rattle.kpn_machine.proofs.Onward.{went_on}
use Rattle.kpn_machine.proofs.machine.Machine.commit_on.Goals as goal

pub overflow_add-self : goal.overflow_add-self
overflow_add-self g c =
    let valid = c.assure_valid.ensures.valid in
    let few = c.self.invariant.0.few in
    let fit = commits_fit c.self.invariant.0 in
    let some = valid.few_processes in
    let small = valid.small_budget in
    omega arith

pub work_on-requires-after_bounds : goal.work_on-requires-after_bounds
work_on-requires-after_bounds g c κs within =
    let out : IsOutAt c.self.inside.net c.self.inside.core.store.state c.self.inside.core.standings c.args.task.now = rw (← c.self.view_is) at c.requires.out in
    let none : c.self.inside.end ≡ None = none_of _ (sym c.is_some.ensures ∙ c.if-is_some.false) in
    let less : length c.self.inside.core.store.history < c.self.inside.net.budget = rw none at c.self.invariant.0.ends in
    record {
      coherent = record { keeps = c.self.invariant.0.keeps; waiting = c.self.invariant.2 };
      process = rw c.process-process.ensures (out_within c.self.invariant.0 c.args.task.now out);
      wants = rw (c.process-process.ensures, c.requires.answer, out.live, out.card) refl;
      busy = rw (c.process-process.ensures, out.out) refl;
      room = omega (arith, less, c.self.invariant.0.limit_is);
    }

pub invariant_of-self-2 : goal.invariant_of-self-2
invariant_of-self-2 g c =
    let out : IsOutAt c.self.inside.net c.self.inside.core.store.state c.self.inside.core.standings c.args.task.now = rw (← c.self.view_is) at c.requires.out in
    let none = none_of _ (sym c.is_some.ensures ∙ c.if-is_some.false) in
    let did = rw (c.process-process.ensures, c.requires.answer) at c.in_ok-outcome.ensures in
    let w = went_on c.self.invariant.0 c.args.task.now out none c.in_ok-outcome.outcome _ _ _ _ did.stays did.many did.works did.coherent.keeps _ _ (rw c.process-process.ensures at (sym c.status.ensures ∙ c.in-Live.is)) in
    let stand : standing c.work_on.new.core.standings c.args.task.now.process ≡ Out = did.stays ∙ out.out in (
      w.sound,
      c.self.invariant.1,
      rw (set-set, ← stand, set-get_or c.work_on.new.core.standings c.args.task.now.process Stopped) at (waiting_moved did.coherent.waiting c.args.task.now.process Out (rw (standing_set_same c.work_on.new.core.standings c.args.task.now.process Ready (omega (arith, out_within c.self.invariant.0 c.args.task.now out, did.many))) refl) refl),
    )

pub returns-clause-goes : goal.returns-clause-goes
returns-clause-goes g c =
    let out : IsOutAt c.self.inside.net c.self.inside.core.store.state c.self.inside.core.standings c.args.task.now = rw (← c.self.view_is) at c.requires.out in
    let none = none_of _ (sym c.is_some.ensures ∙ c.if-is_some.false) in
    let did = rw (c.process-process.ensures, c.requires.answer) at c.in_ok-outcome.ensures in
    let w = went_on c.self.invariant.0 c.args.task.now out none c.in_ok-outcome.outcome _ _ _ _ did.stays did.many did.works did.coherent.keeps _ _ (rw c.process-process.ensures at (sym c.status.ensures ∙ c.in-Live.is)) in
    rw (← c.self.view_is, c.renew.ensures) w.goes

pub unreachable-requires : goal.unreachable-requires
unreachable-requires g c =
    let out : IsOutAt c.self.inside.net c.self.inside.core.store.state c.self.inside.core.standings c.args.task.now = rw (← c.self.view_is) at c.requires.out in
    let did = rw c.process-process.ensures at c.in_ok-outcome.ensures in
    let here = standing_set_same c.work_on.new.core.standings c.args.task.now.process Ready (omega (arith, out_within c.self.invariant.0 c.args.task.now out, did.many)) in
    let done = did.coherent.keeps.done c.args.task.now.process (rw c.process-process.ensures at (sym c.status.ensures ∙ c.in_default.is)) in
    cc

pub assure_valid-requires : goal.assure_valid-requires
assure_valid-requires g c = search sendable

pub process-process-requires : goal.process-process-requires
process-process-requires g c = search sendable

pub returns-in_err-outcome-clause-cannot : goal.returns-in_err-outcome-clause-cannot
returns-in_err-outcome-clause-cannot g c = rw (c.from_residual.ensures, ← c.self.view_is) (λ _. rw c.process-process.ensures at c.in_err-outcome.ensures.cannot)

pub status-requires : goal.status-requires
status-requires g c = let out : IsOutAt c.self.inside.net c.self.inside.core.store.state c.self.inside.core.standings c.args.task.now = rw (← c.self.view_is) at c.requires.out in let did = c.in_ok-outcome.ensures in rw c.process-process.ensures (omega (arith, out_within c.self.invariant.0 c.args.task.now out, did.coherent.keeps.one_each, did.coherent.keeps.processes, did.many, length-set c.work_on.new.core.standings c.process-process.result Ready))

pub renew-requires : goal.renew-requires
renew-requires g c = let out : IsOutAt c.self.inside.net c.self.inside.core.store.state c.self.inside.core.standings c.args.task.now = rw (← c.self.view_is) at c.requires.out in let did = c.in_ok-outcome.ensures in (search sendable, (search sendable, (search sendable, rw (← out.card) (rw c.process-process.ensures at (did.coherent.keeps.well_typed.locals _ _ _ (sym c.status.ensures ∙ c.in-Live.is))))))
