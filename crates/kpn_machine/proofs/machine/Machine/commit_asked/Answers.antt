-- A commit keeps the machine's invariant, and does what its clauses say.
use Rattle.std.specs.Option.{option_map}
use denote.Param.Send.{sendable}
use Rattle.std.proofs.Common.{◌≡◌, ◌<◌, [], None, append-nil, length, sym, ◌∙◌, arith, refl}
use Rattle.std.proofs.lemmas.List.{map-set, length-map}
use Rattle.kpn_model.specs.Network.{family_of}
use Rattle.kpn_machine.specs.MachineView.{IsOutAt}
use Rattle.kpn_state.specs.declared.standing.Standing.TheVariants.{Ready}
use Rattle.kpn_state.proofs.Placed.{standing_set_same, standing_set_other}
use Rattle.kpn_machine.proofs.Ends.{commits_end}
use Rattle.kpn_machine.proofs.Listed.{waiting_moved}
use Rattle.kpn_machine.proofs.Sound.{sound_back, worked, commits_fit, out_within, none_of, some_of}
use Rattle.kpn_machine.proofs.machine.Machine.commit_asked.Goals as goal

pub overflow_add-self : goal.overflow_add-self
overflow_add-self g c =
    let valid = c.assure_valid.ensures.valid in
    let few = c.self.invariant.0.few in
    let fit = commits_fit c.self.invariant.0 in
    let some = valid.few_processes in
    let small = valid.small_budget in
    omega arith

pub invariant_of-self : goal.invariant_of-self
invariant_of-self g c =
    let out : IsOutAt c.self.inside.net c.self.inside.core.store.state c.self.inside.core.standings c.args.finished = rw (← c.self.view_is) at c.requires in (
      rw (map-set, c.lay_back.ensures, c.process-process.ensures, c.deref.ensures, c.into_body.ensures) (sound_back c.self.invariant.0 c.args.finished out (some_of _ (sym c.is_some.ensures ∙ c.if-is_some.true))),
      c.self.invariant.1,
      rw (c.lay_back.ensures, c.process-process.ensures, c.deref.ensures) (waiting_moved c.self.invariant.2 c.args.finished.process _ (rw out.out) refl),
    )

pub returns-then-is_some-clause-appends : goal.returns-then-is_some-clause-appends
returns-then-is_some-clause-appends g c = rw (← c.self.view_is) (record { entries = []; history = sym (append-nil _); run = refl; count = refl })

pub returns-then-is_some-clause-back : goal.returns-then-is_some-clause-back
returns-then-is_some-clause-back g c =
    let out : IsOutAt c.self.inside.net c.self.inside.core.store.state c.self.inside.core.standings c.args.finished = rw (← c.self.view_is) at c.requires in
    let here = standing_set_same c.self.inside.core.standings c.args.finished.process Ready (out_within c.self.invariant.0 c.args.finished out) in
    rw (c.lay_back.ensures, c.process-process.ensures, c.deref.ensures, here) (λ e. cc)

pub invariant_of-self-2 : goal.invariant_of-self-2
invariant_of-self-2 g c =
    let out : IsOutAt c.self.inside.net c.self.inside.core.store.state c.self.inside.core.standings c.args.finished = rw (← c.self.view_is) at c.requires in
    let none = none_of _ (sym c.is_some.ensures ∙ c.if-is_some.false) in
    let w = rw (c.process-process.ensures, c.deref.ensures, c.answer-answer.ensures, c.deref-2.ensures) at c.work-outcome.ensures.works in (
      rw (map-set, c.process-process.ensures, c.deref.ensures, c.into_body.ensures) (worked c.self.invariant.0 c.args.finished out none _ _ _ _ _ _ w c.work-outcome.ensures.coherent.keeps).sound,
      c.self.invariant.1,
      c.work-outcome.ensures.coherent.waiting,
    )

pub returns : goal.returns
returns g c =
    let out : IsOutAt c.self.inside.net c.self.inside.core.store.state c.self.inside.core.standings c.args.finished = rw (← c.self.view_is) at c.requires in
    let none = none_of _ (sym c.is_some.ensures ∙ c.if-is_some.false) in
    let works = rw (c.process-process.ensures, c.deref.ensures, c.answer-answer.ensures, c.deref-2.ensures) at c.work-outcome.ensures.works in
    let w = worked c.self.invariant.0 c.args.finished out none _ _ _ _ _ _ works c.work-outcome.ensures.coherent.keeps in
    record {
      commits = rw (← c.self.view_is) w.commits;
      appends = rw (← c.self.view_is) w.appends;
      tells = rw (← c.self.view_is) w.tells;
      ends = λ _. commits_end (family_of g.B.Kinds.Kinds.start g.B.Kinds.Kinds.answer_of) _ c.args.finished _ _ w.commits none;
      back = w.back;
      others = rw (← c.self.view_is) w.others;
    }

pub lay_back-requires : goal.lay_back-requires
lay_back-requires g c =
    let out : IsOutAt c.self.inside.net c.self.inside.core.store.state c.self.inside.core.standings c.args.finished = rw (← c.self.view_is) at c.requires in
    rw (c.process-process.ensures, c.deref.ensures) (out_within c.self.invariant.0 c.args.finished out)

pub returns-then-is_some-clause-commits : goal.returns-then-is_some-clause-commits
returns-then-is_some-clause-commits g c = rw (← c.self.view_is) (some_of _ (sym c.is_some.ensures ∙ c.if-is_some.true), rw (c.lay_back.ensures, c.process-process.ensures, c.deref.ensures) refl)

pub returns-then-is_some-clause-tells : goal.returns-then-is_some-clause-tells
returns-then-is_some-clause-tells g c = rw (← c.self.view_is) (some_of _ (sym c.is_some.ensures ∙ c.if-is_some.true))

pub returns-then-is_some-clause-ends : goal.returns-then-is_some-clause-ends
returns-then-is_some-clause-ends g c = rw (← c.self.view_is) (λ none. absurd (some_of _ (sym c.is_some.ensures ∙ c.if-is_some.true) none))

pub returns-then-is_some-clause-others : goal.returns-then-is_some-clause-others
returns-then-is_some-clause-others g c =
    rw (← c.self.view_is, c.lay_back.ensures, c.process-process.ensures, c.deref.ensures)
    (λ p ne. let same = standing_set_other c.self.inside.core.standings c.args.finished.process p Ready ne in (λ is. sym same ∙ is, λ was. same ∙ was))

pub work-outcome-requires-after_bounds : goal.work-outcome-requires-after_bounds
work-outcome-requires-after_bounds g c κs within =
    let out : IsOutAt c.self.inside.net c.self.inside.core.store.state c.self.inside.core.standings c.args.finished = rw (← c.self.view_is) at c.requires in
    let none : c.self.inside.end ≡ None = none_of _ (sym c.is_some.ensures ∙ c.if-is_some.false) in
    let less : length c.self.inside.core.store.history < c.self.inside.net.budget = rw none at c.self.invariant.0.ends in
    record {
      coherent = record { keeps = c.self.invariant.0.keeps; waiting = c.self.invariant.2 };
      process = rw (c.process-process.ensures, c.deref.ensures) (out_within c.self.invariant.0 c.args.finished out);
      wants = rw (c.process-process.ensures, c.deref.ensures, c.answer-answer.ensures, c.deref-2.ensures, out.live, out.card) refl;
      busy = rw (c.process-process.ensures, c.deref.ensures, out.out) refl;
      room = omega (arith, less, c.self.invariant.0.limit_is);
    }

pub answer-answer-requires : goal.answer-answer-requires
answer-answer-requires g c = search sendable

pub assure_valid-requires : goal.assure_valid-requires
assure_valid-requires g c = search sendable

pub into_body-requires : goal.into_body-requires
into_body-requires g c = search sendable

pub process-process-requires : goal.process-process-requires
process-process-requires g c = search sendable

pub index_mut-requires : goal.index_mut-requires
index_mut-requires g c =
    let out : IsOutAt c.self.inside.net c.self.inside.core.store.state c.self.inside.core.standings c.args.finished = rw (← c.self.view_is) at c.requires in
    let sound = c.self.invariant.0 in
    rw (c.process-process.ensures, c.deref.ensures) (omega (arith, out_within sound c.args.finished out, sound.keeps.one_each, sound.many_bodies, length-map c.self.inside.bodies.items (option_map g.B.Body.card), c.self.inside.bodies.ok.0))
