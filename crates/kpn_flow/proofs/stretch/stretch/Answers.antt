-- Ready processes are asked, or what follows if none is ready.
use Rattle.std.proofs.Common.{◌≡◌, ◌+◌, ◌*◌, ◌≤◌, ◌∙◌, ap, arith, length, subst, List}
use Rattle.std.specs.Prelude.{IfNone}
use Rattle.std.specs.List.{sum_by}
use Rattle.kpn_model.specs.Network.{family_of}
use Rattle.kpn_state.specs.StateAndHistory.{StateAndHistory}
use Rattle.kpn_state.specs.declared.standing.Standing.{Standing}
use Rattle.kpn_flow.specs.Pauses.{OpenRun}
use Rattle.kpn_flow.specs.Waits.{is_not_parked}
use Rattle.kpn_flow.proofs.Turning.{alone, asked_few, asked_limit, asked_nobody, asked_settled, asked_turned, asked_none_out, nobody_moved, none_busy}
use Rattle.kpn_flow.proofs.stretch.stretch.Goals as goal

pub returns-then-asked-gt0-clause-stretches : goal.returns-then-asked-gt0-clause-stretches
returns-then-asked-gt0-clause-stretches g c =
    record {
      settled =
          let asked = c.ask_ready-asked.ensures.asked in
          record {
            fits = asked_settled (family_of g.B.Kinds.Kinds.start g.B.Kinds.Kinds.answer_of) g.B.Kinds.Kinds.admits c.args.opened.now.net.now c.args.until asked.0 _ _ _ _ c.requires.settled.fits.none_out asked.2 c.ask_ready-asked.ensures.coherent.keeps;
            waiting = c.ask_ready-asked.ensures.coherent.waiting;
          };
      limit =
          let asked = c.ask_ready-asked.ensures.asked in
          asked_limit (family_of g.B.Kinds.Kinds.start g.B.Kinds.Kinds.answer_of) g.B.Kinds.Kinds.admits c.args.opened.now.net.now c.args.until asked.0 _ _ _ _ asked.2 ∙ ap (λ (x : StateAndHistory). x.limit) c.forget.ensures;
      run =
          let kinds = family_of g.B.Kinds.Kinds.start g.B.Kinds.Kinds.answer_of in
          let asked = c.ask_ready-asked.ensures.asked in
          subst (λ (x : StateAndHistory). OpenRun kinds c.args.opened.now.net.now c.args.opened.now.inputs.now c.args.opened.now.outputs.now x.state c.ask_ready-asked.new.core.store.history c.ask_ready-asked.new.core.store.state) c.forget.ensures
          (alone kinds c.args.opened.now.net.now c.args.opened.now.inputs.now c.args.opened.now.outputs.now c.forget.new.self c.ask_ready-asked.new.core.store c.args.core.now.standings c.ask_ready-asked.new.core.standings (length asked.0) 0 (ap (λ (x : StateAndHistory). x.history) c.forget.ensures)
          (asked_turned kinds c.args.opened.now.net.now c.args.opened.now.inputs.now c.args.opened.now.outputs.now g.B.Kinds.Kinds.admits c.args.until asked.0 _ _ _ _ asked.2)).run;
      few =
          let asked = c.ask_ready-asked.ensures.asked in
          let none = ap (λ (x : StateAndHistory). length x.history) c.forget.ensures in
          asked_few (family_of g.B.Kinds.Kinds.start g.B.Kinds.Kinds.answer_of) g.B.Kinds.Kinds.admits c.args.opened.now.net.now c.args.until asked.0 _ _ _ _ asked.2 (omega (arith, none));
      rests = tt;
      none = tt;
      told = tt;
      goes =
          let kinds = family_of g.B.Kinds.Kinds.start g.B.Kinds.Kinds.answer_of in
          let asked = c.ask_ready-asked.ensures.asked in
          let goes = (alone kinds c.args.opened.now.net.now c.args.opened.now.inputs.now c.args.opened.now.outputs.now c.forget.new.self c.ask_ready-asked.new.core.store c.args.core.now.standings c.ask_ready-asked.new.core.standings (length asked.0) 0 (ap (λ (x : StateAndHistory). x.history) c.forget.ensures)
          (asked_turned kinds c.args.opened.now.net.now c.args.opened.now.inputs.now c.args.opened.now.outputs.now g.B.Kinds.Kinds.admits c.args.until asked.0 _ _ _ _ asked.2)).goes in
          omega (arith, asked.1, c.if-asked-gt0.true);
    }

pub rest-requires-clause-settled : goal.rest-requires-clause-settled
rest-requires-clause-settled g c κs within =
    let asked = c.ask_ready-asked.ensures.asked in
    record {
      fits = asked_settled (family_of g.B.Kinds.Kinds.start g.B.Kinds.Kinds.answer_of) g.B.Kinds.Kinds.admits c.args.opened.now.net.now c.args.until asked.0 _ _ _ _ c.requires.settled.fits.none_out asked.2 c.ask_ready-asked.ensures.coherent.keeps;
      waiting = c.ask_ready-asked.ensures.coherent.waiting;
    }

pub rest-requires-clause-idle : goal.rest-requires-clause-idle
rest-requires-clause-idle g c κs within =
    let kinds = family_of g.B.Kinds.Kinds.start g.B.Kinds.Kinds.answer_of in
    let asked = c.ask_ready-asked.ensures.asked in
    let none : length asked.0 ≡ 0 = omega (arith, asked.1, c.if-asked-gt0.false) in
    let same = ap (λ (x : StateAndHistory). length x.history) (asked_nobody kinds g.B.Kinds.Kinds.admits c.args.opened.now.net.now c.args.until asked.0 _ _ _ _ none asked.2 ∙ c.forget.ensures) in
    none_busy c.ask_ready-asked.new.core.standings (asked_none_out kinds g.B.Kinds.Kinds.admits c.args.opened.now.net.now c.args.until asked.0 _ _ _ _ c.requires.settled.fits.none_out asked.2)
    (c.ask_ready-asked.ensures.fewer (omega (arith, c.if-asked-gt0.false)) (omega (arith, same, c.requires.some)))

pub returns-clause-stretches : goal.returns-clause-stretches
returns-clause-stretches g c =
    let kinds = family_of g.B.Kinds.Kinds.start g.B.Kinds.Kinds.answer_of in
    let asked = c.ask_ready-asked.ensures.asked in
    let none : length asked.0 ≡ 0 = omega (arith, asked.1, c.if-asked-gt0.false) in
    let same = asked_nobody kinds g.B.Kinds.Kinds.admits c.args.opened.now.net.now c.args.until asked.0 _ _ _ _ none asked.2 ∙ c.forget.ensures in
    let unmoved = nobody_moved kinds g.B.Kinds.Kinds.admits c.args.opened.now.net.now c.args.until asked.0 _ _ _ _ none asked.2 in
    record {
      settled = c.rest.ensures.settled;
      limit = c.rest.ensures.limit ∙ ap (λ (x : StateAndHistory). x.limit) same;
      run = subst (λ (x : StateAndHistory). OpenRun kinds c.args.opened.now.net.now c.args.opened.now.inputs.now c.args.opened.now.outputs.now x.state c.rest.new.core.store.history c.rest.new.core.store.state) same c.rest.ensures.run;
      few = omega (arith, c.rest.ensures.few, c.requires.some);
      rests = c.rest.ensures.rests;
      none = c.rest.ensures.none;
      told = c.rest.ensures.told;
      goes = subst (λ (l : List Standing). IfNone c.rest.result (sum_by is_not_parked c.rest.new.core.standings + 1 ≤ sum_by is_not_parked l + 2 * length c.rest.new.core.store.history)) unmoved c.rest.ensures.goes;
    }
