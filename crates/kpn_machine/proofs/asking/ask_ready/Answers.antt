-- One more process was asked.
use Rattle.std.proofs.Common.{◌<◌, ◌++◌, ◌∷◌, [], ◌∙◌, arith, refl, length, length-append}
use Rattle.kpn_model.specs.Network.{family_of}
use Rattle.kpn_machine.specs.Asking.{IsAsked}
use Rattle.kpn_machine.proofs.AskedInTurn.{asked_moves, asked_more, bodies_stay}
use Rattle.kpn_machine.proofs.asking.ask_ready.Goals as goal

pub react_ready-is_ready-requires-after_bounds : goal.react_ready-is_ready-requires-after_bounds
react_ready-is_ready-requires-after_bounds g c κs within =
    let before = c.loop-left.invariant in
    record {
      coherent = rw c.turn.ensures.same before.coherent;
      wants = rw (c.question_to-last.ensures.status, c.answer-answer.ensures, c.question_to-last.ensures.card) refl;
      ready = rw c.turn.ensures.same c.in-Some.ensures.some.ready;
      room = omega (arith, c.if-entries-until.false, c.entries.ensures, before.limit, c.requires.room);
    }

pub loop-left-preserved : goal.loop-left-preserved
loop-left-preserved g c =
    let before = c.loop-left.invariant in
    let family = family_of g.B.Kinds.Kinds.start g.B.Kinds.Kinds.answer_of in
    let reacts = c.react_ready-is_ready.ensures.reacts in
    let one : IsAsked family g.B.Kinds.Kinds.admits c.args.net.now c.loop-left.core.store c.loop-left.core.standings reacts.0 c.react_ready-is_ready.new.core.store c.react_ready-is_ready.new.core.standings =
    record {
      process = c.in-Some.process;
      ready = c.in-Some.ensures.some.ready;
      answer = c.answer-answer.result;
      wanted = rw (c.question_to-last.ensures.status, c.answer-answer.ensures, c.question_to-last.ensures.card) refl;
      reacts = rw c.turn.ensures.same at reacts.1;
      keeps = c.react_ready-is_ready.ensures.coherent.keeps;
    } in
    let less : length c.loop-left.core.store.history < c.args.until = omega (arith, c.if-entries-until.false, c.entries.ensures) in
    record {
      coherent = c.react_ready-is_ready.ensures.coherent;
      bodies = bodies_stay _ one before.bodies;
      limit = (asked_moves one).limit ∙ before.limit;
      again = grind arith;
      few = omega (arith, before.few);
      so_far = (
        before.so_far.0 ++ reacts.0 ∷ [],
        omega (arith, before.so_far.1, before.few, c.loop-left-test.true, length-append before.so_far.0 (reacts.0 ∷ [])),
        asked_more c.args.until before.so_far.0 reacts.0 _ _ _ _ _ _ before.so_far.2 less one,
      );
    }
