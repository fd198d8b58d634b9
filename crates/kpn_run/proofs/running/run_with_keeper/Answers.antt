-- What is said of boxed bodies holds of the bodies.
use Rattle.std.proofs.Common.{◌≡◌, ◌∙◌, map, length, ap, sym, arith, rules}
use Rattle.std.proofs.lemmas.List.{length-map}
use Rattle.kpn_run.proofs.running.run_with_keeper.Goals as goal

pub unboxed-requires-clause-room : goal.unboxed-requires-clause-room
unboxed-requires-clause-room g c κs within = λ refused is.
    let back = rw is at c.in-Err-run_bodies.ensures.failed in
    let boxed = c.in-Ok.field-0.boxed.items in
    let same : map g.B.Body.card refused.bodies.items ≡ map g.B.Body.card boxed = back.cards_are in
    let long : length refused.bodies.items ≡ length boxed = sym (length-map refused.bodies.items g.B.Body.card) ∙ ap length same ∙ length-map boxed g.B.Body.card in
    omega (arith, long, ap length c.in-Ok.ensures.boxed, c.in-Ok.ensures.room)

pub returns-in-Err-run_bodies : goal.returns-in-Err-run_bodies
returns-in-Err-run_bodies g c = record {
  run = search rules;
  cards = search rules;
  many = search rules;
  failed = rw c.in-Ok.ensures.boxed at (c.unboxed.ensures c.args.net _ c.args.workers c.in-Err-run_bodies.ensures.failed);
}

pub returns-in-Err-run_bodies-2 : goal.returns-in-Err-run_bodies-2
returns-in-Err-run_bodies-2 g c = record {
  run = search rules;
  cards = search rules;
  many = search rules;
  failed = rw c.in-Err.ensures.back at (c.fault_of.ensures c.args.net _ c.args.workers c.in-Err-run_bodies-2.ensures.failed);
}
