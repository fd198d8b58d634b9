-- One more place, and all of them.
use Rattle.std.proofs.Common.{arith, ◌≡◌, length}
use Rattle.std.proofs.lemmas.List.FromFn.{map-range_with_len_more}
use Rattle.kpn_model.specs.History.{place_of}
use Rattle.kpn_state.specs.Standings.{standing, parked_answer}
use Rattle.kpn_report.proofs.places.places_of.Goals as goal

pub loop-process-preserved : goal.loop-process-preserved
loop-process-preserved g c =
    rw (
      c.in_ok-push.ensures.items,
      c.loop-process.invariant,
      c.place.ensures,
      c.parked-wanted.ensures.is,
      map-range_with_len_more (λ p. place_of c.args.net.now p (parked_answer (standing c.args.standings.now p))) 0 c.loop-process.process c.loop-process.process (omega arith),
    )

pub returns : goal.returns
returns g c =
    let end : c.loop-process.process ≡ length c.args.net.now.processes = omega arith in
    rw end at c.loop-process.invariant
