use Rattle.std.proofs.Common.{◌≡◌, map}
use Rattle.std.specs.List.{range_with_len}
use Rattle.kpn_model.specs.History.{place_of}
use Rattle.kpn_state.specs.Standings.{standing, parked_answer}
use Rattle.kpn_report.proofs.places.places_of.Given as goal

abbrev pub invariant-loop-process : goal.invariant-loop-process
invariant-loop-process g l = l.places.items ≡ map (λ p. place_of l.net p (parked_answer (standing l.standings p))) (range_with_len 0 l.process)
