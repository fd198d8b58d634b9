use Rattle.std.proofs.Common.{◌≡◌, replicate}
use Rattle.kpn_state.specs.declared.standing.Standing.TheVariants.{Ready}
use Rattle.kpn_state.specs.Rosters.{Agrees}
use Rattle.kpn_state.proofs.roster.Roster.new.Given as goal

abbrev pub invariant-loop-process : goal.invariant-loop-process
invariant-loop-process l = record {
  are : l.standings.items ≡ replicate l.process Ready;
  room : l.queue.capacity ≡ l.count;
  kept : Agrees l.standings.items l.queue.items l.queue.capacity 0 l.process;
}
