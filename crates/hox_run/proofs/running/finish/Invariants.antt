use Rattle.std.proofs.Common.{◌≡◌, ◌≢◌, ◌+◌, ◌-◌, ℕ, length}
use Rattle.kpn_state.specs.declared.standing.Standing.TheVariants.{Out}
use Rattle.kpn_state.specs.Standings.{standing}
use Rattle.hox_run.proofs.running.finish.Given as goal

abbrev pub invariant-loop-machine : goal.invariant-loop-machine
invariant-loop-machine g l = record {
  none_out : (p : ℕ) → standing l.machine.standings p ≢ Out;
  network : l.machine.network ≡ l.initial.machine.network;
}

abbrev pub decreases-loop-machine : goal.decreases-loop-machine
decreases-loop-machine g l = l.machine.network.budget + 3 + length l.machine.network.processes - l.machine.commits
