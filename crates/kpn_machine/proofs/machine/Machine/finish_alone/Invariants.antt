use Rattle.std.proofs.Common.{◌≡◌, ◌+◌, ◌-◌, length}
use Rattle.kpn_model.specs.Network.{family_of}
use Rattle.std.specs.List.{count_by}
use Rattle.kpn_state.specs.Standings.{is_out}
use Rattle.kpn_machine.specs.Commits.{ContinuesRun}
use Rattle.kpn_machine.proofs.machine.Machine.finish_alone.Given as goal

abbrev pub invariant-loop-self : goal.invariant-loop-self
invariant-loop-self g l = record {
  none_out : count_by is_out l.self.standings ≡ 0;
  goes : ContinuesRun (family_of g.B.Kinds.Kinds.start g.B.Kinds.Kinds.answer_of) l.initial.self l.self;
}

abbrev pub decreases-loop-self : goal.decreases-loop-self
decreases-loop-self g l = l.self.network.budget + 3 + length l.self.network.processes - l.self.commits
