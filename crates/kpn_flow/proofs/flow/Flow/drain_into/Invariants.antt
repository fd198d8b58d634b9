use Rattle.std.proofs.Common.{◌≡◌, ◌≤◌, ◌-◌, length, map, take, drop}
use Rattle.kpn_model.specs.Network.{family_of}
use Rattle.kpn_flow.specs.Events.{Drained, Flows}
use Rattle.kpn_flow.specs.Flows.{IsSameFlow}
use Rattle.kpn_flow.proofs.flow.Flow.drain_into.Given as goal

abbrev pub invariant-loop-drained : goal.invariant-loop-drained
invariant-loop-drained g l = record {
  same : IsSameFlow l.initial.self l.self;
  counts : l.self.counts ≡ l.initial.self.counts;
  few : l.drained ≤ length l.buffer;
  long : length l.buffer ≡ length l.initial.buffer;
  flows : Flows (family_of g.B.Kinds.Kinds.start g.B.Kinds.Kinds.answer_of) l.initial.self.network l.initial.self.state (map (Drained l.channel) (take l.drained l.buffer)) l.self.state;
  rest : drop l.drained l.buffer ≡ drop l.drained l.initial.buffer;
}

abbrev pub decreases-loop-drained : goal.decreases-loop-drained
decreases-loop-drained g l = length l.buffer - l.drained
