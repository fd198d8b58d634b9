use Rattle.std.proofs.Common.{◌≡◌, ◌≤◌, ◌-◌, length, map, take}
use Rattle.kpn_model.specs.Network.{family_of}
use Rattle.kpn_flow.specs.Events.{Fed, Flows}
use Rattle.kpn_flow.specs.Flows.{IsSameFlow}
use Rattle.kpn_flow.proofs.flow.Flow.feed_all.Given as goal

abbrev pub invariant-loop-fed : goal.invariant-loop-fed
invariant-loop-fed g l = record {
  same : IsSameFlow l.initial.self l.self;
  counts : l.self.counts ≡ l.initial.self.counts;
  few : l.fed ≤ length l.batch;
  flows : Flows (family_of g.B.Kinds.Kinds.start g.B.Kinds.Kinds.answer_of) l.initial.self.network l.initial.self.state (map (Fed l.channel) (take l.fed l.batch)) l.self.state;
}

abbrev pub decreases-loop-fed : goal.decreases-loop-fed
decreases-loop-fed g l = length l.batch - l.fed
