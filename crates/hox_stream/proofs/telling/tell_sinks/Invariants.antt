use Rattle.std.proofs.Common.{◌≡◌, false, List}
use Rattle.kpn_model.specs.Network.{family_of}
use Rattle.kpn_flow.specs.Flows.{IsSameFlow}
use Rattle.hox_stream.specs.Streams.{Streams}
use Rattle.hox_stream.specs.Views.{InletView, TableView, outs}
use Rattle.hox_stream.proofs.telling.tell_sinks.Given as goal

abbrev pub invariant-loop-k : goal.invariant-loop-k
invariant-loop-k g l = record {
  streams : (ins : List InletView) (tables : List TableView) → Streams (family_of g.B.Kinds.Kinds.start g.B.Kinds.Kinds.answer_of) l.initial.flow l.flow ins ins (outs l.initial.outlets tables) (outs l.outlets tables);
  same : IsSameFlow l.initial.flow l.flow;
  none : l.has_moved ≡ false → l.flow.state ≡ l.initial.flow.state;
}
