use Rattle.std.proofs.Common.{◌≡◌, ◌<◌, ℕ, false, List, length, set}
use Rattle.kpn_model.specs.Network.{family_of}
use Rattle.kpn_flow.specs.Flows.{IsSameFlow}
use Rattle.hox_stream.specs.Streams.{Streams, table_at}
use Rattle.hox_stream.specs.Views.{InletView, OutletView, TableView, outs}
use Rattle.hox_stream.proofs.tabling.tell_table.Given as goal

abbrev pub invariant-loop-place : goal.invariant-loop-place
invariant-loop-place g l = record {
  streams : (ins : List InletView) (sinks : List OutletView) (tables : List TableView) (k : ℕ) → k < length tables → table_at tables k ≡ l.initial.table → Streams (family_of g.B.Kinds.Kinds.start g.B.Kinds.Kinds.answer_of) l.initial.flow l.flow ins ins (outs sinks tables) (outs sinks (set tables k l.table));
  same : IsSameFlow l.initial.flow l.flow;
  none : l.has_moved ≡ false → l.flow.state ≡ l.initial.flow.state;
  width : length l.table.lanes ≡ length l.initial.table.lanes;
}
