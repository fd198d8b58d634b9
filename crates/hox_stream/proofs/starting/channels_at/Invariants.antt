use Rattle.std.proofs.Common.{◌≡◌, false, map, take, Some}
use Rattle.std.specs.List.{list_any}
use Rattle.kpn_model.specs.Network.{family_of, number_of_channel}
use Rattle.kpn_flow.specs.Ends.{is_no_channel}
use Rattle.hox_stream.specs.Starts.{is_busy}
use Rattle.hox_stream.proofs.starting.channels_at.Given as goal

abbrev pub invariant-loop-k : goal.invariant-loop-k
invariant-loop-k g l = record {
  named : map (number_of_channel l.net) (take l.k l.ends.names.now) ≡ map Some l.channels.items;
  within : list_any (is_no_channel l.net) l.channels.items ≡ false;
  idle : list_any (is_busy (family_of g.B.Kinds.Kinds.start g.B.Kinds.Kinds.answer_of) l.net l.ends.way) l.channels.items ≡ false;
}
