use Rattle.std.proofs.Common.{◌≡◌, length, map}
use Rattle.std.specs.List.{list_any}
use Rattle.kpn_model.specs.Network.{family_of}
use Rattle.kpn_flow.specs.Ends.{has_live_writer}
use Rattle.kpn_flow.proofs.ends.any_live_writer.Given as goal

abbrev pub invariant-loop-first : goal.invariant-loop-first
invariant-loop-first g l = list_any (has_live_writer (family_of g.B.Kinds.Kinds.start g.B.Kinds.Kinds.answer_of) l.staffed.net.now (map g.B.Body.card l.staffed.bodies.now)) l.channels ≡ list_any (has_live_writer (family_of g.B.Kinds.Kinds.start g.B.Kinds.Kinds.answer_of) l.staffed.net.now (map g.B.Body.card l.staffed.bodies.now)) l.rest

abbrev pub decreases-loop-first : goal.decreases-loop-first
decreases-loop-first g l = length l.rest
