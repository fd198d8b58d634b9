use Rattle.kpn_message.specs.Location.{channel_has_fault, HoldsNowhere}
use Rattle.kpn_message.proofs.location.first_channel.Given as goal

abbrev pub invariant-loop-c : goal.invariant-loop-c
invariant-loop-c g l = HoldsNowhere (channel_has_fault g.K.Kinds.named g.K.Kinds.signature l.sketch l.fault) l.c
