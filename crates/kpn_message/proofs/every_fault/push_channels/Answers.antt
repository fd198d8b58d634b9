use Rattle.std.proofs.Common.{◌≡◌, ℕ, length, subst, ap, arith}
use Rattle.kpn_message.specs.declared.location.Location.TheVariants.{Channel}
use Rattle.kpn_message.specs.EveryFault.{Adds, for_each_below, told_at}
use Rattle.kpn_message.proofs.Told.{adds_none, adds_next}
use Rattle.kpn_message.proofs.every_fault.push_channels.Goals as goal

pub loop-c-init : goal.loop-c-init
loop-c-init g c = adds_none _

pub loop-c-preserved : goal.loop-c-preserved
loop-c-preserved g c =
    adds_next (λ k. told_at g.K.Kinds.named g.K.Kinds.signature c.args.sketch.now c.args.fault (Channel k)) c.loop-c.c _ c.loop-c.messages c.push_place.new.messages c.loop-c.invariant c.push_place.ensures

pub returns : goal.returns
returns g c =
    let all : c.loop-c.c ≡ length c.args.sketch.now.channels = omega (arith, ap length c.as_slice-c-end.ensures) in
    subst (λ (n : ℕ). Adds (for_each_below (λ k. told_at g.K.Kinds.named g.K.Kinds.signature c.args.sketch.now c.args.fault (Channel k)) n) c.args.messages.now c.loop-c.messages) all c.loop-c.invariant
