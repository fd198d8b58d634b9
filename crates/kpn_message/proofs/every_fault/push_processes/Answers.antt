use Rattle.std.proofs.Common.{◌≡◌, ℕ, length, subst, ap, arith}
use Rattle.kpn_message.specs.declared.location.Location.TheVariants.{Process}
use Rattle.kpn_message.specs.EveryFault.{Adds, for_each_below, told_at}
use Rattle.kpn_message.proofs.Told.{adds_none, adds_next}
use Rattle.kpn_message.proofs.every_fault.push_processes.Goals as goal

pub loop-p-init : goal.loop-p-init
loop-p-init g c = adds_none _

pub loop-p-preserved : goal.loop-p-preserved
loop-p-preserved g c =
    adds_next (λ k. told_at g.K.Kinds.named g.K.Kinds.signature c.args.sketch.now c.args.fault (Process k)) c.loop-p.p _ c.loop-p.messages c.push_place.new.messages c.loop-p.invariant c.push_place.ensures

pub returns : goal.returns
returns g c =
    let all : c.loop-p.p ≡ length c.args.sketch.now.processes = omega (arith, ap length c.as_slice-p-end.ensures) in
    subst (λ (n : ℕ). Adds (for_each_below (λ k. told_at g.K.Kinds.named g.K.Kinds.signature c.args.sketch.now c.args.fault (Process k)) n) c.args.messages.now c.loop-p.messages) all c.loop-p.invariant
