use Rattle.std.proofs.Common.{Bool, ◌&&◌, is_ok, ap, refl}
use Rattle.kpn_message.proofs.Told.{told_or_lost}
use Rattle.kpn_message.proofs.every_fault.add.Goals as goal

pub returns : goal.returns
returns c = λ before t.
    let first = c.args.messages.now in
    told_or_lost before first _ c.args.message (is_ok c.push.result) c.requires.room c.requires.said c.push.ensures.items (ap (λ (b : Bool). b && first.are_all) c.is_ok-is_added.ensures.value) refl t
