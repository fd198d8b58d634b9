use Rattle.std.proofs.Common.{refl}
use Rattle.kpn_message.proofs.Told.{told_full}
use Rattle.kpn_message.proofs.every_fault.push_message.Goals as goal

pub returns-then-is_full : goal.returns-then-is_full
returns-then-is_full g c = λ before t.
    let first = c.args.messages.now in
    told_full before (c.args.at.fault, c.args.at.place) first _ (c.is_full.ensures.full c.if-is_full.true) refl refl c.saturating_add-messages.ensures t
