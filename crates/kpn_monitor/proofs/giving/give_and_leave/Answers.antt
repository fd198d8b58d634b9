-- The answer was taken, and its outcome noted.
use Rattle.std.proofs.Common.{refl}
use Rattle.kpn_model.specs.Network.{family_of}
use Rattle.kpn_monitor.proofs.GivenOn.{gave_up}
use Rattle.kpn_monitor.proofs.giving.give_and_leave.Goals as goal

pub returns-clause-gave : goal.returns-clause-gave
returns-clause-gave g c =
    let left = c.leave.ensures in
    let noted = c.note.ensures in
    gave_up (family_of g.B.Kinds.Kinds.start g.B.Kinds.Kinds.answer_of) g.B.Kinds.Kinds.admits _ _ _ _ c.leave.result c.give_one-outcome.result
    (rw noted left.first)
    (rw noted left.called)
    (rw (noted, left.outcomes) refl)
    (rw noted left.again)
    c.give_one-outcome.ensures.commits
    c.give_one-outcome.ensures.appends
    c.give_one-outcome.ensures.committed
