-- The channel to show is known, or `no channel` is written. A run by one worker ends; one by several may also be given up.
use Rattle.std.proofs.Common.{◌<◌, inl, inr, refl, arith}
use Rattle.kpn_execute.proofs.Written.{written, written_of, as_several}
use Rattle.kpn_execute.proofs.execution.execute.Goals as goal

pub returns-then-workers-le1 : goal.returns-then-workers-le1
returns-then-workers-le1 g c = written_of (λ s t told. inr (c.in-Ok.channel, c.in-Ok.ensures.channel, inr told)) c.tell_alone.ensures

pub returns-else-workers-le1 : goal.returns-else-workers-le1
returns-else-workers-le1 g c =
    let several : 1 < c.args.workers = omega arith in
    written_of (λ s t told. inr (c.in-Ok.channel, c.in-Ok.ensures.channel, as_several several told)) c.tell_by_workers.ensures

pub returns-in-Err : goal.returns-in-Err
returns-in-Err g c =
    let is = c.in-Err.ensures.unknown in
    written c.say_no_channel.ensures (inl (record { name = c.in-Err.name.now; asked = is.0; unknown = is.1; status_is = refl; text_is = refl }))
