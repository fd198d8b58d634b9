-- The text of the run's history; if memory for the report is refused, this is written.
use Rattle.std.proofs.Common.{inl, inr, string_bytes, sym}
use Rattle.kpn_model.specs.Network.{family_of}
use Rattle.kpn_execute.proofs.Telling.{run_told}
use Rattle.kpn_execute.proofs.Written.{written, no_memory}
use Rattle.kpn_execute.proofs.execution.say_told.Goals as goal

pub returns : goal.returns
returns g c =
    let kinds = (family_of g.K.Kinds.start g.K.Kinds.answer_of) in
    let machine = c.args.chronicle.now in
    let text = rw (c.net-net.ensures, c.requires.entries, c.as_slice.ensures.value) at (c.in-Ok-written.ensures kinds machine.state) in
    let told = run_told kinds g.K.Kinds.admits machine c.in-Some.end c.in-Ok.places.items c.args.channel c.status_of.result (string_bytes c.in-Ok-written.text) c.in-Some.ensures.faithful
    (c.least_room_of.ensures.each_run _ _ _ c.in-Some.ensures.faithful.run) (c.least_solution_of.ensures.each_run _ _ _ c.in-Some.ensures.faithful.run) (sym c.in-Some.ensures.end)
    (rw (c.net-net.ensures, c.standings.ensures) at c.in-Ok.ensures) c.determinacy_of.ensures.one_digest text c.status_of.ensures in
    written (rw c.as_str.ensures.value at c.say.ensures) (inr told)

pub returns-in_default-places_of : goal.returns-in_default-places_of
returns-in_default-places_of g c = written c.say_refused.ensures (inl no_memory)

pub returns-in_default-written : goal.returns-in_default-written
returns-in_default-written g c = written c.say_refused-in_default-written.ensures (inl no_memory)
