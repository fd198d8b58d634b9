-- The report of the run's history.
use Rattle.std.proofs.Common.{string_bytes, sym}
use Rattle.hox_handle.specs.Sessions.{all_kinds}
use Rattle.hox_handle.proofs.RunReports.{justified, text_told, every_told}
use Rattle.hox_handle.proofs.running.tell_run.Goals as goal

pub returns : goal.returns
returns c =
    let machine = c.args.chronicle.now in
    let faithful = c.in-Some.ensures.faithful in
    let ended = sym c.in-Some.ensures.end in
    let bytes = string_bytes c.in_ok-report.report in
    let places = rw (c.net-net.ensures, c.standings.ensures) at c.in_ok-places.ensures in
    let text = rw (c.net-net.ensures, c.keeper-entries.ensures, c.as_slice.ensures.value) at (c.in_ok-report.ensures all_kinds machine.state) in
    record {
      history = machine.history;
      state = machine.state;
      run = faithful.run;
      justified = justified all_kinds _ machine c.in-Some.end faithful ended;
      room = c.least_room_of.ensures.each_run _ _ _ faithful.run;
      streams = c.least_solution_of.ensures.each_run _ _ _ faithful.run;
      text_is = text_told all_kinds _ machine c.in-Some.end faithful ended c.in_ok-places.places.items bytes places text;
      every = every_told all_kinds _ machine c.in-Some.end faithful ended c.in_ok-places.places.items bytes places text c.determinacy_of.ensures.one_digest;
    }
