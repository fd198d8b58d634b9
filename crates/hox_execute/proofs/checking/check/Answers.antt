-- The line on the network is written.
use Rattle.std.proofs.Common.{◌≡◌, ◌∙◌}
use Rattle.hox_execute.specs.Commands.{checked_text}
use Rattle.hox_execute.proofs.checking.check.Goals as goal

pub returns-in-Ok : goal.returns-in-Ok
returns-in-Ok g c =
    let ok = c.in-Ok.ensures.ok in
    let text : c.as_slice.result.now ≡ checked_text g.K.Titled.title c.args.is_expanded ok.0 = c.as_slice.ensures.value ∙ ok.2 in
    record {
      done = record { asked = c.in_ok-asked.asked; net = ok.0; comes = record { is_asked = c.in_ok-asked.ensures.ok; serves = ok.1 }; writes = rw text at c.write_text.ensures };
      stop = tt;
      untouched = tt;
    }
