-- The number of workers is the one that is read, also where nothing is run.
use Rattle.std.proofs.Common.{refl}
use Rattle.hox_args.proofs.arguments.draw_choice.Goals as goal

pub returns : goal.returns
returns c = record {
  ok = (
    refl,
    record {
      file = c.text_in-file.ensures;
      tokens = c.in_ok-tokens.ensures;
      formats = c.in_ok-formats.ensures;
      direction = rw c.has_flag.ensures at c.direction_of-direction.ensures;
      count = c.in_ok-count.count;
      read = rw (c.in_ok-count.ensures.ok_part, c.text_in.ensures) at c.workers_in.ensures.workers;
      workers = rw c.has_flag-2.ensures at c.asked_for-workers.ensures;
    },
  );
  fault = tt;
}
