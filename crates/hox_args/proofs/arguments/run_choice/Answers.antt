-- Each part of the choice is what its entries give.
use Rattle.std.proofs.Common.{refl}
use Rattle.hox_args.proofs.arguments.run_choice.Goals as goal

pub returns : goal.returns
returns c = record {
  ok = (
    refl,
    record {
      file = c.text_in-file.ensures;
      tokens = c.in_ok-tokens.ensures;
      outputs = c.in_ok-outputs.ensures;
      formats = c.in_ok-formats.ensures;
      show = c.in_ok-show.ensures;
      unsigned = c.in_ok-unsigned.ensures;
      budget = rw c.text_in-2.ensures at c.in_ok-budget.ensures.ok;
      workers = rw (c.in_ok-workers.ensures.ok_part, c.text_in.ensures) at c.workers_in.ensures.workers;
      progress = c.has_flag-progress.ensures;
      json = c.has_flag-json.ensures;
      quiet = c.has_flag-quiet.ensures;
    },
  );
  fault = tt;
}
