-- Each part of the choice is what its entries give.
use Rattle.std.proofs.Common.{refl}
use Rattle.hox_args.proofs.arguments.stream_choice.Goals as goal

pub returns : goal.returns
returns c = (
  refl,
  record {
    file = c.text_in-file.ensures;
    inputs = c.in_ok-inputs.ensures;
    outputs = c.in_ok-written.ensures;
    formats = c.in_ok-formats.ensures;
    unsigned = c.in_ok-texts_in.ensures;
    progress = c.has_flag.ensures;
    watch = c.has_flag-2.ensures;
    quiet = c.has_flag-3.ensures;
  },
)
