-- Each part of the choice is what its entries give.
use Rattle.std.proofs.Common.{refl}
use Rattle.hox_args.proofs.arguments.check_choice.Goals as goal

pub returns : goal.returns
returns c = (refl, record { file = c.text_in-file.ensures; tokens = c.in_ok-tokens.ensures; formats = c.in_ok-formats.ensures; expanded = c.has_flag-expanded.ensures })
