-- The sketch has what was given.
use Rattle.std.proofs.Common.{rules}
use Rattle.kpn_builder.proofs.builder.process_in.Goals as goal

pub returns : goal.returns
returns c = search rules
