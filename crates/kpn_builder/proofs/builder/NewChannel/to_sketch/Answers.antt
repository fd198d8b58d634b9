-- The sketch has what the channel has.
use Rattle.std.proofs.Common.{rules}
use Rattle.kpn_builder.proofs.builder.NewChannel.to_sketch.Goals as goal

pub returns : goal.returns
returns c = search rules
