-- The lines are those of the channel's stream.
use Rattle.std.proofs.Common.{rules}
use Rattle.hox_run.proofs.files.stream_file.Goals as goal

pub returns : goal.returns
returns g c = search rules
