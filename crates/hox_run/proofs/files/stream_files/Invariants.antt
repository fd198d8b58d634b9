use Rattle.std.proofs.Common.{◌≡◌, map, take}
use Rattle.hox_run.specs.Telling.{stream_file}
use Rattle.hox_run.proofs.files.stream_files.Given as goal

abbrev pub invariant-loop-channel : goal.invariant-loop-channel
invariant-loop-channel g l = l.files.items ≡ map (stream_file l.net (g.E.Entries.entries l.history)) (take l.channel-index l.channels)
