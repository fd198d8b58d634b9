use Rattle.std.proofs.Common.{◌≡◌, ◌++◌, string_bytes, take}
use Rattle.hox_run.specs.Cuts.{streams_text}
use Rattle.hox_run.proofs.shown.push_streams.Given as goal

abbrev pub invariant-loop-channel : goal.invariant-loop-channel
invariant-loop-channel g l = string_bytes l.out ≡ string_bytes l.initial.out ++ streams_text l.run.net.now l.word (g.E.Entries.entries l.run.history.now) (take l.channel-index l.channels)
