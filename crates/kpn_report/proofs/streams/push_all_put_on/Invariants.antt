use Rattle.std.proofs.Common.{◌≡◌, ◌++◌, take}
use Rattle.kpn_model.specs.History.{put_on}
use Rattle.kpn_report.proofs.streams.push_all_put_on.Given as goal

abbrev pub invariant-loop-k : goal.invariant-loop-k
invariant-loop-k g l = l.tokens.items ≡ l.fn.tokens.items ++ put_on (take l.k (g.E.Entries.entries l.history)) l.channel
