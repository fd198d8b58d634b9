-- The tokens are those of the channel's stream.
use Rattle.kpn_report.proofs.Counts.{shown_is}
use Rattle.hox_run.proofs.shown.push_stream.Goals as goal

pub returns : goal.returns
returns g c =
    let tokens = c.in_ok-tokens in
    rw (shown_is c.args.run.now.net.now (g.E.Entries.entries c.args.run.now.history.now) c.args.channel.channel tokens.tokens.items tokens.ensures.tokens tokens.ensures.none) (rw c.as_slice.ensures.value at c.push_line.ensures)
