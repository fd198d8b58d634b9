-- The tokens are those in the digest's list of streams.
use Rattle.kpn_report.proofs.Counts.{shown_is}
use Rattle.kpn_report.proofs.text.push_shown.Goals as goal

pub returns-in_ok-tokens-in-Some : goal.returns-in_ok-tokens-in-Some
returns-in_ok-tokens-in-Some g c =
    let tokens = c.in_ok-tokens-in-Some in
    rw (c.in-Some.is, shown_is c.args.net.now (g.E.Entries.entries c.args.history.now) c.in-Some.c tokens.tokens.items tokens.ensures.tokens tokens.ensures.none) (rw c.as_slice.ensures.value at c.push_stream.ensures)
