-- What a line says has the sort that is asked for.
use Rattle.kpn_tokens.proofs.Sorted.{text_sorted}
use Rattle.kpn_tokens.proofs.saying.first_line.Goals as goal

pub returns-in-Some-line_in-clause-sorted : goal.returns-in-Some-line_in-clause-sorted
returns-in-Some-line_in-clause-sorted c = rw c.said_by_line.ensures (text_sorted c.args.decimals c.args.sort c.without_mark.result.now)
