-- What a line or a row says has the sort that is asked for.
use Rattle.std.proofs.lemmas.Result.{IfOk-weaker}
use Rattle.kpn_tokens.specs.Rows.{row_in}
use Rattle.kpn_tokens.proofs.Sorted.{row_sorted, text_sorted}
use Rattle.kpn_tokens.proofs.saying.token_of_record.Goals as goal

pub returns-in-Lines-clause-sorted : goal.returns-in-Lines-clause-sorted
returns-in-Lines-clause-sorted c = rw c.said_by_line.ensures (text_sorted c.in-Lines.decimals c.args.sort c.without_mark.result.now)

pub returns-in-Fields-clause-sorted : goal.returns-in-Fields-clause-sorted
returns-in-Fields-clause-sorted c =
    let column = c.in-Fields.column in
    IfOk-weaker c.said_by_row.result _ _ (λ said is. rw is (row_sorted column c.args.sort (row_in column.separator c.args.bytes.now))) c.said_by_row.ensures
