use Rattle.std.proofs.Common.{refl, subst, sym, arith}
use Rattle.std.proofs.Common.{get_or, length}
use Rattle.kpn_tokens.specs.Records.{Say}
use Rattle.kpn_tokens.specs.Tables.{column_layout, no_column, rows_text}
use Rattle.kpn_tokens.proofs.TablesBack.{longest_is, say_rows}
use Rattle.kpn_tokens.proofs.laws.reads_columns_back.Goals as goal

pub returns : goal.returns
returns c = λ n columns place sort filled within fit.
    let column = get_or columns place no_column in
    let table = c.args.table in
    let layout = column_layout table (length columns) place column.decimals in
    subst (λ m. Say layout sort (rows_text table m columns) column.tokens) (sym (longest_is table n columns filled (omega arith)))
    (say_rows table place sort column.decimals (length columns) n columns column.tokens filled within refl refl fit)
