-- The longest column so far, and the next one.
use Rattle.std.proofs.Common.{◌≡◌, ◌+◌, ◌∙◌, map, max, take, sym, ap, rules}
use Rattle.kpn_tokens.specs.Tables.{column_of, longest}
use Rattle.kpn_tokens.proofs.RowsOn.{next_longest}
use Rattle.kpn_tokens.proofs.columns.longest.Goals as goal

pub loop-column-preserved : goal.loop-column-preserved
loop-column-preserved c =
    let columns = c.args.columns.now in
    let i = c.loop-column.column-index in
    let before = longest (map column_of (take i columns)) in
    let next : longest (map column_of (take (i + 1) columns)) ≡ max before c.length-length.result = next_longest columns i _ c.loop-column-test.true ∙ ap (λ n. max before n) (sym c.length-length.ensures) in
    rw (next, ← c.loop-column.invariant) (search rules)
