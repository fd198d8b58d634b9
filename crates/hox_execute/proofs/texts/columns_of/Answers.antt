-- All columns.
use Rattle.std.proofs.Common.{◌≤◌, ◌++◌, List, length, map, min, ap, sym, ◌∙◌, arith}
use Rattle.std.proofs.lemmas.List.{append-nil}
use Rattle.kpn_tokens.specs.Tables.{ColumnView, column_of}
use Rattle.hox_execute.proofs.Grouped.{columns_end}
use Rattle.hox_execute.proofs.texts.columns_of.Goals as goal

pub returns : goal.returns
returns c =
    let made = map column_of c.loop-k.columns.items in
    let past : min (length c.args.pairs.now) (length c.args.files.now) ≤ c.loop-k.k = omega arith in
    sym (append-nil made) ∙ sym (ap (λ (l : List ColumnView). made ++ l) (columns_end c.args.pairs.now c.args.files.now c.loop-k.k past)) ∙ c.loop-k.invariant
