use Rattle.std.proofs.Common.{◌≡◌, ◌∙◌, add-one, true, false, sym}
use Rattle.std.specs.Option.{option_map_or}
use Rattle.csv.specs.Records.{field_at, fields_of}
use Rattle.kpn_tokens.specs.Rows.{is_open_field}
use Rattle.kpn_tokens.proofs.Fields.{any_at, none_more}
use Rattle.kpn_tokens.proofs.rows.is_open.Goals as goal

pub returns-then-is_open_at : goal.returns-then-is_open_at
returns-then-is_open_at c =
    let found : option_map_or is_open_field (field_at (fields_of c.args.row.now) c.loop-place.place) false ≡ true = sym c.is_open_at.ensures ∙ c.if-is_open_at.true in
    sym (any_at is_open_field (fields_of c.args.row.now) c.loop-place.place found)

pub loop-place-preserved : goal.loop-place-preserved
loop-place-preserved c =
    let fields = fields_of c.args.row.now in
    let place = c.loop-place.place in
    let shut : option_map_or is_open_field (field_at fields place) false ≡ false = sym c.is_open_at.ensures ∙ c.if-is_open_at.false in
    rw (add-one place) (none_more is_open_field fields place c.loop-place.invariant shut)
