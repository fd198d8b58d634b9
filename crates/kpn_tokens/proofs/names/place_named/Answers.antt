use Rattle.std.proofs.Common.{◌≡◌, ◌≤◌, ◌∙◌, add-one, true, false, length, rules, sym}
use Rattle.std.proofs.lemmas.List.{take_all}
use Rattle.std.specs.List.{list_any}
use Rattle.std.specs.Option.{option_map_or}
use Rattle.csv.specs.Records.{field_at, fields_of}
use Rattle.kpn_tokens.specs.Heads.{is_name}
use Rattle.kpn_tokens.proofs.Fields.{found_at, none_found, none_more}
use Rattle.kpn_tokens.proofs.names.place_named.Goals as goal

pub returns-then-is_name_at : goal.returns-then-is_name_at
returns-then-is_name_at c =
    let here : option_map_or (is_name c.args.name.now) (field_at (fields_of c.args.names.now) c.loop-place.place) false ≡ true = sym c.is_name_at.ensures ∙ c.if-is_name_at.true in
    sym (found_at (is_name c.args.name.now) (fields_of c.args.names.now) c.loop-place.place c.loop-place.invariant here)

pub loop-place-preserved : goal.loop-place-preserved
loop-place-preserved c =
    let here : option_map_or (is_name c.args.name.now) (field_at (fields_of c.args.names.now) c.loop-place.place) false ≡ false = sym c.is_name_at.ensures ∙ c.if-is_name_at.false in
    rw (add-one c.loop-place.place) (none_more (is_name c.args.name.now) (fields_of c.args.names.now) c.loop-place.place c.loop-place.invariant here)

pub returns : goal.returns
returns c =
    let fields = fields_of c.args.names.now in
    let past : length fields ≤ c.loop-place.place = search rules in
    let all : list_any (is_name c.args.name.now) fields ≡ false = rw (take_all c.loop-place.place fields past) at c.loop-place.invariant in
    sym (none_found (is_name c.args.name.now) fields all)
