-- The text is read as the document of the sketch.
use Rattle.std.proofs.Common.{◌≡◌, true, rules, string_bytes}
use Rattle.std.proofs.lemmas.Str.{IsUtf8-string_bytes}
use Rattle.toml.specs.View.{table_view}
use Rattle.kpn_builder.specs.Written.{is_describable}
use Rattle.kpn_builder.proofs.ReadBack.{describes}
use Rattle.kpn_builder.proofs.text.to_toml.Goals as goal

pub returns-in-Ok-table_to_string-clause-text : goal.returns-in-Ok-table_to_string-clause-text
returns-in-Ok-table_to_string-clause-text c =
    let text = c.in-Ok-table_to_string.text in
    let yes : is_describable c.args.sketch.now ≡ true = search rules in
    describes (string_bytes text) (table_view c.in-Ok.table) c.args.sketch.now (IsUtf8-string_bytes text) c.in-Ok-table_to_string.ensures.reads_back c.in-Ok.ensures yes

pub returns-in-Ok-table_to_string-clause-version : goal.returns-in-Ok-table_to_string-clause-version
returns-in-Ok-table_to_string-clause-version c = search rules

pub returns-clause-version : goal.returns-clause-version
returns-clause-version c = search rules
