-- The channel that is read from a table, if it has only the keys of its version, is the channel of that table.
use Rattle.std.proofs.Common.{rules, ◌≡◌, true, Some}
use Rattle.toml.specs.Data.{as_table}
use Rattle.toml.specs.View.{view, table_view}
use Rattle.kpn_sketch.specs.Form.{has_only}
use Rattle.kpn_sketch.specs.Description.{channel_keys}
use Rattle.kpn_sketch.proofs.read.ChannelSketchTomlForm.read.Goals as goal

pub returns-in-Some : goal.returns-in-Some
returns-in-Some c =
    let found : as_table (view c.args.value.now) ≡ Some (table_view c.in-Some.table.now) = search rules in
    let known : has_only (channel_keys c.args.reading) (table_view c.in-Some.table.now) ≡ true = search rules in
    rw (found, known) c.channel_from.ensures
