-- The map of a table inserts where the members do.
use Rattle.std.proofs.Common.{refl}
use Rattle.kpn_builder.proofs.Tables.{members_insert}
use Rattle.kpn_builder.proofs.value.put.Goals as goal

pub returns-in-Ok : goal.returns-in-Ok
returns-in-Ok c = rw (c.in-Ok.ensures.entries, members_insert c.in_ok-key.key c.args.value c.args.table.now.entries, c.in_ok-key.ensures.ok) refl
