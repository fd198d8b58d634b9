use Rattle.kpn_args.proofs.CommandEntries.{rows_of_pair}
use Rattle.kpn_args.proofs.entries.subcommand_in.Goals as goal

pub returns : goal.returns
returns c = rows_of_pair c.subcommand.result _ c.subcommand.ensures.name c.subcommand.ensures.rows
