-- Each step adds its subcommand.
use Rattle.hox_args.proofs.command.command_line.Goals as goal

pub returns : goal.returns
returns c = c.with_subcommand.ensures _ _ c.commands_on_files.ensures c.kinds.ensures
