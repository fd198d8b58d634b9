-- Each step adds its subcommand.
use Rattle.hox_args.proofs.command.commands_on_files.Goals as goal

pub returns : goal.returns
returns c = c.with_subcommand.ensures _ _ (c.with_subcommand-command.ensures _ _ c.check_and_run.ensures c.draw.ensures) c.stream.ensures
