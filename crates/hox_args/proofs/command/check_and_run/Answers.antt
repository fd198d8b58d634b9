-- Each step adds its subcommand.
use Rattle.hox_args.proofs.command.check_and_run.Goals as goal

pub returns : goal.returns
returns c = c.with_subcommand.ensures _ _ (c.with_subcommand-command.ensures _ _ c.bare_hox.ensures c.check.ensures) c.run.ensures
