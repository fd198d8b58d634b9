-- Each step adds its subcommand.
use Rattle.kpn_args.proofs.arguments.command.Goals as goal

pub returns : goal.returns
returns c = c.with_subcommand.ensures _ _ (c.with_subcommand-command.ensures _ _ c.bare_command.ensures c.check.ensures) c.run.ensures
