use Rattle.std.proofs.Common.{ap, ◌∙◌}
use Rattle.clap.specs.declared.builder.command.Command.TheViews.{out-Command}
use Rattle.hox_args.proofs.Settings.{settings_are, with_settings}
use Rattle.hox_args.proofs.command.bare_hox.Goals as goal

pub returns : goal.returns
returns c =
    settings_are (out-Command c.new.result) (out-Command c.about.result) (out-Command c.after_help.result) (out-Command c.version.result) (out-Command c.subcommand_required.result) _ _ _
    c.about.ensures c.after_help.ensures c.version.ensures c.subcommand_required.ensures
    ∙ ap with_settings c.new.ensures.app
