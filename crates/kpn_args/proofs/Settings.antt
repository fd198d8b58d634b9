-- What the settings of a command line leave of it.
use Rattle.std.proofs.Common.{◌≡◌, ℕ, true, List, Some, Bor, ap, ◌∙◌}
use Rattle.clap.specs.Simple.{App, app_of_fields}
use Rattle.clap.specs.declared.builder.command.Command.{Command}
use Rattle.clap.specs.declared.builder.command.Command.TheOpen.{Command-F}

-- it has a version, wants a subcommand, and has none called `help`
abbrev pub with_settings : App → App
with_settings a = record a { top = record a.top { has_version = true; disable_help_subcommand = true; subcommand_required = true } }

-- texts for the help are not read by a parse
pub settings_are : (new told helped named bare asked : Command-F Command) (about after_help version : Bor (List ℕ))
    → told ≡ record new { about = Some about } → helped ≡ record told { after_help = Some after_help } → named ≡ record helped { version = Some version }
    → bare ≡ record named { disable_help_subcommand = true } → asked ≡ record bare { subcommand_required = true }
    → app_of_fields asked ≡ with_settings (app_of_fields new)
settings_are new told helped named bare asked about after_help version e1 e2 e3 e4 e5 =
    let by_help : helped ≡ record new { about = Some about; after_help = Some after_help } = e2 ∙ ap (λ (f : Command-F Command). record f { after_help = Some after_help }) e1 in
    let by_version : named ≡ record new { about = Some about; after_help = Some after_help; version = Some version } = e3 ∙ ap (λ (f : Command-F Command). record f { version = Some version }) by_help in
    let whole = e5 ∙ ap (λ (f : Command-F Command). record f { subcommand_required = true }) (e4 ∙ ap (λ (f : Command-F Command). record f { disable_help_subcommand = true }) by_version) in
    ap app_of_fields whole
