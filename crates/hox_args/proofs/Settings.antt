-- What the settings of the command line leave of it.
use Rattle.std.proofs.Common.{◌≡◌, true, List, ℕ, Some, Bor, ap, ◌∙◌}
use Rattle.clap.specs.Simple.{App, app_of_fields}
use Rattle.clap.specs.declared.builder.command.Command.{Command}
use Rattle.clap.specs.declared.builder.command.Command.TheOpen.{Command-F}

-- it has a version, and wants a subcommand
abbrev pub with_settings : App → App
with_settings a = record a { top = record a.top { has_version = true; subcommand_required = true } }

-- texts for the help are not read by a parse
pub settings_are : (new told helped named asked : Command-F Command) (about after_help version : Bor (List ℕ))
    → told ≡ record new { about = Some about } → helped ≡ record told { after_help = Some after_help } → named ≡ record helped { version = Some version }
    → asked ≡ record named { subcommand_required = true } → app_of_fields asked ≡ with_settings (app_of_fields new)
settings_are new told helped named asked about after_help version e1 e2 e3 e4 =
    let by_help : helped ≡ record new { about = Some about; after_help = Some after_help } = e2 ∙ ap (λ (f : Command-F Command). record f { after_help = Some after_help }) e1 in
    let by_version : named ≡ record new { about = Some about; after_help = Some after_help; version = Some version } = e3 ∙ ap (λ (f : Command-F Command). record f { version = Some version }) by_help in
    ap app_of_fields (e4 ∙ ap (λ (f : Command-F Command). record f { subcommand_required = true }) by_version)
