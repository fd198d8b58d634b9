-- The command line: `kpn check`, and `kpn run --workers N --show NAME`.
use Rattle.std.specs.Prelude.{true, ℕ, List, codes, Some}
use Rattle.clap.specs.Words.{App, Rule, new_app, new_rule, with_rule, with_subcommand}

-- an option `--name VALUE`
abbrev pub option_rule : List ℕ → Rule
option_rule name = record (new_rule name) { long = Some name; value_names = 1 }

abbrev pub check_command : App
check_command = new_app (codes "check")

abbrev pub run_command : App
run_command = with_rule (with_rule (new_app (codes "run")) (option_rule (codes "workers"))) (option_rule (codes "show"))

-- it has a version, requires a subcommand, and has none called `help`
abbrev pub bare_command : App
bare_command =
    let a = new_app (codes "kpn") in
    record a { top = record a.top { has_version = true; disable_help_subcommand = true; subcommand_required = true } }

abbrev pub kpn : App
kpn = with_subcommand (with_subcommand bare_command check_command.top) run_command.top
