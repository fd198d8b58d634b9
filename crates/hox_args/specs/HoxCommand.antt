-- The command line: `hox check`, `hox run`, `hox draw` and `hox stream`, each on a FILE, with their options, and
-- `hox kinds` of a NAME.
use Rattle.std.specs.Prelude.{◌≡◌, false, true, ℕ, List, codes, Some}
use Rattle.clap.specs.Words.{App, Rule, new_app, new_rule, rule_of, with_rule, with_subcommand}
use Rattle.clap.specs.declared.builder.arg.Arg.{Arg}
use Rattle.kpn_args.specs.Command.{option_rule}
use Rattle.clap.specs.declared.builder.action.ArgAction.TheVariants.{Append, SetTrue}

-- the argument has this rule, and is not global
abbrev pub IsLocalArg : Rule → Arg → Type 0
IsLocalArg rule arg = (rule_of arg ≡ rule) × (arg.global ≡ false)

-- a repeatable option `--name VALUE`; and a flag `--name`
abbrev pub list_rule : List ℕ → Rule
list_rule name = record (new_rule name) { long = Some name; action = Some Append; value_names = 1 }

abbrev pub flag_rule : List ℕ → Rule
flag_rule name = record (new_rule name) { long = Some name; action = Some SetTrue }

abbrev pub tokens_rule : Rule
tokens_rule = list_rule (codes "tokens")

abbrev pub format_rule : Rule
format_rule = list_rule (codes "format")

abbrev pub show_rule : Rule
show_rule = list_rule (codes "show")

abbrev pub unsigned_rule : Rule
unsigned_rule = list_rule (codes "unsigned")

abbrev pub progress_rule : Rule
progress_rule = flag_rule (codes "progress")

-- options that have a short name of one letter too, `-o FILE` for `--out FILE`
abbrev pub out_rule : Rule
out_rule = record (list_rule (codes "out")) { short = Some 111 }

abbrev pub budget_rule : Rule
budget_rule = record (option_rule (codes "budget")) { short = Some 110 }

abbrev pub workers_rule : Rule
workers_rule = record (option_rule (codes "workers")) { short = Some 119 }

abbrev pub quiet_rule : Rule
quiet_rule = record (flag_rule (codes "quiet")) { short = Some 113 }

-- a positional argument, since it has no name of its own
abbrev pub positional_rule : List ℕ → Rule
positional_rule name = record (new_rule name) { value_names = 1 }

abbrev pub hox_file_rule : Rule
hox_file_rule = positional_rule (codes "file")

abbrev pub hox_check_command : App
hox_check_command =
    let files = with_rule (with_rule (new_app (codes "check")) tokens_rule) format_rule in
    with_rule (with_rule files (flag_rule (codes "expanded"))) hox_file_rule

-- `run` with its options on files and streams; also with those on the budget and workers; and with all
abbrev pub hox_run_streams : App
hox_run_streams =
    let files = with_rule (with_rule (new_app (codes "run")) tokens_rule) out_rule in
    with_rule (with_rule (with_rule files format_rule) show_rule) unsigned_rule

abbrev pub hox_run_bounds : App
hox_run_bounds = with_rule (with_rule hox_run_streams budget_rule) workers_rule

abbrev pub hox_run_command : App
hox_run_command =
    let shown = with_rule (with_rule hox_run_bounds progress_rule) (flag_rule (codes "json")) in
    with_rule (with_rule shown quiet_rule) hox_file_rule

-- `draw` with its flags; also with that on the workers; and with all its options
abbrev pub hox_draw_flags : App
hox_draw_flags = with_rule (with_rule (new_app (codes "draw")) (flag_rule (codes "run"))) (flag_rule (codes "down"))

abbrev pub hox_draw_bounds : App
hox_draw_bounds = with_rule hox_draw_flags workers_rule

abbrev pub hox_draw_command : App
hox_draw_command = with_rule (with_rule (with_rule hox_draw_bounds tokens_rule) format_rule) hox_file_rule

abbrev pub hox_stream_command : App
hox_stream_command =
    let files = with_rule (with_rule (new_app (codes "stream")) (list_rule (codes "in"))) out_rule in
    let shown = with_rule (with_rule (with_rule files format_rule) unsigned_rule) progress_rule in
    with_rule (with_rule (with_rule shown (flag_rule (codes "watch"))) quiet_rule) hox_file_rule

abbrev pub hox_kinds_command : App
hox_kinds_command = with_rule (new_app (codes "kinds")) (positional_rule (codes "name"))

-- the command line, with a version, and requiring a subcommand
abbrev pub requiring_subcommand : App → App
requiring_subcommand a = record a { top = record a.top { has_version = true; subcommand_required = true } }

-- it has a version, and requires a subcommand; `help SUBCOMMAND` is one
abbrev pub bare_hox : App
bare_hox = let a = new_app (codes "hox") in requiring_subcommand a

-- the command line with its first two subcommands, with four, and with all
abbrev pub hox_two : App
hox_two = with_subcommand (with_subcommand bare_hox hox_check_command.top) hox_run_command.top

abbrev pub hox_four : App
hox_four = with_subcommand (with_subcommand hox_two hox_draw_command.top) hox_stream_command.top

abbrev pub hox : App
hox = with_subcommand hox_four hox_kinds_command.top
