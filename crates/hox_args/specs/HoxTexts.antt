-- The user's text for a fault of the arguments.
use Rattle.std.specs.Prelude.{◌++◌, codes, decimal, Option, Some, None}
use Rattle.clap.specs.Words.{Text}
use Rattle.kpn_args.specs.declared.arguments.TheConstants.{MAX_WORKERS}
use Rattle.hox_args.specs.declared.arguments.WordsFault.{WordsFault}
use Rattle.hox_args.specs.declared.arguments.WordsFault.TheVariants.{Parser, Workers, Budget, Memory}

abbrev pub run_help_hint : Text
run_help_hint = codes "\n\nFor more information, try 'hox run --help'.\n"

-- written if the number of workers is refused
abbrev pub workers_text : Text
workers_text = codes "error: --workers takes a number from 1 to " ++ (decimal MAX_WORKERS ++ run_help_hint)

-- written if the budget is refused
abbrev pub budget_text : Text
budget_text = codes "error: --budget takes a number\n\nFor more information, try 'hox run --help'.\n"

-- the text, if it is not clap's own
abbrev pub text_of_hox_fault : WordsFault → Option Text
text_of_hox_fault (Parser e) = None
text_of_hox_fault Workers = Some workers_text
text_of_hox_fault Budget = Some budget_text
text_of_hox_fault Memory = Some (codes "error: out of memory\n")
