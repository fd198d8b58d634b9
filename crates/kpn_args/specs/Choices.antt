-- What the arguments ask for, and why they are refused.
use Rattle.std.specs.Prelude.{◌≡◌, ◌≤◌, ◌++◌, ℕ, decimal, Bool, true, false, codes, List, [], Option, Some, None, option_map}
use Rattle.std.specs.Str.Parse.{IsNumeral, digits_value, without_leading_plus}
use Rattle.clap.specs.Words.{HasKind, Row, Text, fault_of, first_of, kind_of, subcommand_of}
use Rattle.clap.specs.declared.error.kind.ErrorKind.{ErrorKind}
use Rattle.clap.specs.declared.error.kind.ErrorKind.TheVariants.{DisplayHelp, DisplayVersion}
use Rattle.kpn_args.specs.declared.arguments.TheConstants.{MAX_WORKERS}
use Rattle.kpn_args.specs.declared.arguments.Choice.{Choice}
use Rattle.kpn_args.specs.declared.arguments.Choice.TheVariants.{Check, Run}
use Rattle.kpn_args.specs.declared.arguments.WordsFault.{WordsFault}
use Rattle.kpn_args.specs.declared.arguments.WordsFault.TheVariants.{Parser, Workers}
use Rattle.kpn_args.specs.Command.{kpn}

-- the digits of the text say this number
abbrev pub HasValue : Text → ℕ → Type 0
HasValue text n = digits_value 10 (without_leading_plus text) ≡ n

-- the text is read as this number of workers
abbrev pub ReadsWorkers : Text → ℕ → Type 0
ReadsWorkers text n = IsNumeral 10 (without_leading_plus text) × HasValue text n × (1 ≤ n) × (n ≤ MAX_WORKERS)

abbrev pub IsWorkers : Text → Option ℕ → Type 0
IsWorkers text (Some n) = ReadsWorkers text n
IsWorkers text None = (n : ℕ) → ReadsWorkers text n → ⊥

-- the number of workers that the text asks for; 1 if there is no text
abbrev pub WorkersFrom : Option Text → ℕ → Type 0
WorkersFrom None n = n ≡ 1
WorkersFrom (Some text) n = ReadsWorkers text n

-- there is a text, and it is no number of workers
abbrev pub IsRefusedWorkers : Option Text → Type 0
IsRefusedWorkers None = ⊥
IsRefusedWorkers (Some text) = IsWorkers text None

-- the number of workers that the entries ask for
abbrev pub AsksForWorkers : List Row → ℕ → Type 0
AsksForWorkers rows workers = WorkersFrom (first_of (codes "workers") rows) workers

-- the choice is what a command and its entries ask for
abbrev pub IsChoiceOf : Option (Text × List Row) → Choice → Type 0
IsChoiceOf None choice = ⊥
IsChoiceOf (Some p) Check = p.0 ≡ codes "check"
IsChoiceOf (Some p) (Run workers show) =
    (p.0 ≡ codes "run") × AsksForWorkers p.1 workers × (option_map (λ s. s.now) show ≡ first_of (codes "show") p.1)

abbrev pub HasFewWorkers : Choice → Type 0
HasFewWorkers Check = Unit {0}
HasFewWorkers (Run workers show) = (1 ≤ workers) × (workers ≤ MAX_WORKERS)

-- the text of `--workers` is no number of workers
abbrev pub HasRefusedWorkers : Option (Text × List Row) → Type 0
HasRefusedWorkers None = ⊥
HasRefusedWorkers (Some p) = IsRefusedWorkers (first_of (codes "workers") p.1)

-- the fault is that the text of `--workers` in the entries is no number of workers
abbrev pub RefusesWorkers : List Row → WordsFault → Type 0
RefusesWorkers rows e = (e ≡ Workers) × IsRefusedWorkers (first_of (codes "workers") rows)

-- the command line accepts the arguments
abbrev pub AreTaken : List Text → Type 0
AreTaken words = fault_of kpn words ≡ []

abbrev pub IsChoice : List Text → Choice → Type 0
IsChoice words choice = AreTaken words × IsChoiceOf (subcommand_of kpn words) choice

-- the command line refuses the arguments with this kind of error, or out of memory; or the text of
-- `--workers` is no number of workers
abbrev pub IsWordsFault : List Text → WordsFault → Type 0
IsWordsFault words (Parser e) = HasKind (fault_of kpn words) e
IsWordsFault words Workers = AreTaken words × HasRefusedWorkers (subcommand_of kpn words)

abbrev pub is_text_asked_for : ErrorKind → Bool
is_text_asked_for DisplayHelp = true
is_text_asked_for DisplayVersion = true
is_text_asked_for _ = false

abbrev pub asks_for_help : WordsFault → Bool
asks_for_help (Parser e) = is_text_asked_for (kind_of e)
asks_for_help Workers = false

-- where the user finds more
abbrev pub run_help_hint : Text
run_help_hint = codes "\n\nFor more information, try 'kpn run --help'.\n"

-- the text for the user, if it is not clap's own
abbrev pub text_of : WordsFault → Option Text
text_of (Parser e) = None
text_of Workers = Some (codes "error: --workers takes a number from 1 to " ++ (decimal MAX_WORKERS ++ run_help_hint))
