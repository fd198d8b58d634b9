-- What the arguments ask for, and why they are rejected.
use Rattle.std.specs.Prelude.{◌≡◌, ◌⊎◌, ◌<◌, ◌≤◌, ◌^◌, ℕ, Bool, false, codes, List, [], map, Option, Some, None, IfSome, Result, IfOk, IfErr, if◌then◌else◌, option_map, unwrap_or, ◌==◌, length}
use Rattle.std.specs.List.{after_first, before_first, position_or_len}
use Rattle.std.specs.Option.{option_map_or}
use Rattle.std.specs.Str.{bytes_eq}
use Rattle.std.specs.Str.Parse.{IsNumeral, digits_value, without_leading_plus}
use Rattle.clap.specs.Words.{HasKind, Row, Text, all_of, fault_of, first_of, kind_of, subcommand_of}
use Rattle.kpn_args.specs.Choices.{IsRefusedWorkers, WorkersFrom, is_text_asked_for}
use Rattle.kpn_picture.specs.declared.looks.Direction.TheVariants.{Right, Down}
use Rattle.hox_args.specs.declared.arguments.RunChoice.{RunChoice}
use Rattle.hox_args.specs.declared.arguments.CheckChoice.{CheckChoice}
use Rattle.hox_args.specs.declared.arguments.DrawChoice.{DrawChoice}
use Rattle.hox_args.specs.declared.arguments.StreamChoice.{StreamChoice}
use Rattle.hox_args.specs.declared.arguments.KindsChoice.{KindsChoice}
use Rattle.hox_args.specs.declared.arguments.Choice.{Choice}
use Rattle.hox_args.specs.declared.arguments.Choice.TheVariants.{Check, Run, Draw, Stream, Kinds}
use Rattle.hox_args.specs.declared.arguments.WordsFault.{WordsFault}
use Rattle.hox_args.specs.declared.arguments.WordsFault.TheVariants.{Parser, Workers, Budget, Memory}
use Rattle.hox_args.specs.HoxCommand.{hox}

abbrev pub is_equal_sign : ℕ → Bool
is_equal_sign b = b == 61

-- the place of the first `=`, or the text's length
abbrev pub equals_place : Text → ℕ
equals_place text = position_or_len is_equal_sign text

abbrev pub before_equals : Text → Text
before_equals text = before_first is_equal_sign text

abbrev pub after_equals : Text → Text
after_equals text = after_first is_equal_sign text

abbrev pub LacksEquals : Text → Type 0
LacksEquals text = equals_place text ≡ length text

-- the first `=` of the text stands between these
abbrev pub SplitsAtEquals : Text → Text → Text → Type 0
SplitsAtEquals text channel file =
    (channel ≡ before_equals text) × (file ≡ after_equals text) × (equals_place text < length text)

-- the digits of a number, after its plus sign if it has one
abbrev pub number_digits : Text → Text
number_digits text = without_leading_plus text

-- the text is a number of 64 bits
abbrev pub ReadsNumber : Text → ℕ → Type 0
ReadsNumber text n = IsNumeral 10 (number_digits text) × (digits_value 10 (number_digits text) ≡ n) × (n < 2 ^ 64)

abbrev pub IsNumber : Text → Option ℕ → Type 0
IsNumber text (Some n) = ReadsNumber text n
IsNumber text None = (n : ℕ) → ReadsNumber text n → ⊥

-- the budget of a text, if there is a text
abbrev pub BudgetFrom : Option Text → Option ℕ → Type 0
BudgetFrom None budget = budget ≡ None
BudgetFrom (Some text) None = ⊥
BudgetFrom (Some text) (Some n) = ReadsNumber text n

abbrev pub IsRefusedBudget : Option Text → Type 0
IsRefusedBudget None = ⊥
IsRefusedBudget (Some text) = IsNumber text None

-- the budget's text is refused, with this fault
abbrev pub IsBudgetFault : Option Text → WordsFault → Type 0
IsBudgetFault text fault = (fault ≡ Budget) × IsRefusedBudget text

abbrev pub texts_of : Text → List Row → List Text
texts_of id rows = unwrap_or (all_of id rows) []

abbrev pub is_given : Text → List Row → Bool
is_given id rows = option_map_or (λ t. bytes_eq t (codes "true")) (first_of id rows) false

pub record IsCheckOf (rows : List Row) (check : CheckChoice) : Type 0 where
  pub file : option_map (λ s. s.now) check.file ≡ first_of (codes "file") rows
  pub tokens : map (λ s. s.now) check.tokens.items ≡ texts_of (codes "tokens") rows
  pub formats : map (λ s. s.now) check.formats.items ≡ texts_of (codes "format") rows
  pub expanded : check.expanded ≡ is_given (codes "expanded") rows

pub record IsRunOf (rows : List Row) (run : RunChoice) : Type 0 where
  pub file : option_map (λ s. s.now) run.file ≡ first_of (codes "file") rows
  pub tokens : map (λ s. s.now) run.tokens.items ≡ texts_of (codes "tokens") rows
  pub outputs : map (λ s. s.now) run.outputs.items ≡ texts_of (codes "out") rows
  pub formats : map (λ s. s.now) run.formats.items ≡ texts_of (codes "format") rows
  pub show : map (λ s. s.now) run.show.items ≡ texts_of (codes "show") rows
  pub unsigned : map (λ s. s.now) run.unsigned.items ≡ texts_of (codes "unsigned") rows
  pub budget : BudgetFrom (first_of (codes "budget") rows) run.budget
  pub workers : WorkersFrom (first_of (codes "workers") rows) run.workers
  pub progress : run.progress ≡ is_given (codes "progress") rows
  pub json : run.json ≡ is_given (codes "json") rows
  pub quiet : run.quiet ≡ is_given (codes "quiet") rows

-- the number of workers is parsed in any case, and used if there is a run
pub record IsDrawOf (rows : List Row) (draw : DrawChoice) : Type 0 where
  pub file : option_map (λ s. s.now) draw.file ≡ first_of (codes "file") rows
  pub tokens : map (λ s. s.now) draw.tokens.items ≡ texts_of (codes "tokens") rows
  pub formats : map (λ s. s.now) draw.formats.items ≡ texts_of (codes "format") rows
  pub direction : draw.direction ≡ (if is_given (codes "down") rows then Down else Right)
  pub count : ℕ
  pub read : WorkersFrom (first_of (codes "workers") rows) count
  pub workers : draw.workers ≡ (if is_given (codes "run") rows then Some count else None)

pub record IsStreamOf (rows : List Row) (stream : StreamChoice) : Type 0 where
  pub file : option_map (λ s. s.now) stream.file ≡ first_of (codes "file") rows
  pub inputs : map (λ s. s.now) stream.inputs.items ≡ texts_of (codes "in") rows
  pub outputs : map (λ s. s.now) stream.outputs.items ≡ texts_of (codes "out") rows
  pub formats : map (λ s. s.now) stream.formats.items ≡ texts_of (codes "format") rows
  pub unsigned : map (λ s. s.now) stream.unsigned.items ≡ texts_of (codes "unsigned") rows
  pub progress : stream.progress ≡ is_given (codes "progress") rows
  pub watch : stream.watch ≡ is_given (codes "watch") rows
  pub quiet : stream.quiet ≡ is_given (codes "quiet") rows

pub record IsKindsOf (rows : List Row) (kinds : KindsChoice) : Type 0 where
  pub name : option_map (λ s. s.now) kinds.name ≡ first_of (codes "name") rows

-- the choice is that of a subcommand and its entries
abbrev pub IsHoxChoiceOf : Option (Text × List Row) → Choice → Type 0
IsHoxChoiceOf None choice = ⊥
IsHoxChoiceOf (Some p) (Check check) = (p.0 ≡ codes "check") × IsCheckOf p.1 check
IsHoxChoiceOf (Some p) (Run run) = (p.0 ≡ codes "run") × IsRunOf p.1 run
IsHoxChoiceOf (Some p) (Draw draw) = (p.0 ≡ codes "draw") × IsDrawOf p.1 draw
IsHoxChoiceOf (Some p) (Stream stream) = (p.0 ≡ codes "stream") × IsStreamOf p.1 stream
IsHoxChoiceOf (Some p) (Kinds kinds) = (p.0 ≡ codes "kinds") × IsKindsOf p.1 kinds

-- a run has 1 to 16 workers
abbrev pub HasFewHoxWorkers : Choice → Type 0
HasFewHoxWorkers (Check check) = Unit {0}
HasFewHoxWorkers (Run run) = (1 ≤ run.workers) × (run.workers ≤ 16)
HasFewHoxWorkers (Draw draw) = IfSome draw.workers (λ n. (1 ≤ n) × (n ≤ 16))
HasFewHoxWorkers (Stream stream) = Unit {0}
HasFewHoxWorkers (Kinds kinds) = Unit {0}

-- the last three of the subcommands
abbrev pub IsLaterSubcommand : Text → Type 0
IsLaterSubcommand name = (name ≡ codes "draw") ⊎ ((name ≡ codes "stream") ⊎ (name ≡ codes "kinds"))

abbrev pub IsSubcommand : Text → Type 0
IsSubcommand name = (name ≡ codes "check") ⊎ ((name ≡ codes "run") ⊎ IsLaterSubcommand name)

-- the command line accepts the arguments
abbrev pub AreHoxTaken : List Text → Type 0
AreHoxTaken words = fault_of hox words ≡ []

abbrev pub IsHoxChoice : List Text → Choice → Type 0
IsHoxChoice words choice = AreHoxTaken words × IsHoxChoiceOf (subcommand_of hox words) choice

-- the text of `--workers` is no number of workers, or that of `--budget` no number; or out of memory
abbrev pub IsRunFault : List Row → WordsFault → Type 0
IsRunFault rows (Parser e) = ⊥
IsRunFault rows Workers = IsRefusedWorkers (first_of (codes "workers") rows)
IsRunFault rows Budget = IsRefusedBudget (first_of (codes "budget") rows)
IsRunFault rows Memory = Unit {0}

-- the choice that the entries of this subcommand make, or why they make none
pub record GivesChoice (name : Text) (rows : List Row) (result : Result Choice WordsFault) : Type 0 where
  pub ok : IfOk result (IsHoxChoiceOf (Some (name, rows)))
  pub fault : IfErr result (IsRunFault rows)

abbrev pub IsFaultIn : Option (Text × List Row) → WordsFault → Type 0
IsFaultIn None fault = ⊥
IsFaultIn (Some p) fault = IsRunFault p.1 fault

-- the command line rejects the arguments with this kind of error; or out of memory; or it accepts them, and
-- rejects the text of an option
abbrev pub IsHoxFault : List Text → WordsFault → Type 0
IsHoxFault words (Parser e) = HasKind (fault_of hox words) e
IsHoxFault words Memory = Unit {0}
IsHoxFault words fault = AreHoxTaken words × IsFaultIn (subcommand_of hox words) fault

-- the arguments ask for help or the version
abbrev pub asks_for_hox_help : WordsFault → Bool
asks_for_hox_help (Parser e) = is_text_asked_for (kind_of e)
asks_for_hox_help _ = false
