-- A command line made one argument or subcommand at a time.
use Rattle.std.specs.Prelude.{◌≡◌, IfOk, Result, false}
use Rattle.clap.specs.Words.{App, Rule, app_of, with_rule, with_subcommand}
use Rattle.clap.specs.declared.builder.command.Command.{Command}
use Rattle.clap.specs.declared.builder.command.Command.TheViews.{out-Command}

-- the command has this form, and no global argument
abbrev pub IsLocal : App → Command → Type 0
IsLocal app c = (app_of c ≡ app) × ((out-Command c).has_globals ≡ false)

-- the command has this form, unless out of memory
abbrev pub Makes : {E : Type 0} → App → Result Command E → Type 0
Makes app made = IfOk made (λ c. app_of c ≡ app)

-- the command has this form and no global argument, unless out of memory
abbrev pub MakesLocal : {E : Type 0} → App → Result Command E → Type 0
MakesLocal app made = IfOk made (IsLocal app)

-- to a command of some form the rule is added
abbrev pub AddsRule : {E F : Type 0} → Result Command E → Rule → Result Command F → Type 0
AddsRule command given result =
    (app : App) (rule : Rule) → MakesLocal app command → given ≡ rule → MakesLocal (with_rule app rule) result

-- to a command of some form the subcommand is added
abbrev pub AddsSubcommand : {E F G : Type 0} → Result Command E → Result Command F → Result Command G → Type 0
AddsSubcommand command subcommand result =
    (app below : App) → Makes app command → MakesLocal below subcommand → Makes (with_subcommand app below.top) result
