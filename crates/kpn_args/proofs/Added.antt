-- A command with one argument more, or one subcommand.
use Rattle.std.proofs.Common.{◌≡◌, ◌||◌, false, Result, Ok, Err, IfOk, refl, ap, ◌∙◌}
use Rattle.clap.specs.Words.{AddsArg, AddsSubcommand, App, Rule, app_of, rule_of, with_rule, with_subcommand}
use Rattle.clap.specs.declared.builder.arg.Arg.{Arg}
use Rattle.clap.specs.declared.builder.command.Command.{Command}
use Rattle.clap.specs.declared.builder.command.Command.TheViews.{out-Command}
use Rattle.kpn_args.specs.Made.{IsLocal, Makes, MakesLocal}

-- an argument that is not global is a rule more, and there is no global one then, if there was none
pub arg_added : {E : Type 0} (old : Command) (arg : Arg) (r : Result Command E) (app : App) (rule : Rule) → arg.global ≡ false → IfOk r (AddsArg old arg)
    → IsLocal app old → rule_of arg ≡ rule → MakesLocal (with_rule app rule) r
arg_added old arg (Ok c) app rule local adds made is =
    let none : ((out-Command old).has_globals || arg.global) ≡ false = rw (made.1, local) refl in
    let same : with_rule (app_of old) (rule_of arg) ≡ with_rule app rule = ap (λ (a : App). with_rule a (rule_of arg)) made.0 ∙ ap (with_rule app) is in
    (adds.shape local ∙ same, adds.globals ∙ none)
arg_added old arg (Err e) app rule local adds made is = tt

-- a subcommand none of whose arguments is global is a part more
pub subcommand_added : {E : Type 0} (old sub : Command) (r : Result Command E) (app below : App) → IfOk r (AddsSubcommand old sub)
    → app_of old ≡ app → IsLocal below sub → Makes (with_subcommand app below.top) r
subcommand_added old sub (Ok c) app below adds made local =
    let same : with_subcommand (app_of old) (app_of sub).top ≡ with_subcommand app below.top =
    ap (λ (a : App). with_subcommand a (app_of sub).top) made ∙ ap (λ (b : App). with_subcommand app b.top) local.0 in
    adds.shape local.1 ∙ same
subcommand_added old sub (Err e) app below adds made local = tt
