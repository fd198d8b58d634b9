-- The subcommand of a parse, with its entries.
use Rattle.std.proofs.Common.{◌≡◌, Option, Some, None, option_map, Bor, refl}
use Rattle.std.specs.Box.{box_value}
use Rattle.std.specs.Prelude.{Box}
use Rattle.clap.specs.Words.{Text, found_of, rows_of, subcommand_rows}
use Rattle.clap.specs.declared.parser.matches.ArgMatches.{ArgMatches}
use Rattle.clap.specs.declared.parser.matches.ArgMatches.TheViews.{out-SubCommand}
use Rattle.clap.specs.declared.parser.matches.SubCommand.{SubCommand}

module _ {Z : Type 0} where
  -- a subcommand's name and its entries, each known, are known together
  pub rows_of_pair : (r : Option (Bor Text × Bor ArgMatches)) (s : Option (Box SubCommand Z))
      → option_map (λ p. p.0.now) r ≡ option_map (λ b. (out-SubCommand (box_value b)).name.now) s
      → option_map (λ p. rows_of (found_of p.1.now)) r ≡ option_map (λ p. p.1) (subcommand_rows s)
      → option_map (λ p. (p.0.now, rows_of (found_of p.1.now))) r ≡ subcommand_rows s
  rows_of_pair None None name rows = refl
  rows_of_pair None (Some b) name rows = cc
  rows_of_pair (Some p) None name rows = cc
  rows_of_pair (Some p) (Some b) name rows = cc
