-- The command line is one of those whose parse clap's clauses determine.
use Rattle.std.proofs.Common.{◌≡◌, true, map, subst}
use Rattle.clap.specs.Words.{App, FailsBy, fault_of, is_simple_and_free}
use Rattle.kpn_args.proofs.Subcommands.{is_simple, matches_by}
use Rattle.kpn_args.proofs.arguments.parse.Goals as goal

pub returns-clause-matches : goal.returns-clause-matches
returns-clause-matches c = matches_by _ _ _ c.in_ok-command.ensures c.try_get_matches_from.ensures.matches

pub returns-clause-kinds : goal.returns-clause-kinds
returns-clause-kinds c =
    subst (λ (a : App). is_simple_and_free a ≡ true → FailsBy (fault_of a (map (λ w. w.now) c.args.words.now)) c.try_get_matches_from.result) c.in_ok-command.ensures c.try_get_matches_from.ensures.kinds is_simple
