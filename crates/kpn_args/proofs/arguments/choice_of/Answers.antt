use Rattle.std.proofs.Common.{rules}
use Rattle.kpn_args.proofs.Subcommands.{other_is}
use Rattle.kpn_args.proofs.arguments.choice_of.Goals as goal

pub unreachable-requires : goal.unreachable-requires
unreachable-requires c = search (rules, other_is)

pub returns-in-check-clause-workers : goal.returns-in-check-clause-workers
returns-in-check-clause-workers c = search rules

pub returns-in-check-clause-ok : goal.returns-in-check-clause-ok
returns-in-check-clause-ok c = search rules
