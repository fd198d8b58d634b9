use Rattle.std.proofs.Common.{rules}
use Rattle.kpn_args.proofs.Subcommands.{names_one_of, names_some}
use Rattle.kpn_args.proofs.arguments.read_words.Goals as goal

-- arguments that are accepted name `check` or `run`
pub unreachable-requires : goal.unreachable-requires
unreachable-requires c = search (rules, names_some)

pub choice_of-requires : goal.choice_of-requires
choice_of-requires c = search (rules, names_one_of)
