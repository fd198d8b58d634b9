use Rattle.std.proofs.Common.{rules}
use Rattle.hox_args.proofs.HoxSubcommands.{names_one_of, names_some}
use Rattle.hox_args.proofs.arguments.read_words.Goals as goal

-- arguments that are accepted name `check`, `run`, `draw` or `stream`
pub unreachable-requires : goal.unreachable-requires
unreachable-requires c = search (rules, names_some)

pub choice_of-requires : goal.choice_of-requires
choice_of-requires c = search (rules, names_one_of)
