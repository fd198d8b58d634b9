use Rattle.std.proofs.Common.{rules}
use Rattle.hox_args.proofs.HoxSubcommands.{other_is}
use Rattle.hox_args.proofs.arguments.choice_of.Goals as goal

pub unreachable-requires : goal.unreachable-requires
unreachable-requires c = search (rules, other_is)
