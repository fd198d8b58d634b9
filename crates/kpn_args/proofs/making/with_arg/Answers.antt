use Rattle.std.proofs.Common.{subst}
use Rattle.kpn_args.proofs.Added.{arg_added}
use Rattle.kpn_args.specs.Made.{MakesLocal}
use Rattle.kpn_args.proofs.making.with_arg.Goals as goal

pub returns : goal.returns
returns c app rule made is = arg_added _ _ c.arg.result app rule c.requires c.arg.ensures (subst (MakesLocal app) c.in_ok-command.was made) is
