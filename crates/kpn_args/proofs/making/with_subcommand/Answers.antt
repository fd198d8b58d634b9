use Rattle.std.proofs.Common.{subst}
use Rattle.kpn_args.proofs.Added.{subcommand_added}
use Rattle.kpn_args.specs.Made.{Makes, MakesLocal}
use Rattle.kpn_args.proofs.making.with_subcommand.Goals as goal

pub returns : goal.returns
returns c app below made local =
    subcommand_added _ _ c.subcommand.result app below c.subcommand.ensures (subst (Makes app) c.in_ok-command.was made) (subst (MakesLocal below) c.in_ok-subcommand.was local)
