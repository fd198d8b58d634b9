-- Each step adds its argument.
use Rattle.kpn_args.proofs.arguments.run.Goals as goal

pub returns : goal.returns
returns c = c.with_arg.ensures _ _ (c.with_arg-run.ensures _ _ c.bare.ensures c.option.ensures.rule) c.option-2.ensures.rule
