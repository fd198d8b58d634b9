-- What is admitted of a card is admitted of the card of its kind.
use Rattle.std.proofs.Common.{rules}
use Rattle.kpn_standard.specs.declared.kind.Kind.TheVariants.{Take, Weave, Switch}
use Rattle.kpn_standard.proofs.Laws.{admitted_by_kind}
use Rattle.kpn_standard.proofs.answers.answer.Goals as goal

pub take-requires : goal.take-requires
take-requires c = admitted_by_kind Take c.args.card _ _ (search rules) c.requires.admitted

pub weave-requires : goal.weave-requires
weave-requires c = admitted_by_kind Weave c.args.card _ _ (search rules) c.requires.admitted

pub switch-requires : goal.switch-requires
switch-requires c = admitted_by_kind Switch c.args.card _ _ (search rules) c.requires.admitted
