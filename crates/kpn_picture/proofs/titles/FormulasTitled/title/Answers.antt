-- The name with the kind's number means the kind.
use Rattle.kpn_picture.proofs.FormulaTitles.{formula_named}
use Rattle.kpn_picture.proofs.titles.FormulasTitled.title.Goals as goal

pub returns-clause-named : goal.returns-clause-named
returns-clause-named c = λ whole. formula_named c.args.card.now c.formula_title.ensures.small c.requires
