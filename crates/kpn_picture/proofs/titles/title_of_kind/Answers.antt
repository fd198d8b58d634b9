-- Found without an answer too; with it a wrong body is refused at once.
use Rattle.std.proofs.Common.{rules}
use Rattle.kpn_picture.proofs.titles.title_of_kind.Goals as goal

pub returns-clause-name : goal.returns-clause-name
returns-clause-name c = search rules

pub returns-clause-means : goal.returns-clause-means
returns-clause-means c = search rules

pub returns-clause-arity : goal.returns-clause-arity
returns-clause-arity c = search rules
