-- Without the range of a card the law of ports fails.
use Rattle.test_laws.proofs.ParksCase.{no_law_of_any_card}
use Rattle.test_laws.proofs.premises.standard_kinds_are_lawful.Goals as goal

pub returns-clause-any_card : goal.returns-clause-any_card
returns-clause-any_card c = no_law_of_any_card
