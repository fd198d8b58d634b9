-- What the text says of a budget, by the table that is read of it.
use Rattle.std.proofs.Common.{◌≡◌, ◌∙◌, sym, refl, rules}
use Rattle.hox_network.specs.Budgets.{says_budget}
use Rattle.hox_network.proofs.budget.with_greatest_budget.Goals as goal
use Rattle.hox_network.proofs.budget.with_greatest_budget.Goals.{in-Ok, in-Err+in_ok-says-in-Err}

pub returns-then-says : goal.returns-then-says
returns-then-says c =
    let says : c.match-table_from_slice.says ≡ says_budget c.args.text.now = elim c.match-table_from_slice.branch [ in-Ok w ↦ search rules | in-Err+in_ok-says-in-Err w ↦ search rules ] in
    rw (sym says ∙ c.if-says.true) refl

pub returns : goal.returns
returns c =
    let says : c.match-table_from_slice.says ≡ says_budget c.args.text.now = elim c.match-table_from_slice.branch [ in-Ok w ↦ search rules | in-Err+in_ok-says-in-Err w ↦ search rules ] in
    rw (sym says ∙ c.if-says.false) (search rules)
