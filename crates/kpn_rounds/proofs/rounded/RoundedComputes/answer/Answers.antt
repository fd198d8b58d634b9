-- A step gets a copy of the card.
use Rattle.std.proofs.Common.{◌≡◌, ℕ, List, [], ◌∷◌, length, get_or, refl, ap, arith, rules}
use Rattle.kpn_model.specs.declared.kinds.Card.{Card}
use Rattle.kpn_rounds.proofs.rounded.RoundedComputes.answer.Goals as goal

abbrev with_args : ℕ → List ℕ → Card
with_args kind args = record { kind = kind; args = args }

three_items : (xs : List ℕ) → length xs ≡ 3 → (get_or xs 0 0 ∷ get_or xs 1 0 ∷ get_or xs 2 0 ∷ []) ≡ xs
three_items [] three = absurd (omega (arith, three))
three_items (x ∷ []) three = absurd (omega (arith, three))
three_items (x ∷ y ∷ []) three = absurd (omega (arith, three))
three_items (x ∷ y ∷ z ∷ []) three = refl
three_items (x ∷ y ∷ z ∷ u ∷ us) three = absurd (omega (arith, three))

pub returns-in-Steps : goal.returns-in-Steps
returns-in-Steps g c =
    let same = ap (with_args c.args.card.kind) (three_items c.args.card.args (omega arith)) in
    let step = rw same at c.step.ensures in
    search rules
