-- The process has the card, by the name of its kind.
use Rattle.std.proofs.Common.{◌≡◌, [], refl, arith}
use Rattle.std.proofs.lemmas.Grind.{common_steps}
use Rattle.hox_formula.specs.Texts.{IsCardOfText}
use Rattle.hox_network.specs.Formulas.{formula}
use Rattle.hox_network.proofs.formulas.written.Goals as goal

pub returns : goal.returns
returns c =
    let means : IsCardOfText c.args.process.kind c.in-Ok.card = grind (arith, common_steps) in
    let none : c.args.process.args ≡ [] = grind (arith, common_steps) in
    formula c.in-Ok.card means none (rw (c.in_ok-kind.ensures, c.new-args.ensures, c.in_ok-from_slice.ensures.items, c.in-Some.ensures) refl)
