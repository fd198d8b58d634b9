use Rattle.std.proofs.Common.{◌≡◌, ◌∙◌, List, map, ap}
use Rattle.hox_formula.specs.declared.left_side.LeftSide.{LeftSide}
use Rattle.hox_formula.specs.Parsing.{naming}
use Rattle.hox_formula.specs.Formulas.{target_of}
use Rattle.hox_formula.proofs.Compiled.{named_by}
use Rattle.hox_formula.proofs.compiling.formula_of.Goals as goal

pub returns : goal.returns
returns c =
    let same : naming c.in_ok-guessed.guessed ≡ naming c.in_ok-names.names = c.are_same.ensures c.if-not-are_same.false in
    let targets_are : c.deref-3.result.now ≡ map target_of c.in_ok-lines.lines.heads.items =
    c.deref-3.ensures.value ∙ c.in_ok-targets.ensures ∙ ap (λ (hs : List LeftSide). map target_of hs) c.deref-2.ensures.value in
    let read = c.in_ok-lines.ensures in
    (read, named_by (naming c.in_ok-guessed.guessed) (naming c.in_ok-names.names) c.args.symbols.now c.deref-3.result.now c.in_ok-lines.lines.heads.items read.lines same c.in_ok-names.ensures targets_are read.heads)
