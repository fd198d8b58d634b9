use Rattle.std.proofs.Common.{◌≤◌, ℕ, List, map, length, sym, subst, arith}
use Rattle.kpn_formula.specs.declared.instruction.Instruction.{Instruction}
use Rattle.hox_formula.specs.declared.left_side.LeftSide.{LeftSide}
use Rattle.hox_formula.specs.Parsing.{naming}
use Rattle.hox_formula.specs.Formulas.{first_start}
use Rattle.hox_formula.specs.Compiling.{Opens}
use Rattle.hox_formula.proofs.Compiled.{compiled}
use Rattle.hox_formula.proofs.compiling.card_of_symbols.Goals as goal

pub returns-in-Ok : goal.returns-in-Ok
returns-in-Ok c =
    let names = naming c.in_ok-names.names in
    let lines = c.in_ok-names.lines in
    let code = c.in_ok-opening.opening.items in
    let read = c.in_ok-names.ensures.0 in
    let of_states : Opens code 0 (map (first_start c.deref-3.result.now) names.states) =
    subst (λ (states : List ℕ). Opens code 0 (map (first_start c.deref-3.result.now) states)) c.deref-2.ensures.value c.in_ok-opening.ensures in
    let of_heads : Opens code 0 (map (first_start lines.heads.items) names.states) =
    subst (λ (heads : List LeftSide). Opens code 0 (map (first_start heads) names.states)) c.deref-3.ensures.value of_states in
    let opens : Opens c.deref-6.result.now 0 (map (first_start lines.heads.items) names.states) =
    subst (λ (all : List Instruction). Opens all 0 (map (first_start lines.heads.items) names.states)) (sym c.deref-6.ensures.value) of_heads in
    let few : length names.states ≤ 6 = omega (arith, c.in_ok-names.names.few) in (
      names,
      read.lines,
      record { naming = c.in_ok-names.ensures.1; says = read.says },
      compiled names c.args.symbols.now lines read c.deref-5.result.now c.deref-6.result.now c.shape-shape.result c.in-Ok.card
          c.deref-5.ensures.value opens few (c.shape-shape.ensures read.lines read.words read.flags) c.in-Ok.ensures,
    )
