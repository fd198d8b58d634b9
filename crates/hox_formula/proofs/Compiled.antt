-- What a compiled card means.
use Rattle.std.proofs.Common.{◌≡◌, ◌∙◌, ℕ, suc, ◌+◌, ◌-◌, ◌≤◌, List, [], ◌∷◌, ◌++◌, Some, map, length, refl, sym, ap, subst, arith}
use Rattle.std.specs.Prelude.{replicate}
use Rattle.kpn_model.specs.declared.kinds.Card.{Card}
use Rattle.kpn_formula.specs.declared.instruction.Instruction.{Instruction}
use Rattle.kpn_formula.specs.declared.shape.Shape.{Shape}
use Rattle.kpn_formula.specs.Programs.{Working, values_after}
use Rattle.kpn_formula.specs.Encoding.{IsCardOf}
use Rattle.hox_formula.specs.declared.left_side.LeftSide.{LeftSide}
use Rattle.hox_formula.specs.declared.symbol.Symbol.{Symbol}
use Rattle.hox_formula.specs.declared.lines.Lines.{Lines}
use Rattle.hox_formula.specs.Grammar.{Naming}
use Rattle.hox_formula.specs.Formulas.{Line, after, head_of, target_of, first_start, in_sort, out_sort, each_port, IsNaming, IsCompiled}
use Rattle.hox_formula.specs.Collecting.{Performs, LinesRead}
use Rattle.hox_formula.specs.Compiling.{Opens}

nothing_behind : (xs : List Instruction) → xs ++ [] ≡ xs
nothing_behind [] = refl
nothing_behind (x ∷ xs) = ap (λ (ys : List Instruction). x ∷ ys) (nothing_behind xs)

many : (f : ℕ → ℕ) (xs : List ℕ) → length (map f xs) ≡ length xs
many f [] = refl
many f (x ∷ xs) = ap (λ (n : ℕ). suc n) (many f xs)

performed : (code : List Instruction) (lines : List Line) → Performs code lines → (vs : List ℕ) → values_after code vs ≡ after lines vs
performed code lines performs vs = ap (λ (c : List Instruction). values_after c vs) (sym (nothing_behind code)) ∙ ap (λ (w : Working). w.values) (performs [] vs)

opened : (code : List Instruction) (starts : List ℕ) (n : ℕ) → length starts ≡ n → n ≤ 6 → Opens code 0 starts → values_after code (replicate 6 0) ≡ starts ++ replicate (6 - n) 0
opened code starts n is small opens =
    let all : 6 ≡ length starts + (6 - n) = omega arith in
    ap (λ (k : ℕ). values_after code (replicate k 0)) all ∙ ap (λ (w : Working). w.values) (opens.runs [] (6 - n) refl)

pub compiled :
    (names : Naming) (symbols : List Symbol) (r : Lines) (read : LinesRead names symbols r) (round opening : List Instruction) (shape : Shape) (card : Card)
    → round ≡ r.code.items → Opens opening 0 (map (first_start r.heads.items) names.states) → length names.states ≤ 6
    → shape ≡ record { states = length names.states; ins = each_port (in_sort names read.lines); outs = each_port (out_sort names read.lines) }
    → IsCardOf shape round opening card → IsCompiled names read.lines card
compiled names symbols r read round opening shape card round_is opens few shape_is is = record {
  round = λ vs. ap (λ (c : List Instruction). values_after c vs) (is.round_is ∙ round_is) ∙ performed r.code.items read.lines read.performs vs;
  opening = ap (λ (c : List Instruction). values_after c (replicate 6 0)) is.opening_is
      ∙ opened opening (map (first_start r.heads.items) names.states) (length names.states) (many (first_start r.heads.items) names.states) few opens
      ∙ ap (λ (hs : List LeftSide). map (first_start hs) names.states ++ replicate (6 - length names.states) 0) read.heads;
  shaped = is.shaped ∙ ap (λ (s : Shape). Some s) shape_is;
}

pub named_by :
    (guessed names : Naming) (symbols targets : List Symbol) (heads : List LeftSide) (lines : List Line) → guessed ≡ names → IsNaming names symbols targets
    → targets ≡ map target_of heads → heads ≡ map head_of lines → IsNaming guessed symbols (map target_of (map head_of lines))
named_by guessed names symbols targets heads lines same naming targets_are heads_are =
    subst (λ (ns : Naming). IsNaming ns symbols (map target_of (map head_of lines))) (sym same)
    (subst (λ (ts : List Symbol). IsNaming names symbols ts) (targets_are ∙ ap (λ (hs : List LeftSide). map target_of hs) heads_are) naming)
