use Rattle.std.proofs.Common.{◌≡◌, ◌∙◌, ℕ, List, [], ◌∷◌, ◌++◌, map, sym, ap, subst}
use Rattle.kpn_formula.specs.declared.instruction.Instruction.{Instruction}
use Rattle.hox_formula.specs.Formulas.{first_start}
use Rattle.hox_formula.specs.Compiling.{Opens}
use Rattle.hox_formula.proofs.Opened.{opens_zero, opens_start}
use Rattle.hox_formula.proofs.compiling.+opening_code.Goals as goal

pub returns-then-start-eq0 : goal.returns-then-start-eq0
returns-then-start-eq0 t c =
    let start = first_start c.args.heads.now in
    subst (λ (states : List ℕ). Opens c.in_ok-others.others.items c.args.place (map start states)) (sym c.in-Some.ensures)
    (opens_zero c.in_ok-others.others.items c.args.place (start c.in-Some.state) (map start c.in-Some.rest.now) (sym c.first_start-start.ensures ∙ c.if-start-eq0.true) c.in_ok-others.ensures)

pub returns : goal.returns
returns t c =
    let start = first_start c.args.heads.now in
    let starts = map start c.in-Some.rest.now in
    let same : c.first_start-start.result ∷ starts ≡ map start c.args.states.now =
    ap (λ (s : ℕ). s ∷ starts) c.first_start-start.ensures ∙ ap (λ (states : List ℕ). map start states) (sym c.in-Some.ensures) in
    subst (λ (all : List ℕ). Opens c.extend_from_slice.new.self.items c.args.place all) same
    (opens_start c.extend_from_slice.new.self.items c.in_ok-code.code.items c.in_ok-others.others.items c.args.place c.first_start-start.result starts
    (c.in_ok-extend_from_slice.ensures.items ∙ ap (λ (xs : List Instruction). c.push.new.self.items ++ xs) c.deref.ensures.value ∙ ap (λ (xs : List Instruction). xs ++ c.in_ok-others.others.items) c.in_ok-push.ensures.items)
    c.in_ok-code.ensures c.in_ok-others.ensures)
