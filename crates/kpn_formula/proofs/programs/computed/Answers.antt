use Rattle.std.proofs.Common.{◌≡◌, ◌∙◌, ◌<◌, List, ℕ, take, ap, arith}
use Rattle.kpn_formula.specs.declared.programs.FormulaSizes.{FormulaSizes}
use Rattle.kpn_formula.specs.Cards.{before_end}
use Rattle.kpn_formula.specs.Formulas.{outputs_in, states_in, values}
use Rattle.kpn_formula.specs.Programs.{values_after}
use Rattle.kpn_formula.specs.Reading.{program_at}
use Rattle.kpn_formula.proofs.Laid.{values_begun}
use Rattle.kpn_formula.proofs.Shapes.{has_room}
use Rattle.kpn_formula.proofs.programs.computed.Goals as goal

abbrev both : ℕ → ℕ → List ℕ → List ℕ × List ℕ
both k m values = (states_in k values, outputs_in k m values)

pub returns : goal.returns
returns c =
    let card = c.args.card.now in
    let program = before_end (program_at card c.args.start) in
    let counts = c.counts_of-counts.result in
    let few_states : counts.states < 8 = omega (arith, ap (λ (t : FormulaSizes). t.states) c.counts_of-counts.ensures) in
    let few_outputs : counts.outputs < 4 = omega (arith, ap (λ (t : FormulaSizes). t.outputs) c.counts_of-counts.ensures) in
    let few_inputs : counts.inputs < 4 = omega (arith, ap (λ (t : FormulaSizes). t.inputs) c.counts_of-counts.ensures) in
    let begins = values_begun counts.states counts.outputs counts.inputs c.args.kept c.args.inputs c.begin.new.values few_states few_outputs few_inputs (omega arith) (omega arith) c.begin.ensures in
    let after : take 6 c.run.new.values ≡ values_after program (values counts.states counts.outputs counts.inputs c.args.kept c.args.inputs) =
    c.run.ensures card c.args.start c.at.ensures ∙ ap (λ vs. values_after program vs) begins in
    c.results.ensures
    ∙ ap (λ (vs : List ℕ). both counts.states counts.outputs vs) after
    ∙ ap (λ (t : FormulaSizes). both t.states t.outputs (values_after program (values t.states t.outputs t.inputs c.args.kept c.args.inputs))) c.counts_of-counts.ensures

pub results-requires : goal.results-requires
results-requires c =
    omega (arith, has_room c.args.card.now c.requires, ap (λ (t : FormulaSizes). t.states) c.counts_of-counts.ensures, ap (λ (t : FormulaSizes). t.outputs) c.counts_of-counts.ensures)
