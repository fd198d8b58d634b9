use Rattle.std.proofs.Common.{◌∙◌, [], ◌∷◌, sym, ap, subst}
use Rattle.hox_formula.specs.declared.symbol.Symbol.{Symbol}
use Rattle.hox_formula.specs.Collecting.{HeadRead}
use Rattle.hox_formula.proofs.Collected.{output_read}
use Rattle.hox_formula.proofs.reading.read_head.Goals as goal

pub returns-in-Output : goal.returns-in-Output
returns-in-Output c =
    subst (λ (s : Symbol). HeadRead c.args.symbols.now c.in-Some.rest.now (record { target = s; start = _ })) (sym c.in-Output.is)
    (output_read c.in-Output.field-0 c.args.symbols.now c.in-Some.rest.now (c.in-Some.ensures ∙ ap (λ (s : Symbol). s ∷ c.in-Some.rest.now) c.in-Output.is))
