use Rattle.std.proofs.Common.{◌∙◌, ℕ, ◌==◌, List, sym, ap}
use Rattle.std.specs.Prelude.{position}
use Rattle.hox_formula.specs.declared.symbol.Symbol.{Symbol}
use Rattle.hox_formula.specs.Grammar.{place_of}
use Rattle.hox_formula.specs.Parsing.{naming}
use Rattle.hox_formula.proofs.places.place.Goals as goal

pub returns-in-None : goal.returns-in-None
returns-in-None c =
    sym c.in-None.is ∙ c.state_place.ensures
    ∙ ap (λ (states : List ℕ). position (λ state. state == c.in-State.name) states) c.deref.ensures.value
    ∙ ap (λ (s : Symbol). place_of (naming c.args.names.now) s) (sym c.in-State.is)
