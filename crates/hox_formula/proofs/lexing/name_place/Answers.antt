use Rattle.std.proofs.Common.{◌∙◌, List, [], sym, ap}
use Rattle.hox_formula.specs.Lexing.{place_in, texts}
use Rattle.hox_formula.proofs.Lexed.{known_name, added_name}
use Rattle.hox_formula.proofs.lexing.name_place.Goals as goal

pub returns-in-Some : goal.returns-in-Some
returns-in-Some c =
    known_name (texts c.args.names.now.items) c.args.word.now c.in-Some.place
    (ap (λ (ns : List _). place_in (texts ns) c.args.word.now) (sym c.deref.ensures.value) ∙ sym c.in-Some.ensures.is)

pub returns : goal.returns
returns c =
    added_name c.args.names.now.items c.push.new.self.items c.in_ok-name.name c.args.word.now c.len-place.result
    c.in_ok-push.ensures.items c.in_ok-name.ensures.items (c.len-place.ensures ∙ c.args.names.now.ok.0)
    (ap (λ (ns : List _). place_in (texts ns) c.args.word.now) (sym c.deref.ensures.value) ∙ sym c.in_default.ensures.is)
