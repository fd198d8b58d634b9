-- The name of a formula's kind means it.
use Rattle.std.proofs.Common.{◌≡◌, inl, ℕ, ◌<◌, ◌^◌, Bool, true, false, ◌&&◌, if◌then◌else◌, Option, Some, None, IsSome, option_map, refl, subst}
use Rattle.kpn_model.specs.declared.kinds.Card.{Card}
use Rattle.kpn_model.specs.declared.kinds.Signature.{Signature}
use Rattle.kpn_formula.specs.declared.shape.Shape.{Shape}
use Rattle.kpn_formula.specs.Shapes.{has_digits, is_kind, ports, shape_numbered}
use Rattle.kpn_formula.specs.Formulas.{kind_name, named}
use Rattle.kpn_formula.proofs.Names.{is_named}
use Rattle.kpn_picture.specs.Titles.{MeansKind}

is_kind_of : (digits kind : Bool) (s : Shape) (f : Shape → Signature) → IsSome (option_map f (if digits && kind then Some s else None)) → Some s ≡ (if kind then Some s else None)
is_kind_of true true s f some = refl
is_kind_of true false s f some = cc
is_kind_of false kind s f some = cc

pub formula_named : (card : Card) → card.kind < 2 ^ 16 → IsSome (ports card) → MeansKind ports (named (kind_name card.kind)) (card.kind, 3)
formula_named card small signed =
    let shaped = is_kind_of (has_digits card) (is_kind card.kind) (shape_numbered card.kind) _ signed in
    subst (λ (o : Option (ℕ × ℕ)). MeansKind ports o (card.kind, 3)) (is_named (kind_name card.kind) card.kind (shape_numbered card.kind) small refl shaped) (inl refl)
