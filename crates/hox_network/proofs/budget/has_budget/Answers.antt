use Rattle.std.proofs.Common.{◌≡◌, Option, Some, None, is_some, option_map, refl, ap, ◌∙◌, codes}
use Rattle.toml.proofs.Views.{table_get}
use Rattle.hox_network.proofs.budget.has_budget.Goals as goal

some_of : {A B : Type 0} (f : A → B) (o : Option A) → is_some o ≡ is_some (option_map f o)
some_of {A} {B} f None = refl
some_of {A} {B} f (Some x) = refl

pub returns : goal.returns
returns c = c.is_some.ensures ∙ (some_of _ c.get.result ∙ ap is_some (table_get c.get.result (codes "budget") c.args.table.now.entries c.get.ensures.value))
