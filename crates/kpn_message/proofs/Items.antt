-- An item that is looked up in a slice.
use Rattle.std.proofs.Common.{◌≡◌, ◌≤◌, ℕ, List, length, Option, Some, None, option_map, Bor, refl, sym}
use Rattle.std.proofs.lemmas.Option.{slice_get_past, slice_get_read}
use Rattle.std.specs.List.{slice_get}
use Rattle.std.specs.Slice.{IsItemAt}

-- what is lent is the item at the index, if there is one
pub lent_is : {X : Type 0} (xs : List X) (i : ℕ) (r : Option (Bor X)) → IsItemAt xs i r → option_map (λ x. x.now) r ≡ slice_get xs i
lent_is xs i None at = let past : length xs ≤ i = at.3 in sym (slice_get_past xs i past)
lent_is xs i (Some x) at = sym (slice_get_read xs (length xs) i x.now refl at.3.0 at.1)
