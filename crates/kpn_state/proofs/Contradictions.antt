-- What can't be.
use Rattle.std.proofs.Common.{◌≡◌, Bool, true, false, Some, None}

pub true_false : (b : Bool) → b ≡ true → b ≡ false → ⊥
true_false b x y = cc

pub none_some : {X : Type 0} (x : X) → None ≡ Some x → ⊥
none_some x e = cc
