-- How many growths there are in a history with one more entry.
use Rattle.std.proofs.Common.{◌≡◌, ◌≤◌, ℕ, ◌+◌, suc, List, [], ◌∷◌, ◌++◌, length, refl, ap, arith}
use Rattle.kpn_model.specs.declared.history.Entry.{Entry}
use Rattle.kpn_model.specs.declared.history.Entry.TheVariants.{Did, Grew}
use Rattle.kpn_model.specs.declared.history.Deed.{Deed}
use Rattle.kpn_model.specs.History.{growths}

pub growths_deed : (E : List Entry) (p : ℕ) (d : Deed) → length (growths (E ++ Did p d ∷ [])) ≡ length (growths E)
growths_deed [] p d = refl
growths_deed (Grew c to ∷ E) p d = ap suc (growths_deed E p d)
growths_deed (Did q e ∷ E) p d = growths_deed E p d

pub growths_growth : (E : List Entry) (c to : ℕ) → length (growths (E ++ Grew c to ∷ [])) ≡ length (growths E) + 1
growths_growth [] c to = refl
growths_growth (Grew b n ∷ E) c to = omega (arith, growths_growth E c to)
growths_growth (Did q e ∷ E) c to = growths_growth E c to

pub growths_few : (E : List Entry) → length (growths E) ≤ length E
growths_few [] = omega arith
growths_few (Grew b n ∷ E) = let few = growths_few E in omega arith
growths_few (Did q e ∷ E) = let few = growths_few E in omega arith
