-- One word more comes off a text.
use Rattle.std.proofs.Common.{ℕ, List, [], ◌∷◌, ◌++◌, refl, subst}
use Rattle.hox_handle.specs.Names.{TakesWord, TakesWords}

pub takes_more : (text : List ℕ) (ws : List (List ℕ)) (mid w rest : List ℕ) → TakesWords text ws mid → TakesWord mid w rest → TakesWords text (ws ++ w ∷ []) rest
takes_more text [] mid w rest e one = (rest, subst (λ x. TakesWord x w rest) e one, refl)
takes_more text (v ∷ ws) mid w rest e one = (e.0, e.1, takes_more e.0 ws mid w rest e.2 one)
