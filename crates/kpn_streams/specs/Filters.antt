-- What filters write.
use Rattle.std.specs.Prelude.{ℕ, List, [], ◌∷◌}
use Rattle.kpn_model.specs.declared.kinds.Card.{Card}
use Rattle.kpn_compute.specs.Filters.{filter_family}
use Rattle.kpn_streams.specs.Fed.{Writes}
use Rattle.kpn_streams.specs.Functions.{words}

-- a scan: what the steps make of these, each with what the one before kept
abbrev pub scanned : {A B : Type 0} → (List ℕ → A → List ℕ × B) → List ℕ → List A → List B
scanned step kept [] = []
scanned step kept (x ∷ xs) = (step kept x).1 ∷ scanned step (step kept x).0 xs

abbrev pub FiltersScan : (Card → List ℕ) → (Card → List ℕ → ℕ → List ℕ × ℕ) → Type 0
FiltersScan start step =
    (card : Card) (ws : List ℕ)
    → Writes (filter_family start step) card (words ws ∷ []) (words (scanned (step card) (start card) ws) ∷ [])
