-- The first rate of some.
use Rattle.std.proofs.Common.{◌≡◌, ◌<◌, ◌+◌, ℕ, List, ◌∷◌, map, Option, Some, None, get_or, length, drop, refl, sym, ap, ◌∙◌}
use Rattle.hox_execute.specs.Reports.{first_rate}
use Rattle.hox_files.proofs.Firsts.{left_at}

-- the rate of the element at a place, or that of a later one
rate_at : (rate : Option ℕ) (rates : List (Option ℕ)) (r : ℕ) → rate ≡ Some r → first_rate (rate ∷ rates) ≡ r
rate_at None rates r e = cc
rate_at (Some n) rates r e = cc

rate_later : (rate : Option ℕ) (rates : List (Option ℕ)) → rate ≡ None → first_rate (rate ∷ rates) ≡ first_rate rates
rate_later None rates e = refl
rate_later (Some n) rates e = cc

module _ {X : Type 0} (rate : X → Option ℕ) (xs : List X) (k : ℕ) (d : X) (within : k < length xs) where
  next_rate : first_rate (map rate (drop k xs)) ≡ first_rate (rate (get_or xs k d) ∷ map rate (drop (k + 1) xs))
  next_rate = ap (λ l. first_rate (map rate l)) (left_at xs k d within)

  pub rate_found : (r : ℕ) → rate (get_or xs k d) ≡ Some r → r ≡ first_rate (map rate (drop k xs))
  rate_found r e = sym (rate_at (rate (get_or xs k d)) (map rate (drop (k + 1) xs)) r e) ∙ sym next_rate

  pub rate_passed : rate (get_or xs k d) ≡ None → first_rate (map rate (drop k xs)) ≡ first_rate (map rate (drop (k + 1) xs))
  rate_passed e = next_rate ∙ rate_later (rate (get_or xs k d)) (map rate (drop (k + 1) xs)) e
