-- The tokens of many records at once.
use Rattle.std.specs.Prelude.{◌≤◌, ◌++◌, ℕ, zero, suc, List, drop, get_or, length, take, All}
use Rattle.kpn_model.specs.declared.token.Sort.{Sort}
use Rattle.kpn_model.specs.declared.token.Token.{Token}
use Rattle.kpn_model.specs.Valid.{IsOfSort}
use Rattle.kpn_tokens.specs.declared.layouts.Layout.{Layout}
use Rattle.hox_stream.specs.Cutting.{Leads}

-- the first records of a text have these tokens, one each, whatever comes after it
abbrev pub LeadsOn : Layout → Sort → List ℕ → List ℕ → List Token → Type 0
LeadsOn layout sort text left tokens =
    (on : List ℕ)
    → Leads layout sort (text ++ on) (left ++ on) tokens (length tokens)

-- where the first `k` records end
abbrev pub end_of : List ℕ → ℕ → ℕ
end_of ends zero = 0
end_of ends (suc k) = get_or ends k 0

module _ (layout : Layout) (sort : Sort) (text : List ℕ) where
  -- the first `count` records have the first of these tokens, and end at the first of these places
  pub record Gathers (tokens : List Token) (ends : List ℕ) (count : ℕ) : Type 0 where
    pub within : (k : ℕ) → k ≤ count → end_of ends k ≤ length text
    pub leads : (k : ℕ) → k ≤ count → LeadsOn layout sort text (drop (end_of ends k) text) (take k tokens)
    pub sorts : All (IsOfSort sort) (take count tokens)
