-- What filters write.
use Rattle.std.proofs.Common.{ℕ, List, [], ◌∷◌, refl, None}
use Rattle.kpn_model.specs.declared.token.Token.TheVariants.{Word}
use Rattle.kpn_model.specs.declared.kinds.Card.{Card}
use Rattle.kpn_model.specs.declared.history.Status.TheVariants.{Live}
use Rattle.kpn_compute.specs.Filters.{filter_family}
use Rattle.kpn_streams.specs.Fed.{WritesFrom}
use Rattle.kpn_streams.specs.Functions.{words}
use Rattle.kpn_streams.specs.Filters.{scanned, FiltersScan}
use Rattle.kpn_streams.proofs.Fed.{waits, reads, puts}

module _ (start : Card → List ℕ) (step : Card → List ℕ → ℕ → List ℕ × ℕ) where
  -- with what is kept it writes the scan of what comes
  scans :
      (card : Card) (ws kept : List ℕ)
      → WritesFrom (filter_family start step) card (Live kept None) (words ws ∷ []) (words (scanned (step card) kept ws) ∷ [])
  scans card [] kept = waits (filter_family start step) card kept 0 refl refl refl
  scans card (w ∷ ws) kept =
      reads (filter_family start step) card kept 0 (Word w) (words ws) refl refl
      (puts (filter_family start step) card (step card kept w).0 (Word (step card kept w).1) refl (scans card ws (step card kept w).0))

  -- filters write the scan of what they read
  pub filters_scan : FiltersScan start step
  filters_scan card ws = scans card ws (start card)
