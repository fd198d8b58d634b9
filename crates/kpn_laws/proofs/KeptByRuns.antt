-- Every run keeps the invariant.
use Rattle.std.proofs.Common.{List, [], ◌∷◌, ◌++◌, sym, arith, subst}
use Rattle.kpn_model.specs.declared.history.Entry.{Entry}
use Rattle.kpn_model.specs.declared.history.Entry.TheVariants.{Did, Grew}
use Rattle.kpn_model.specs.Network.{Network, Family}
use Rattle.kpn_model.specs.Semantics.{State, Transition, Run}
use Rattle.kpn_laws.proofs.Runs.{run_induction}
use Rattle.kpn_laws.proofs.Kept.{IsFresh, Kept, kept_fresh}
use Rattle.kpn_laws.proofs.KeptByDeeds.{kept_after}
use Rattle.kpn_laws.proofs.KeptByGrowths.{blocked_within, kept_grown}

module _ (kinds : Family) (net : Network) where
  module _ (S : State) (H : List Entry) (M : State) (k : Kept kinds net S H M) where
    -- each step keeps it, be it a deed or a growth
    kept_step : (e : Entry) (N : State) → Transition kinds net M e N → Kept kinds net S (H ++ e ∷ []) N
    kept_step (Did p d) N s = subst (λ x. Kept kinds net S (H ++ Did p d ∷ []) x) (sym s.leaves) (kept_after kinds net S H M k p d s.answer s.wanted s.is_deed)
    kept_step (Grew c to) N s = subst (λ x. Kept kinds net S (H ++ Grew c to ∷ []) x) (sym s.leaves) (kept_grown kinds net S H M k c to (blocked_within kinds net S H M k s.chosen.writer c s.chosen.blocked) (let is = s.to_is in let low = s.below in omega arith))

  -- a run from a state in which nothing has happened keeps it
  pub kept_run : (S : State) → IsFresh kinds net S → (E : List Entry) (N : State) → Run kinds net S E N → Kept kinds net S E N
  kept_run S f = run_induction kinds net (Kept kinds net S) S (kept_fresh kinds net S f) (λ H M e N before k s. kept_step S H M k e N s)
