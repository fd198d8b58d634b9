-- One more step along the processes that wait.
use Rattle.std.proofs.Common.{◌≡◌, ◌≢◌, ℕ, suc, List, Some, refl}
use Rattle.std.proofs.lemmas.Bool.{ne_eqb}
use Rattle.kpn_model.specs.declared.history.Place.{Place}
use Rattle.kpn_model.specs.Network.{Network}
use Rattle.kpn_model.specs.Waits.{waits_for, is_met}

module _ (net : Network) (places : List Place) where
  pub met_next : (n m goal p q : ℕ) → m ≡ suc n → waits_for net places p ≡ Some q → q ≢ goal → is_met net places n goal q ≡ is_met net places m goal p
  met_next n m goal p q more waits other = rw (more, waits, ne_eqb q goal other) refl
