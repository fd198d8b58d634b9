-- A channel of a network, with what a run left of all channels and processes.
use Rattle.std.specs.Prelude.{ℕ, List}
use Rattle.kpn_model.specs.declared.token.Token.{Token}
use Rattle.kpn_model.specs.declared.history.Place.{Place}
use Rattle.kpn_model.specs.Network.{Network}

pub record EdgeView : Type 0 where
  pub net : Network
  pub places : List Place
  pub capacities : List ℕ
  pub rests : List (List Token)
  pub channel : ℕ
