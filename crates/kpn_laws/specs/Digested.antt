-- The digest that all runs of a network share if they are over.
use Rattle.std.specs.Prelude.{◌≡◌, List}
use Rattle.kpn_model.specs.declared.history.Entry.{Entry}
use Rattle.kpn_model.specs.declared.history.End.{End}
use Rattle.kpn_model.specs.Network.{Family, Network}
use Rattle.kpn_model.specs.Semantics.{State}
use Rattle.kpn_model.specs.History.{Digest, digest}
use Rattle.kpn_model.specs.Endings.{IsFinal}

pub record HasDigest (kinds : Family) (net : Network) (d : Digest) : Type 0 where
  pub history : List Entry
  pub state : State
  pub final : IsFinal kinds net history state d.cause
  pub digest_is : digest kinds net d.cause history state ≡ d
  pub others : (F : List Entry) (N : State) (cause : End) → IsFinal kinds net F N cause → digest kinds net cause F N ≡ d
