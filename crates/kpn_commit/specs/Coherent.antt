-- Standings, marks and candidates that fit a network in a state.
use Rattle.std.specs.Prelude.{ℕ, Option, None}
use Rattle.kpn_model.specs.Network.{Family, Network, Admits}
use Rattle.kpn_state.specs.Standings.{StandingsFit}
use Rattle.kpn_commit.specs.Waiting.{AreWaiting}
use Rattle.kpn_commit.specs.declared.cores.Core.{Core}

module _ {H : Type 0} (kinds : Family) (admits : Admits) (net : Network) where
  -- no parked process can continue, except perhaps one about to be served
  pub record IsCoherentBut (served : Option ℕ) (core : Core H) : Type 0 where
    pub keeps : StandingsFit kinds admits net served core.store.state core.standings
    pub waiting : AreWaiting net core.store.state core.standings core.waiting

  abbrev pub IsCoherent : Core H → Type 0
  IsCoherent core = IsCoherentBut None core
