-- False laws of solving a network's equations, for networks of the standard kinds.
use Rattle.std.specs.Prelude.{ℕ, suc, ◌≡◌, ◌<◌, ◌≤◌, List, [], length}
use Rattle.kpn_model.specs.declared.token.Token.{Token}
use Rattle.kpn_model.specs.Network.{Network}
use Rattle.kpn_standard.specs.Standard.{standard}
use Rattle.kpn_laws.specs.Alone.{Streams}
use Rattle.kpn_laws.specs.Equations.{IsLeastSolution}
use Rattle.kpn_streams.specs.Solving.{HasEquation, Solves, IsLimitOf, HasStreams}

-- even with a loop, the network computes any tokens that solve the equations
abbrev pub AllSolvedAreComputed : Type 0
AllSolvedAreComputed = (net : Network) (X : ℕ → List Token) → Solves standard net X → HasStreams standard net X

-- approximations from any tokens have the least solution as their limit
abbrev pub LimitFromAnyIsLeast : Type 0
LimitFromAnyIsLeast =
    (net : Network) (A : ℕ → ℕ → List Token) (T : Streams)
    → ((n c : ℕ) → c < length net.channels → HasEquation standard net (A n) c (A (suc n) c))
    → ((n c : ℕ) → length net.channels ≤ c → A n c ≡ []) → IsLimitOf A T → IsLeastSolution standard net T
