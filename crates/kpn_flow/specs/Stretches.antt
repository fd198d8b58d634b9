-- One stretch of a flow: ready processes are asked, or what follows if none is ready.
use Rattle.std.specs.Prelude.{◌≡◌, ℕ, ◌+◌, ◌*◌, ◌≤◌, List, [], Option, length, map, option_map, IfSome, IfNone}
use Rattle.kpn_model.specs.declared.kinds.Card.{Card}
use Rattle.kpn_model.specs.declared.kinds.Kinds.{Ghosts as KindsOf}
use Rattle.kpn_model.specs.Families.{family}
use Rattle.kpn_model.specs.Network.{Family, Network, Admits}
use Rattle.kpn_state.specs.declared.standing.Standing.TheVariants.{Ready}
use Rattle.kpn_state.specs.Standings.{standing}
use Rattle.kpn_commit.specs.declared.cores.Core.{Core}
use Rattle.kpn_flow.specs.declared.open_net.OpenNet.{OpenNet}
use Rattle.kpn_flow.specs.declared.pause.Pause.{Pause}
use Rattle.kpn_flow.specs.Flows.{IsSettled, HasAllBodies}
use Rattle.kpn_flow.specs.Pauses.{OpenRun, IsRest, TellWants}
use Rattle.kpn_flow.specs.Waits.{unparked}

module _ {H : Type 0} (kinds : Family) (admits : Admits) (net : Network) (core : Core H) where
  -- a settled core and all bodies, a ready process to ask first, if any, and room for the entries of a stretch
  pub record MayStretch (cards : List (Option Card)) (again : Option ℕ) (until : ℕ) : Type 0 where
    pub settled : IsSettled kinds admits net core
    pub bodies : HasAllBodies net cards
    pub ready : IfSome again (λ p. standing core.standings p ≡ Ready)
    pub some : 1 ≤ until
    pub room : until + 1 ≤ core.store.limit

module _ {H : Type 0} (kinds : Family) (admits : Admits) (net : Network) (inputs outputs : List ℕ) (core : Core H) where
  -- the history is a run of at most `most` entries to a settled core; none if there is a pause, which says why nothing
  -- can be done; else something was done
  pub record Stretches (most : ℕ) (pause : Option Pause) (moved : Core H) : Type 0 where
    pub settled : IsSettled kinds admits net moved
    pub limit : moved.store.limit ≡ core.store.limit
    pub run : OpenRun kinds net inputs outputs core.store.state moved.store.history moved.store.state
    pub few : length moved.store.history ≤ most
    pub rests : IfSome pause (IsRest kinds net inputs outputs moved.store.state)
    pub none : IfSome pause (λ _. moved.store.history ≡ [])
    pub told : IfSome pause (TellWants kinds net moved.store.state moved.standings)
    pub goes : IfNone pause (unparked moved.standings + 1 ≤ unparked core.standings + 2 * length moved.store.history)

module _ {X H : Type 0} (kinds : KindsOf X) (net : Network) where
  -- a core that may stretch, with these bodies
  abbrev pub MayStretchFrom : {C : Type 0} → Core H → (C → Card) → List (Option C) → Option ℕ → ℕ → Type 0
  MayStretchFrom core card bodies again until =
      MayStretch (family kinds) kinds.admits net core (map (option_map card) bodies) again until

module _ {X K H : Type 0} (kinds : KindsOf X) (opened : OpenNet K) where
  -- one stretch from one core to another
  abbrev pub StretchesTo : Core H → ℕ → Option Pause → Core H → Type 0
  StretchesTo core most pause moved =
      Stretches (family kinds) kinds.admits opened.net.now opened.inputs.now opened.outputs.now core most pause moved
