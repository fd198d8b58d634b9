-- How a machine starts, and when it fails to.
use Rattle.std.specs.Prelude.{◌≡◌, ◌≢◌, ℕ, ◌<◌, false, List, [], Option, Some, None, length, map, get_or, replicate}
use Rattle.kpn_model.specs.declared.kinds.Card.{Card}
use Rattle.kpn_model.specs.declared.kinds.Kinds.{Ghosts as KindsOf}
use Rattle.kpn_model.specs.declared.history.Status.{Status}
use Rattle.kpn_model.specs.declared.history.Status.TheVariants.{Live}
use Rattle.kpn_model.specs.declared.parts.Process.{Process}
use Rattle.kpn_model.specs.declared.parts.Channel.{Channel}
use Rattle.kpn_model.specs.Network.{Family, Network, no_process, card_of}
use Rattle.kpn_model.specs.Semantics.{Held, start}
use Rattle.kpn_state.specs.declared.standing.Standing.TheVariants.{Ready}
use Rattle.kpn_state.specs.StateAndHistory.{StateAndHistory, state_and_history}
use Rattle.kpn_state.specs.Marks.{MarkLists, mark_lists}
use Rattle.kpn_machine.specs.declared.opening.OpenFault.{OpenFault}
use Rattle.kpn_machine.specs.declared.opening.OpenFault.TheVariants.{Bodies, Card as WrongCard, Memory}
use Rattle.kpn_machine.specs.declared.machine.OpenRefused.{OpenRefused}
use Rattle.kpn_machine.specs.MachineView.{MachineView, machine_view, IsFresh}

abbrev pub starting : Family → Process → Status
starting kinds p = Live (kinds.start p.card) None

abbrev pub filled : Channel → Held
filled c = record { tokens = c.tokens; capacity = c.capacity }

abbrev pub cards_of : List Process → List Card
cards_of ps = map (λ p. p.card) ps

-- what is wrong with bodies of these cards; for `Memory`, nothing is
abbrev pub IsOpenFault : List Process → List Card → OpenFault → Type 0
IsOpenFault ps cards Bodies = length cards ≢ length ps
IsOpenFault ps cards WrongCard = (length cards ≡ length ps) × (cards ≢ cards_of ps)
IsOpenFault ps cards Memory = cards ≡ cards_of ps

-- a machine at the start of the network
abbrev pub opened_view : Family → Network → MachineView
opened_view kinds net = machine_view net (start kinds net) [] (replicate (length net.processes) Ready) None 0

-- the state at the start, with room for so many entries
abbrev pub started_store : Family → Network → ℕ → StateAndHistory
started_store kinds net limit = state_and_history (start kinds net) [] limit

-- no process waits at any of so many channels
abbrev pub no_marks : ℕ → MarkLists
no_marks count = mark_lists (replicate count false) (replicate count false)

-- each process's card admits its start
abbrev pub StartsAreAdmitted : {X : Type 0} → KindsOf X → Network → Type 0
StartsAreAdmitted kinds net =
    (p : ℕ) → p < length net.processes → kinds.admits (card_of net p) (kinds.start (card_of net p)) None

-- a machine at the start of the network, whose processes have bodies of these cards
pub record Opens (kinds : Family) (net : Network) (cards : List Card) (s : MachineView) : Type 0 where
  pub opened : s ≡ opened_view kinds net
  pub fresh : IsFresh s
  pub cards_are : cards ≡ cards_of net.processes

module _ {B K : Type 0} (card : B → Card) (net : Network) (bodies : List B) where
  -- this network and these bodies come back unchanged, with what is wrong with them
  pub record IsOpenRefused (refused : OpenRefused B K) : Type 0 where
    pub net_is : refused.net ≡ net
    pub bodies_are : refused.bodies.items ≡ bodies
    pub applies : IsOpenFault net.processes (map card bodies) refused.fault

abbrev pub AreSeated : List Card → List (Option Card) → Type 0
AreSeated cards slots = (p : ℕ) → p < length cards → get_or slots p None ≡ Some (get_or cards p no_process.card)
