-- What contracts see of a flow, and what holds of each at all times.
use Rattle.std.specs.Prelude.{◌≡◌, ◌≢◌, ℕ, ◌<◌, ◌+◌, ◌==◌, Bool, true, not, List, Option, Some, None, length, get_or, replicate}
use Rattle.std.specs.List.{list_any, filter, All}
use Rattle.std.specs.Io.Iter.{u64_saturate}
use Rattle.kpn_model.specs.declared.token.Token.{Token}
use Rattle.kpn_model.specs.declared.kinds.Card.{Card}
use Rattle.kpn_model.specs.declared.history.Entry.{Entry}
use Rattle.kpn_model.specs.Network.{Family, Network, card_of, channel_of, Admits}
use Rattle.kpn_model.specs.Semantics.{State, start, tokens, capacity, IsEnabled}
use Rattle.kpn_model.specs.History.{growths}
use Rattle.kpn_model.specs.Valid.{IsOfSort}
use Rattle.kpn_state.specs.declared.standing.Standing.{Standing}
use Rattle.kpn_state.specs.declared.standing.Standing.TheVariants.{Ready, Out}
use Rattle.kpn_state.specs.Standings.{standing, is_busy, StandingsFit}
use Rattle.kpn_commit.specs.Waiting.{AreWaiting}
use Rattle.kpn_commit.specs.declared.cores.Core.{Core}
use Rattle.kpn_flow.specs.declared.counts.Counts.{Counts}
use Rattle.kpn_flow.specs.Events.{Event, Flows, entries_of}
use Rattle.kpn_flow.specs.Preloaded.{StopsAtOnce, IsAtEnds}

-- unended inputs are those that have not ended
pub record FlowView : Type 0 where
  pub network : Network
  pub state : State
  pub standings : List Standing
  pub inputs : List ℕ
  pub unended : List ℕ
  pub outputs : List ℕ
  pub counts : Counts

abbrev pub flow_view : Network → State → List Standing → List ℕ → List ℕ → List ℕ → Counts → FlowView
flow_view net M standings inputs unended outputs counts =
    record {
      network = net;
      state = M;
      standings = standings;
      inputs = inputs;
      unended = unended;
      outputs = outputs;
      counts = counts;
    }

abbrev pub nothing_counted : Counts
nothing_counted = record { entries = 0; growths = 0 }

abbrev pub saturating_sum : ℕ → ℕ → ℕ
saturating_sum n more = u64_saturate (n + more)

abbrev pub growths_counted : Counts → List Entry → ℕ
growths_counted n E = saturating_sum n.growths (length (growths E))

-- the counts after these entries; each stays at 2 ^ 64 - 1 once it is there
abbrev pub counted : Counts → List Entry → Counts
counted n E = record { entries = saturating_sum n.entries (length E); growths = growths_counted n E }

-- the number of tokens in a channel, and its capacity
abbrev pub fill : FlowView → ℕ → ℕ × ℕ
fill s c = (length (tokens s.state c), capacity s.state c)

abbrev pub is_among : List ℕ → ℕ → Bool
is_among channels c = list_any (λ d. d == c) channels

abbrev pub without : List ℕ → ℕ → List ℕ
without channels c = filter (λ d. not (d == c)) channels

abbrev pub with_ended : FlowView → ℕ → FlowView
with_ended s c = record s { unended = without s.unended c }

-- only the outside writes to inputs and reads from outputs
pub record AreEnds (kinds : Family) (net : Network) (inputs outputs : List ℕ) : Type 0 where
  pub only_fed : (c : ℕ) → is_among inputs c ≡ true
      → (c < length net.channels) × StopsAtOnce kinds net (channel_of net c).writer
  pub only_drained : (c : ℕ) → is_among outputs c ≡ true
      → (c < length net.channels) × StopsAtOnce kinds net (channel_of net c).reader

module _ (kinds : Family) (net : Network) (inputs outputs : List ℕ) where
  -- events led to the state, tokens came only into inputs and left only outputs, and the entries were counted
  pub record IsReached (counts : Counts) (M : State) : Type 0 where
    pub events : List Event
    pub flows : Flows kinds net (start kinds net) events M
    pub at_ends : IsAtEnds (is_among inputs) (is_among outputs) events
    pub counts_are : counts ≡ counted nothing_counted (entries_of events)

module _ (kinds : Family) (admits : Admits) (net : Network) where
  -- the standings fit the state, and no process is out
  pub record IsSettledIn (M : State) (standings : List Standing) : Type 0 where
    pub keeps : StandingsFit kinds admits net None M standings
    pub none_out : (p : ℕ) → standing standings p ≢ Out

-- a core in which no process is out, with the marks and candidates of its state
pub record IsSettled {H : Type 0} (kinds : Family) (admits : Admits) (net : Network) (core : Core H) : Type 0 where
  pub fits : IsSettledIn kinds admits net core.store.state core.standings
  pub waiting : AreWaiting net core.store.state core.standings core.waiting

-- each process has a body with its card
pub record HasAllBodies (net : Network) (bodies : List (Option Card)) : Type 0 where
  pub many : length bodies ≡ length net.processes
  pub each : (p : ℕ) → p < length net.processes → get_or bodies p None ≡ Some (card_of net p)

module _ (kinds : Family) (admits : Admits) (s : FlowView) where
  pub record IsFlowing (bodies : List (Option Card)) (limit : ℕ) : Type 0 where
    pub ends : AreEnds kinds s.network s.inputs s.outputs
    pub unended : (c : ℕ) → is_among s.unended c ≡ true → is_among s.inputs c ≡ true
    pub reached : IsReached kinds s.network s.inputs s.outputs s.counts s.state
    pub fits : IsSettledIn kinds admits s.network s.state s.standings
    pub seated : HasAllBodies s.network bodies
    pub limit_is : limit ≡ 1048576

pub record MayFeed (s : FlowView) (c : ℕ) (t : Token) : Type 0 where
  pub input : is_among s.unended c ≡ true
  pub sort : IsOfSort (channel_of s.network c).sort t

pub record MayFeedAll (s : FlowView) (c : ℕ) (ts : List Token) : Type 0 where
  pub input : is_among s.unended c ≡ true
  pub sorts : All (IsOfSort (channel_of s.network c).sort) ts

-- nothing but the state, the standings and the counts differs
pub record IsSameFlow (s t : FlowView) : Type 0 where
  pub network : t.network ≡ s.network
  pub inputs : t.inputs ≡ s.inputs
  pub unended : t.unended ≡ s.unended
  pub outputs : t.outputs ≡ s.outputs

-- the flow of this network at its start
abbrev pub opened_flow : Family → Network → List ℕ → List ℕ → FlowView
opened_flow kinds net inputs outputs =
    flow_view net (start kinds net) (replicate (length net.processes) Ready) inputs inputs outputs nothing_counted

-- events led to the state of the flow
abbrev pub FlowIsReached : Family → FlowView → Type 0
FlowIsReached kinds s = IsReached kinds s.network s.inputs s.outputs s.counts s.state

-- each enabled process is ready or out
abbrev pub EnabledAreBusy : Family → FlowView → Type 0
EnabledAreBusy kinds s = (p : ℕ) → IsEnabled kinds s.network s.state p → is_busy (standing s.standings p) ≡ true
