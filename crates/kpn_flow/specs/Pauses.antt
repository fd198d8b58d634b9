-- How far a flow runs by itself, and why it returns.
use Rattle.std.specs.Prelude.{◌≡◌, ℕ, ◌+◌, ◌≤◌, true, false, List, [], ◌∷◌, Some, length}
use Rattle.std.specs.List.{list_any}
use Rattle.kpn_model.specs.declared.kinds.Act.TheVariants.{Read}
use Rattle.kpn_model.specs.declared.kinds.Answer.{Answer}
use Rattle.kpn_model.specs.declared.history.Entry.{Entry}
use Rattle.kpn_model.specs.declared.history.Entry.TheVariants.{Did, Grew}
use Rattle.kpn_model.specs.declared.kinds.Kinds.{Ghosts as KindsOf}
use Rattle.kpn_model.specs.Families.{family}
use Rattle.kpn_model.specs.Network.{Family, Network, in_of, channel_of}
use Rattle.kpn_model.specs.Semantics.{State, tokens, wants, Does, Grows, IsQuiet, IsBlocked}
use Rattle.kpn_model.specs.Endings.{NothingGoesOn}
use Rattle.kpn_state.specs.declared.standing.Standing.{Standing}
use Rattle.kpn_state.specs.Standings.{standing, parked_answer}
use Rattle.kpn_commit.specs.declared.cores.Core.{Core}
use Rattle.kpn_flow.specs.declared.counts.Counts.{Counts}
use Rattle.kpn_flow.specs.declared.open_net.OpenNet.{OpenNet}
use Rattle.kpn_flow.specs.declared.pause.Pause.{Pause}
use Rattle.kpn_flow.specs.declared.pause.Pause.TheVariants.{Cut, Starved, Blocked, Over}
use Rattle.kpn_flow.specs.Flows.{FlowView, is_among, counted}
use Rattle.kpn_flow.specs.Waits.{holds_up, starves}

module _ (kinds : Family) (net : Network) where
  -- p wants to read from c, which is empty
  pub record IsStarving (M : State) (p c : ℕ) : Type 0 where
    pub answer : Answer
    pub wanted : wants kinds net M p ≡ Some answer
    pub port : ℕ
    pub act : answer.act ≡ Read port
    pub at : in_of net p port ≡ Some c
    pub empty : tokens M c ≡ []

  -- a process wants to read from this input, which is empty
  pub record IsStarved (inputs : List ℕ) (M : State) (c : ℕ) : Type 0 where
    pub input : is_among inputs c ≡ true
    pub reader : ℕ
    pub starving : IsStarving M reader c

  -- a process wants to write to this output, which is full
  pub record IsHeldUp (outputs : List ℕ) (M : State) (c : ℕ) : Type 0 where
    pub output : is_among outputs c ≡ true
    pub writer : ℕ
    pub blocked : IsBlocked kinds net M writer c

  -- neither feeding nor draining lets a waiting process continue
  pub record NoneCanHelp (inputs outputs : List ℕ) (M : State) : Type 0 where
    pub not_starved : (c : ℕ) → IsStarved inputs M c → ⊥
    pub not_held_up : (c : ℕ) → IsHeldUp outputs M c → ⊥

  module _ (inputs outputs : List ℕ) where
    -- a channel grows only if the outside can't help (after Parks 1995)
    abbrev pub OpenTransition : State → Entry → State → Type 0
    OpenTransition M (Did p d) N = Does kinds net M p d N
    OpenTransition M (Grew c to) N = Grows kinds net M c to N × NoneCanHelp inputs outputs M

    abbrev pub OpenRun : State → List Entry → State → Type 0
    OpenRun M [] N = N ≡ M
    OpenRun M (e ∷ es) N = (mid : State) × OpenTransition M e mid × OpenRun mid es N

    -- nothing can be done in M: for lack of a token in an input; or else of room in an output; or else it has
    -- ended for this cause
    abbrev pub IsRest : State → Pause → Type 0
    IsRest M Cut = ⊥
    IsRest M Starved = IsQuiet kinds net M × ((c : ℕ) × IsStarved inputs M c)
    IsRest M Blocked = IsQuiet kinds net M × ((c : ℕ) → IsStarved inputs M c → ⊥) × ((c : ℕ) × IsHeldUp outputs M c)
    IsRest M (Over end) = NothingGoesOn kinds net M end × NoneCanHelp inputs outputs M

    -- or fewer than two of the allowed entries were left
    abbrev pub IsPause : ℕ → ℕ → State → Pause → Type 0
    IsPause most done M Cut = most ≤ done + 1
    IsPause most done M Starved = IsRest M Starved
    IsPause most done M Blocked = IsRest M Blocked
    IsPause most done M (Over end) = IsRest M (Over end)

-- no reader of an input waits for a token in it
abbrev pub NoneStarves : Network → List Standing → List ℕ → Type 0
NoneStarves net standings inputs = list_any (starves net standings) inputs ≡ false

-- some writer of an output waits for room in it
abbrev pub SomeHoldsUp : Network → List Standing → List ℕ → Type 0
SomeHoldsUp net standings outputs = list_any (holds_up net standings) outputs ≡ true

-- the standings await a token in an input, or else room in an output
abbrev pub IsAwaited : Network → List Standing → List ℕ → List ℕ → Pause → Type 0
IsAwaited net standings inputs outputs Cut = ⊥
IsAwaited net standings inputs outputs Starved = list_any (starves net standings) inputs ≡ true
IsAwaited net standings inputs outputs Blocked = NoneStarves net standings inputs × SomeHoldsUp net standings outputs
IsAwaited net standings inputs outputs (Over end) = ⊥

-- unless the flow was cut, the standings have what each process wants
abbrev pub TellWants : Family → Network → State → List Standing → Pause → Type 0
TellWants kinds net M standings Cut = Unit {0}
TellWants kinds net M standings pause = (p : ℕ) → wants kinds net M p ≡ parked_answer (standing standings p)

module _ (kinds : Family) (net : Network) (inputs outputs : List ℕ) (before after : Counts) where
  -- at most `most` entries lead from M to N, they were counted, and the flow returned for this reason
  pub record Advances (M N : State) (most : ℕ) (pause : Pause) : Type 0 where
    pub entries : List Entry
    pub run : OpenRun kinds net inputs outputs M entries N
    pub few : length entries ≤ most
    pub counts : after ≡ counted before entries
    pub back : IsPause kinds net inputs outputs most (length entries) N pause

-- the flow goes on so far, and returns for this reason
abbrev pub FlowAdvances : Family → FlowView → FlowView → ℕ → Pause → Type 0
FlowAdvances kinds s t most pause =
    Advances kinds s.network s.unended s.outputs s.counts t.counts s.state t.state most pause

-- the reader of c wants to read from it, and it is empty
abbrev pub StarvesReader : Family → FlowView → ℕ → Type 0
StarvesReader kinds s c = IsStarving kinds s.network s.state (channel_of s.network c).reader c

-- the writer of c wants to write to it, and it is full
abbrev pub BlocksWriter : Family → FlowView → ℕ → Type 0
BlocksWriter kinds s c = IsBlocked kinds s.network s.state (channel_of s.network c).writer c

module _ {X K H : Type 0} (kinds : KindsOf X) (opened : OpenNet K) where
  -- the core goes on so far, with these counts, and returns for this reason
  abbrev pub CoreAdvances : Counts → Counts → Core H → Core H → ℕ → Pause → Type 0
  CoreAdvances before after core moved =
      Advances (family kinds) opened.net.now opened.inputs.now opened.outputs.now before after
      core.store.state moved.store.state
