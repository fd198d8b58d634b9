-- Solving a network's equations with functions on streams: in a network a process writes what it writes when
-- fed (Kahn 1974), and approximations that start empty lead to the least solution (Kleene 1952).
use Rattle.std.specs.Prelude.{◌≡◌, ◌↔◌, ℕ, suc, ◌<◌, ◌≤◌, ◌==◌, nat_lt, not, ◌&&◌, ◌||◌, if◌then◌else◌, Bool, true, false, List, [], ◌++◌, Option, Some, None, IsSome, is_some, length, get_or, slice_get, map}
use Rattle.std.specs.Option.{option_map_or}
use Rattle.std.specs.List.{range_with_len, list_all}
use Rattle.kpn_model.specs.declared.token.Token.{Token}
use Rattle.kpn_model.specs.declared.token.Sort.TheVariants.{Words}
use Rattle.kpn_model.specs.declared.parts.Process.{Process}
use Rattle.kpn_model.specs.declared.parts.Channel.{Channel}
use Rattle.kpn_model.specs.declared.history.Deed.{Deed}
use Rattle.kpn_model.specs.declared.history.Entry.{Entry}
use Rattle.kpn_model.specs.declared.history.End.{End}
use Rattle.kpn_model.specs.Network.{Family, Network, card_of, channel_of, in_of, out_of, resized}
use Rattle.kpn_model.specs.Semantics.{State, IsRun}
use Rattle.kpn_model.specs.Endings.{IsNatural, IsFinal}
use Rattle.kpn_model.specs.History.{stream, IsPrefixOf}
use Rattle.kpn_laws.specs.Alone.{Streams, BeginsWith, puts, DoesAlone}
use Rattle.kpn_laws.specs.Equations.{Obeys, IsSolution, IsLeastSolution}
use Rattle.kpn_streams.specs.Fed.{Writes}

abbrev pub as_streams : (ℕ → List Token) → Streams
as_streams X c n = slice_get (X c) n

-- the stream of the channel at a port begins with these tokens; no channel has none
abbrev pub BeginsAt : Streams → Option ℕ → List Token → Type 0
BeginsAt U None ts = ts ≡ []
BeginsAt U (Some c) ts = BeginsWith (U c) ts

-- it has no other tokens
abbrev pub EndsAt : Streams → Option ℕ → List Token → Type 0
EndsAt U None ts = Unit {0}
EndsAt U (Some c) ts = (n : ℕ) (t : Token) → U c n ≡ Some t → slice_get ts n ≡ Some t

-- p's outputs with a channel are the first n
abbrev pub HasOutputs : Network → ℕ → ℕ → Type 0
HasOutputs net p n = (k : ℕ) → IsSome (out_of net p k) ↔ (k < n)

-- p's inputs with a channel are among the first `inputs`, its outputs with one are the first `outputs`
pub record HasPorts (net : Network) (p inputs outputs : ℕ) : Type 0 where
  pub process : p < length net.processes
  pub ins : (k : ℕ) → inputs ≤ k → in_of net p k ≡ None
  pub outs : HasOutputs net p outputs

-- computes for a written-out network
abbrev pub has_ports : Network → ℕ → ℕ → ℕ → Bool
has_ports net p inputs outputs =
    nat_lt p (length net.processes)
    && (list_all (λ l. nat_lt l.input inputs || not (l.reader == p)) net.channels
    && (list_all (λ l. nat_lt l.out outputs || not (l.writer == p)) net.channels
    && list_all (λ k. is_some (out_of net p k)) (range_with_len 0 outputs)))

-- each channel comes after those that its writer reads, so there is no loop
abbrev pub IsInOrder : Network → Type 0
IsInOrder net =
    (b c : ℕ)
    → b < length net.channels → c < length net.channels → (channel_of net b).reader ≡ (channel_of net c).writer
    → b < c

-- the writer of c reads b
abbrev pub is_read_for : Network → ℕ → ℕ → Bool
is_read_for net b c = (channel_of net b).reader == (channel_of net c).writer

-- b comes before all channels whose writer reads it
abbrev pub precedes_all : Network → ℕ → Bool
precedes_all net b = list_all (λ c. nat_lt b c || not (is_read_for net b c)) (range_with_len 0 (length net.channels))

abbrev pub is_in_order : Network → Bool
is_in_order net = list_all (λ b. precedes_all net b) (range_with_len 0 (length net.channels))

-- the tokens of p's first inputs, if the channels have the tokens X
abbrev pub fed : Network → (ℕ → List Token) → ℕ → ℕ → List (List Token)
fed net X p inputs = map (λ k. option_map_or X (in_of net p k) []) (range_with_len 0 inputs)

-- of the channels at one output c is the first
abbrev pub is_first_out : Network → ℕ → Bool
is_first_out net c = option_map_or (λ b. b == c) (out_of net (channel_of net c).writer (channel_of net c).out) false

-- what c gets of its writer's outputs: of two channels at one output only the first gets it
abbrev pub written_to : Network → ℕ → List (List Token) → List Token
written_to net c outs =
    if is_first_out net c then get_or outs (channel_of net c).out [] else []

module _ (kinds : Family) (net : Network) where
  -- the equation of c: for the tokens X it has its start tokens, then what its writer writes to it
  pub record HasEquation (X : ℕ → List Token) (c : ℕ) (ts : List Token) : Type 0 where
    pub inputs : ℕ
    pub outs : List (List Token)
    pub ports : HasPorts net (channel_of net c).writer inputs (length outs)
    pub writes : Writes kinds (card_of net (channel_of net c).writer) (fed net X (channel_of net c).writer inputs) outs
    pub is : ts ≡ (channel_of net c).tokens ++ written_to net c outs

  pub record Solves (X : ℕ → List Token) : Type 0 where
    pub equations : (c : ℕ) → c < length net.channels → HasEquation X c (X c)
    pub beyond : (c : ℕ) → length net.channels ≤ c → X c ≡ []

  -- the first has no token; the equations make each next one of the one before
  pub record Approximates (A : ℕ → ℕ → List Token) : Type 0 where
    pub begins : (c : ℕ) → A 0 c ≡ []
    pub next : (n c : ℕ) → c < length net.channels → HasEquation (A n) c (A (suc n) c)
    pub beyond : (n c : ℕ) → length net.channels ≤ c → A n c ≡ []

-- T has exactly the tokens of all approximations
abbrev pub IsLimitOf : (ℕ → ℕ → List Token) → Streams → Type 0
IsLimitOf A T = (c k : ℕ) (t : Token) → (T c k ≡ Some t) ↔ ((n : ℕ) × (slice_get (A n c) k ≡ Some t))

-- X is the least solution; natural ends have exactly X, from any capacities; every run has prefixes of it
pub record HasStreams (kinds : Family) (net : Network) (X : ℕ → List Token) : Type 0 where
  pub least : IsLeastSolution kinds net (as_streams X)
  pub at_end : (sizes : ℕ → ℕ) (E : List Entry) (M : State) (a : End) → IsFinal kinds (resized net sizes) E M a
      → IsNatural a → (c : ℕ) → stream net E c ≡ X c
  pub in_run : (sizes : ℕ → ℕ) (E : List Entry) (M : State) → IsRun kinds (resized net sizes) E M → (c : ℕ)
      → IsPrefixOf (stream net E c) (X c)

-- only the cards, the ends of the channels and their start tokens
abbrev pub bare : Network → Network
bare net =
    record {
      processes = map (λ (p : Process). record { name = []; card = p.card }) net.processes;
      channels = map (λ (l : Channel). record l { name = []; sort = Words; capacity = 0 }) net.channels;
      budget = 0;
      step = 0;
      ceiling = 0;
    }

-- deeds of p put these tokens on its outputs
abbrev pub PutsOut : Network → ℕ → List Deed → List (List Token) → Type 0
PutsOut net p ds outs = (k c : ℕ) → out_of net p k ≡ Some c → puts ds c ≡ get_or outs k []

abbrev pub TestTellsPorts : Type 0
TestTellsPorts =
    (net : Network) (p inputs outputs : ℕ)
    → has_ports net p inputs outputs ≡ true → HasPorts net p inputs outputs

abbrev pub TestTellsOrder : Type 0
TestTellsOrder = (net : Network) → is_in_order net ≡ true → IsInOrder net

module _ (kinds : Family) where
  abbrev pub EquationByTest : Type 0
  EquationByTest =
      (net : Network) (X : ℕ → List Token) (c : ℕ) (ts : List Token) (inputs : ℕ) (outs : List (List Token))
      → has_ports net (channel_of net c).writer inputs (length outs) ≡ true
      → Writes kinds (card_of net (channel_of net c).writer) (fed net X (channel_of net c).writer inputs) outs
      → ts ≡ (channel_of net c).tokens ++ written_to net c outs → HasEquation kinds net X c ts

  -- a process alone writes what it writes when fed with first tokens of its input streams
  abbrev pub FedIsAlone : Type 0
  FedIsAlone =
      (net : Network) (U : Streams) (p : ℕ) (ins outs : List (List Token))
      → p < length net.processes → HasOutputs net p (length outs)
      → Writes kinds (card_of net p) ins outs → ((k : ℕ) → BeginsAt U (in_of net p k) (get_or ins k []))
      → (ds : List Deed) × DoesAlone kinds net U p ds × PutsOut net p ds outs

  -- and no more, if the streams have no other tokens
  abbrev pub FedIsAll : Type 0
  FedIsAll =
      (net : Network) (U : Streams) (p : ℕ) (ins outs : List (List Token))
      → p < length net.processes → HasOutputs net p (length outs)
      → Writes kinds (card_of net p) ins outs → ((k : ℕ) → EndsAt U (in_of net p k) (get_or ins k []))
      → (ds : List Deed) → DoesAlone kinds net U p ds → (k c : ℕ) → out_of net p k ≡ Some c
      → IsPrefixOf (puts ds c) (get_or outs k [])

  -- if a pre-fixed point begins with X, it also begins with what an equation makes of X
  abbrev pub StepIsBelow : Type 0
  StepIsBelow =
      (net : Network) (X : ℕ → List Token) (U : Streams) (c : ℕ) (ts : List Token)
      → Obeys kinds net U → ((b : ℕ) → BeginsWith (U b) (X b))
      → HasEquation kinds net X c ts → BeginsWith (U c) ts

  -- each pre-fixed point begins with each approximation
  abbrev pub ApproximationsAreBelow : Type 0
  ApproximationsAreBelow =
      (net : Network) (A : ℕ → ℕ → List Token) (U : Streams)
      → Approximates kinds net A → Obeys kinds net U → (n c : ℕ) → BeginsWith (U c) (A n c)

  -- each approximation begins with the one before
  abbrev pub ApproximationsGrow : Type 0
  ApproximationsGrow =
      (net : Network) (A : ℕ → ℕ → List Token)
      → Approximates kinds net A → (n c : ℕ) → IsPrefixOf (A n c) (A (suc n) c)

  -- some approximation begins with the streams of a run, over or not, from any starting capacities
  abbrev pub RunIsApproximated : Type 0
  RunIsApproximated =
      (net : Network) (A : ℕ → ℕ → List Token) (sizes : ℕ → ℕ) (E : List Entry) (M : State)
      → Approximates kinds net A → IsRun kinds (resized net sizes) E M
      → (n : ℕ) × ((c : ℕ) → IsPrefixOf (stream net E c) (A n c))

  -- the limit of the approximations is the least solution (Kleene 1952, Kahn 1974)
  abbrev pub LimitIsLeast : Type 0
  LimitIsLeast =
      (net : Network) (A : ℕ → ℕ → List Token) (T : Streams)
      → Approximates kinds net A → IsLimitOf A T → IsLeastSolution kinds net T

  -- the network computes an approximation that equals the one before
  abbrev pub FixedIsComputed : Type 0
  FixedIsComputed =
      (net : Network) (A : ℕ → ℕ → List Token) (n : ℕ)
      → Approximates kinds net A → ((c : ℕ) → A (suc n) c ≡ A n c) → HasStreams kinds net (A n)

  abbrev pub SolvedIsSolution : Type 0
  SolvedIsSolution = (net : Network) (X : ℕ → List Token) → Solves kinds net X → IsSolution kinds net (as_streams X)

  abbrev pub SolutionSolves : Type 0
  SolutionSolves =
      (net : Network) (X : ℕ → List Token) (c : ℕ) (ts : List Token)
      → IsSolution kinds net (as_streams X) → HasEquation kinds net X c ts → X c ≡ ts

  -- the network computes tokens that solve the equations if each pre-fixed point begins with them
  abbrev pub SolvedIsComputed : Type 0
  SolvedIsComputed =
      (net : Network) (X : ℕ → List Token)
      → Solves kinds net X → ((U : Streams) → Obeys kinds net U → (c : ℕ) → BeginsWith (U c) (X c))
      → HasStreams kinds net X

  -- or if there is no loop
  abbrev pub OrderedIsComputed : Type 0
  OrderedIsComputed = (net : Network) (X : ℕ → List Token) → Solves kinds net X → IsInOrder net → HasStreams kinds net X

  abbrev pub AlikeComputeTheSame : Type 0
  AlikeComputeTheSame =
      (net other : Network) (X : ℕ → List Token)
      → bare net ≡ bare other → HasStreams kinds net X → HasStreams kinds other X

  -- the laws by which the equations are solved
  pub record LawsOfSolving : Type 0 where
    pub equation : EquationByTest
    pub fed_alone : FedIsAlone
    pub fed_all : FedIsAll
    pub limit : LimitIsLeast
    pub grow : ApproximationsGrow
    pub below : ApproximationsAreBelow
    pub approximated : RunIsApproximated
    pub fixed : FixedIsComputed
    pub solved : SolvedIsSolution
    pub solves : SolutionSolves
    pub computed : SolvedIsComputed
    pub step : StepIsBelow
    pub ordered : OrderedIsComputed
    pub alike : AlikeComputeTheSame
