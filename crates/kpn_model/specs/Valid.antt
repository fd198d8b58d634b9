-- Valid networks, and states with tokens of their channels' sorts.
use Rattle.std.specs.Prelude.{◌≡◌, ◌≢◌, ℕ, ◌<◌, ◌≤◌, true, List, Option, Some, IsSome, length}
use Rattle.std.specs.List.{All, Any, AllPairs, AllByRecursion}
use Rattle.kpn_model.specs.declared.token.Token.{Token}
use Rattle.kpn_model.specs.declared.token.Sort.{Sort}
use Rattle.kpn_model.specs.declared.kinds.Card.{Card}
use Rattle.kpn_model.specs.declared.kinds.Signature.{Signature}
use Rattle.kpn_model.specs.declared.parts.Channel.{Channel}
use Rattle.kpn_model.specs.declared.limits.TheConstants.{MOST_PROCESSES, MOST_CHANNELS, CEILING, HIGH_CEILING, GREATEST_BUDGET, GREATEST_HIGH_BUDGET, GREATEST_STEP}
use Rattle.kpn_model.specs.declared.history.Entry.{Entry}
use Rattle.kpn_model.specs.declared.history.Status.TheVariants.{Live}
use Rattle.kpn_model.specs.texts.NameForm.{is_name}
use Rattle.kpn_model.specs.Network.{Family, Network, card_of, channel_of, Admits}
use Rattle.kpn_model.specs.Lawful.{sort_of, Fits, CardFits, in_sort, out_sort}
use Rattle.kpn_model.specs.Semantics.{State, status, tokens, IsRun}

abbrev pub JustOne : {A : Type 0} → (A → Type 0) → List A → Type 0
JustOne P xs = Any P xs × AllPairs (λ x y. P x → P y → ⊥) xs

abbrev pub IsOfSort : Sort → Token → Type 0
IsOfSort sort t = (sort_of t ≡ sort) × Fits t

module _ (signature : Card → Option Signature) (net : Network) where
  -- the ends of a channel are ports of its sort
  pub record HasEnds (c : Channel) : Type 0 where
    pub writer : c.writer < length net.processes
    pub out : out_sort signature (card_of net c.writer) c.out ≡ Some c.sort
    pub reader : c.reader < length net.processes
    pub input : in_sort signature (card_of net c.reader) c.input ≡ Some c.sort

  -- each port of each process is an end of exactly one channel, of its sort; the ceiling and the greatest
  -- budget depend on the description's version
  pub record IsValid : Type 0 where
    pub some_process : 1 ≤ length net.processes
    pub few_processes : length net.processes ≤ MOST_PROCESSES
    pub few_channels : length net.channels ≤ MOST_CHANNELS
    pub process_names : All (λ p. is_name p.name ≡ true) net.processes
    pub channel_names : All (λ c. is_name c.name ≡ true) net.channels
    pub processes_apart : AllPairs (λ p q. p.name ≢ q.name) net.processes
    pub channels_apart : AllPairs (λ c d. c.name ≢ d.name) net.channels
    pub cards : All (λ p. CardFits p.card) net.processes
    pub signed : All (λ p. IsSome (signature p.card)) net.processes
    pub ends : All HasEnds net.channels
    pub writers : (p k : ℕ) → p < length net.processes → k < 3 → IsSome (out_sort signature (card_of net p) k)
        → JustOne (λ (c : Channel). (c.writer ≡ p) × (c.out ≡ k)) net.channels
    pub readers : (p k : ℕ) → p < length net.processes → k < 3 → IsSome (in_sort signature (card_of net p) k)
        → JustOne (λ (c : Channel). (c.reader ≡ p) × (c.input ≡ k)) net.channels
    pub capacities : All (λ c. (1 ≤ c.capacity) × (c.capacity ≤ net.ceiling)) net.channels
    pub start_tokens : All (λ c. AllByRecursion (IsOfSort c.sort) c.tokens) net.channels
    pub start_fits : All (λ c. length c.tokens ≤ c.capacity) net.channels
    pub some_step : 1 ≤ net.step
    pub small_step : net.step ≤ GREATEST_STEP
    pub small_ceiling : net.ceiling ≤ HIGH_CEILING
    pub some_budget : 1 ≤ net.budget
    pub small_budget : net.budget ≤ GREATEST_HIGH_BUDGET
    pub smaller_budget : net.ceiling ≤ CEILING → net.budget ≤ GREATEST_BUDGET

-- each token has its channel's sort, and each live process's state is admitted
pub record IsWellTyped (admits : Admits) (net : Network) (M : State) : Type 0 where
  pub tokens : (c : ℕ) → AllByRecursion (IsOfSort (channel_of net c).sort) (tokens M c)
  pub locals : (p : ℕ) (local : List ℕ) (last : Option Token) → status M p ≡ Live local last
      → admits (card_of net p) local last

-- each run of a valid network is well-typed at each moment
abbrev pub StaysWellTyped : (Card → Option Signature) → Admits → Family → Type 0
StaysWellTyped signature admits kinds =
    (net : Network)
    → IsValid signature net → (E : List Entry) (M : State) → IsRun kinds net E M → IsWellTyped admits net M
