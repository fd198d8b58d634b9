-- The result of a request, from the bytes of a description.
use Rattle.std.specs.Prelude.{◌≡◌, ◌≢◌, ◌<◌, ◌≤◌, ◌+◌, ℕ, Bool, true, false, List, [], length, map, get_or, Option, Some, None, IfSome, Result, Ok, Err, MatchResult}
use Rattle.kpn_sketch.specs.declared.fault.NetFault.{NetFault}
use Rattle.kpn_sketch.specs.declared.fault.NetFault.TheVariants.{Input}
use Rattle.kpn_front.specs.Names.{KindNames, Signatures}
use Rattle.kpn_front.specs.declared.streams.Source.{Ghosts as SourceOf}
use Rattle.kpn_model.specs.Network.{Network, number_of_channel}
use Rattle.kpn_front.specs.Loading.{ConsumesAtMost, longest}
use Rattle.hox_network.specs.declared.request.Request.{Request}
use Rattle.hox_network.specs.declared.request.Fault.{Fault}
use Rattle.hox_network.specs.declared.request.Fault.TheVariants.{Description, Tokens, Budget, NoHolder, NoShown, NoOutput, Memory, Lost}
use Rattle.hox_network.specs.declared.presets.FileFault.TheVariants.{NoChannel}
use Rattle.hox_network.specs.Meant.{LoadsMeant}
use Rattle.hox_network.specs.Presets.{IsNoBudget, PresetAll, Stops, greatest_budget, with_budget}

-- a network may have the requested budget
abbrev pub MayHaveBudget : Network → Option ℕ → Type 0
MayHaveBudget net budget = IfSome budget (λ n. (1 ≤ n) × (n ≤ greatest_budget net.ceiling))

-- the network as requested: with start tokens from the files, and the requested budget
pub record Prepares (request : Request) (net other : Network) : Type 0 where
  pub preset : Network
  pub presets : PresetAll request.tokens net preset
  pub may : MayHaveBudget preset request.budget
  pub is : other ≡ with_budget request.budget preset

-- name k is no channel
abbrev pub LacksChannel : Network → List (List ℕ) → ℕ → Type 0
LacksChannel net names k = (k < length names) × (number_of_channel net (get_or names k []) ≡ None)

abbrev pub channel_names : Network → List (List ℕ)
channel_names net = map (λ c. c.name) net.channels

-- name k is no channel, and these are the names of all channels
abbrev pub IsUnnamed : Network → List (List ℕ) → ℕ → List (List ℕ) → Type 0
IsUnnamed net asked k names = LacksChannel net asked k × (names ≡ channel_names net)

-- so it is in the network as requested
abbrev pub LacksName : Request → Network → List (List ℕ) → ℕ → List (List ℕ) → Type 0
LacksName request net asked k names = (other : Network) × Prepares request net other × IsUnnamed other asked k names

-- when each fault occurs: in the files, from the first on; in the budget; in the names of channels; for
-- `Memory` and `Lost` at any time. A fault of a name has the names of all channels
abbrev pub IsFault : Request → Network → Fault → Type 0
IsFault request net (Description refused) = ⊥
IsFault request net (Tokens stop) = Stops request.tokens net stop.file stop.fault × (stop.fault ≢ NoChannel)
IsFault request net (Budget greatest) =
    (preset : Network) × PresetAll request.tokens net preset × (greatest ≡ greatest_budget preset.ceiling)
    × (n : ℕ) × (request.budget ≡ Some n) × IsNoBudget greatest n
IsFault request net (NoHolder file names) = Stops request.tokens net file NoChannel × (names ≡ channel_names net)
IsFault request net (NoShown k names) = LacksName request net (map (λ s. s.channel) request.show) k names
IsFault request net (NoOutput k names) = LacksName request net (map (λ s. s.channel) request.outputs) k names
IsFault request net Memory = Unit {0}
IsFault request net Lost = 1 < request.workers

-- the result of preparing a network
abbrev pub GivesNet : Request → Network → Result Network Fault → Type 0
GivesNet request net result = MatchResult result (Prepares request net) (IsFault request net)

-- the fault of a rejected description
abbrev pub refusal : Fault → Option NetFault
refusal (Description refused) = Some refused.fault
refusal _ = None

-- what is given for a network
module _ {X : Type 0} (gives : Network → Result X Fault → Type 0) where
  -- the result for a description that was loaded or rejected
  abbrev pub GivesLoaded : Result Network NetFault → Result X Fault → Type 0
  GivesLoaded (Ok net) result = gives net result
  GivesLoaded (Err fault) result = MatchResult result (λ x. ⊥) (λ e. refusal e ≡ Some fault)

module _ {X : Type 0} (named : KindNames) (signature : Signatures) (gives : Network → Result X Fault → Type 0) where
  -- the bytes of the input, if known
  module _ (input : Option (List ℕ)) where
    -- it is loaded and completed, with this result, given whether a read failed before and after
    pub record Serves (failed_before failed_after : Bool) (result : Result X Fault) : Type 0 where
      pub loaded : Result Network NetFault
      pub loads : failed_before ≡ false → IfSome input (λ text. LoadsMeant named signature failed_after text loaded)
      pub failed : failed_before ≡ false → failed_after ≡ true → loaded ≡ Err Input
      pub comes : GivesLoaded gives loaded result

    -- what is left of it
    module _ (rest : Option (List ℕ)) where
      -- and it is read to its end, as far as a description may reach
      pub record ServesFrom (failed_before failed_after : Bool) (result : Result X Fault) : Type 0 where
        pub served : Serves failed_before failed_after result
        pub taken : ConsumesAtMost (longest + 1) input rest

  -- a source before and after it is read
  module _ {I : Type 0} (source : SourceOf I) (before after : I) where
    -- its bytes are served, given whether a read failed before and after
    abbrev ServesBytes : Bool → Bool → Result X Fault → Type 0
    ServesBytes failed_before failed_after result =
        ServesFrom (source.remaining before) (source.remaining after) failed_before failed_after result

    -- it is served, with this result
    abbrev pub ServesSource : Result X Fault → Type 0
    ServesSource result = ServesBytes (source.has_failed before) (source.has_failed after) result
