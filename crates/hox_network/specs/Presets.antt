-- Networks with start tokens from files.
use Rattle.std.specs.Prelude.{◌≡◌, ◌≤◌, ◌<◌, ℕ, suc, List, [], ◌∷◌, length, max, min, set, Option, Some, None, if◌then◌else◌, nat_le, ◌⊎◌}
use Rattle.std.specs.List.{AllByRecursion}
use Rattle.kpn_model.specs.declared.token.Token.{Token}
use Rattle.kpn_model.specs.declared.token.Sort.{Sort}
use Rattle.kpn_model.specs.declared.parts.Channel.{Channel}
use Rattle.kpn_model.specs.declared.limits.TheConstants.{CEILING, GREATEST_BUDGET, GREATEST_HIGH_BUDGET}
use Rattle.kpn_model.specs.Network.{Network, channel_of, number_of_channel}
use Rattle.kpn_model.specs.Valid.{IsOfSort}
use Rattle.kpn_tokens.specs.declared.reading.TheConstants.{MOST_TOKENS}
use Rattle.kpn_tokens.specs.declared.layouts.Layout.{Layout}
use Rattle.kpn_tokens.specs.Records.{Begin, Fails, Say}
use Rattle.hox_network.specs.declared.request.TokenFile.{TokenFile}
use Rattle.hox_network.specs.declared.presets.FileFault.{FileFault}
use Rattle.hox_network.specs.declared.presets.FileFault.TheVariants.{NoChannel, Record, TooMany, Memory}

-- a channel with these start tokens, and room for them
abbrev pub holding : List Token → Channel → Channel
holding tokens c = record c { capacity = max c.capacity (length tokens); tokens = tokens }

-- the network with these start tokens on channel c
abbrev pub with_tokens : Network → ℕ → List Token → Network
with_tokens net c tokens = record net { channels = set net.channels c (holding tokens (channel_of net c)) }

-- how many tokens a file may have: the limit of a channel
abbrev pub most_in : Network → ℕ
most_in net = min net.ceiling MOST_TOKENS

-- the file names channel c, and its records are these tokens, of c's sort and within c's limit
pub record Presets (net : Network) (file : TokenFile) (c : ℕ) (tokens : List Token) : Type 0 where
  pub channel : number_of_channel net file.channel ≡ Some c
  pub says : Say file.layout (channel_of net c).sort file.bytes tokens
  pub sorted : AllByRecursion (IsOfSort (channel_of net c).sort) tokens
  pub few : length tokens ≤ most_in net

-- the files set the start tokens of their channels, one after the other
pub data PresetAll : List TokenFile → Network → Network → Type 0 where
  none : {net : Network} → PresetAll [] net net
  one : {net other : Network} {file : TokenFile} {files : List TokenFile} (c : ℕ) (tokens : List Token)
      → Presets net file c tokens
      → PresetAll files (with_tokens net c tokens) other → PresetAll (file ∷ files) net other

-- the file sets the start tokens of its channel
abbrev pub PresetsOne : Network → TokenFile → Network → Type 0
PresetsOne net file other =
    (c : ℕ) × (tokens : List Token) × Presets net file c tokens × (other ≡ with_tokens net c tokens)

-- the first records have more tokens than this
abbrev pub BeginsTooMany : Layout → Sort → List ℕ → ℕ → Type 0
BeginsTooMany layout sort bytes most = (tokens : List Token) × Begin layout sort bytes tokens × (most < length tokens)

-- when a file's bytes have each fault: this record is the first that is no token; the first records have too
-- many tokens; or out of memory
abbrev pub IsBytesFault : Layout → Sort → List ℕ → ℕ → FileFault → Type 0
IsBytesFault layout sort bytes most NoChannel = ⊥
IsBytesFault layout sort bytes most (Record number fault) = Fails layout sort bytes number fault
IsBytesFault layout sort bytes most (TooMany n) = (n ≡ most) × BeginsTooMany layout sort bytes most
IsBytesFault layout sort bytes most Memory = Unit {0}

-- the bytes of a file for channel c are faulty
abbrev pub IsFaultAt : Network → TokenFile → ℕ → FileFault → Type 0
IsFaultAt net file c fault = IsBytesFault file.layout (channel_of net c).sort file.bytes (most_in net) fault

-- the file names no channel, or its bytes are faulty
abbrev pub IsFileFault : Network → TokenFile → FileFault → Type 0
IsFileFault net file NoChannel = number_of_channel net file.channel ≡ None
IsFileFault net file fault = (c : ℕ) × (number_of_channel net file.channel ≡ Some c) × IsFaultAt net file c fault

-- the file of this number, from 0, is the first with a fault
pub data Stops : List TokenFile → Network → ℕ → FileFault → Type 0 where
  here : {net : Network} {file : TokenFile} {files : List TokenFile} {fault : FileFault}
      → IsFileFault net file fault → Stops (file ∷ files) net 0 fault
  later : {net : Network} {file : TokenFile} {files : List TokenFile} {fault : FileFault} {number : ℕ}
      (c : ℕ) (tokens : List Token) → Presets net file c tokens
      → Stops files (with_tokens net c tokens) number fault → Stops (file ∷ files) net (suc number) fault

-- the greatest budget of a network with this ceiling
abbrev pub greatest_budget : ℕ → ℕ
greatest_budget ceiling = if nat_le ceiling CEILING then GREATEST_BUDGET else GREATEST_HIGH_BUDGET

-- the budget is not from 1 to the greatest
abbrev pub IsNoBudget : ℕ → ℕ → Type 0
IsNoBudget greatest budget = (budget ≡ 0) ⊎ (greatest < budget)

-- this ceiling allows the budget, and the network has it now
abbrev pub SetsBudget : ℕ → ℕ → Network → Network → Type 0
SetsBudget ceiling budget net other =
    (1 ≤ budget) × (budget ≤ greatest_budget ceiling) × (other ≡ record net { budget = budget })

-- this ceiling does not allow the budget, and the network is as it was
abbrev pub RefusesBudget : ℕ → ℕ → Network → Network → Type 0
RefusesBudget ceiling budget net other = (other ≡ net) × IsNoBudget (greatest_budget ceiling) budget

-- the network with the requested budget, if any
abbrev pub with_budget : Option ℕ → Network → Network
with_budget None net = net
with_budget (Some budget) net = record net { budget = budget }
