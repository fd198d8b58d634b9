-- The result of a request to run the network of a description.
use Rattle.std.specs.Prelude.{◌≡◌, ℕ, List, map, Some, Result, MatchResult, ◌⊎◌}
use Rattle.kpn_model.specs.declared.kinds.Kinds.{Ghosts as KindsOf}
use Rattle.kpn_model.specs.Families.{family}
use Rattle.kpn_model.specs.Network.{Family, Network, number_of_channel}
use Rattle.kpn_front.specs.declared.streams.Source.{Ghosts as SourceOf}
use Rattle.std.specs.List.{AllZip}
use Rattle.hox_network.specs.declared.request.Request.{Request}
use Rattle.hox_network.specs.declared.request.StreamAs.{StreamAs}
use Rattle.kpn_tokens.specs.declared.layouts.Decimals.{Decimals}
use Rattle.kpn_tokens.specs.declared.layouts.Layout.{Layout}
use Rattle.hox_run.specs.declared.shown.ChannelAs.{ChannelAs}
use Rattle.hox_network.specs.declared.request.Fault.{Fault}
use Rattle.hox_network.specs.Preparing.{IsFault, LacksChannel, Prepares, ServesSource}
use Rattle.hox_run.specs.declared.serving.Missing.{Missing}
use Rattle.hox_run.specs.declared.serving.Missing.TheVariants.{Channel, Memory}
use Rattle.hox_run.specs.declared.telling.Told.{Told}
use Rattle.hox_run.specs.Telling.{TellsRun}

abbrev pub names_of : {W : Type 0} → List (StreamAs W) → List (List ℕ)
names_of texts = map (λ t. t.channel) texts

-- the channels of these names, with the formats of their tokens
pub record IsNamed {W : Type 0} (net : Network) (text : StreamAs W) (channel : ChannelAs W) : Type 0 where
  pub named : number_of_channel net text.channel ≡ Some channel.channel
  pub written : channel.written ≡ text.written

abbrev pub AreNamed : {W : Type 0} → Network → List (StreamAs W) → List (ChannelAs W) → Type 0
AreNamed net texts channels = AllZip (IsNamed net) texts channels

-- some text names no channel, or out of memory
abbrev pub LacksSome : {W : Type 0} → Network → List (StreamAs W) → Missing → Type 0
LacksSome net texts missing =
    (missing ≡ Memory) ⊎ ((k : ℕ) × (missing ≡ Channel k) × LacksChannel net (names_of texts) k)

-- the result of running a prepared network
pub record Tells (kinds : Family) (request : Request) (net : Network) (told : Told) : Type 0 where
  pub other : Network
  pub prepares : Prepares request net other
  pub show : List (ChannelAs Decimals)
  pub shown : AreNamed other request.show show
  pub outputs : List (ChannelAs Layout)
  pub named : AreNamed other request.outputs outputs
  pub tells : TellsRun kinds other show outputs told

-- the result of a loaded network: a run
abbrev pub GivesRun : Family → Request → Network → Result Told Fault → Type 0
GivesRun kinds request net result = MatchResult result (Tells kinds request net) (IsFault request net)

module _ {K : Type 0} (kinds : KindsOf K) (request : Request) where
  -- the result of whatever network this one is prepared of
  abbrev pub GivesPrepared : Network → Result Told Fault → Type 0
  GivesPrepared net result =
      (loaded : Network) → Prepares request loaded net → GivesRun (family kinds) request loaded result

  -- a source is served with a run
  abbrev pub ServesRun : {I : Type 0} → SourceOf I → I → I → Result Told Fault → Type 0
  ServesRun source before after result =
      ServesSource kinds.named kinds.signature (GivesRun (family kinds) request) source before after result
