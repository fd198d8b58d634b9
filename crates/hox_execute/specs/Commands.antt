-- What the commands of `hox` do, from what is wanted and files to what is written.
use Rattle.std.specs.Prelude.{◌≡◌, ℕ, Bool, true, false, List, [], ◌∷◌, Result, Ok, Err, IfOk, IfErr, OnErr, MatchResult}
use Rattle.kpn_model.specs.Network.{Family, Network}
use Rattle.kpn_picture.specs.declared.looks.Direction.{Direction}
use Rattle.kpn_front.specs.declared.status.ExitStatus.{ExitStatus}
use Rattle.kpn_front.specs.declared.status.ExitStatus.TheVariants.{Success}
use Rattle.kpn_front.specs.Lines.{checked_line}
use Rattle.kpn_front.specs.Names.{KindNames, Signatures}
use Rattle.hox_network.specs.declared.request.Fault.{Fault}
use Rattle.hox_network.specs.declared.request.Request.{Request}
use Rattle.hox_run.specs.declared.telling.Told.{Told}
use Rattle.hox_network.specs.Preparing.{GivesNet, IsFault}
use Rattle.hox_run.specs.Serving.{GivesRun}
use Rattle.hox_draw.specs.Drawing.{DrawsPrepared}
use Rattle.hox_draw.specs.Titles.{Titles}
use Rattle.hox_files.specs.declared.reading.Asked.{Asked}
use Rattle.hox_execute.specs.declared.running.Ran.{Ran}
use Rattle.hox_files.specs.declared.stops.Stop.{Stop}
use Rattle.hox_files.specs.declared.stops.Stop.TheVariants.{Clash, Format, InputTwice, Memory, NoPair, Refused, Unread, Words}
use Rattle.hox_files.specs.Files.{Clashing, Contents, Effect, Effects, Texts, standard, wrote}
use Rattle.hox_execute.specs.Reports.{IsNoted, Writes, rate_of, written_of}
use Rattle.hox_expanded.specs.Description.{description}
use Rattle.hox_files.specs.Requests.{IsAsked, IsUnasked, ServesFile, Want}

-- what a command may do, and why it may stop
module _ {X Y : Type 0} (did : X → Type 0) (stopped : Y → Type 0) where
  -- how it ends: with what it did, or with the reason why it stopped; then it wrote nothing
  pub record Ends (before after : Effects) (result : Result X Y) : Type 0 where
    pub done : IfOk result did
    pub stop : IfErr result stopped
    pub untouched : OnErr result (after ≡ before)

module _ (kinds : Family) (named : KindNames) (title : Titles) (direction : Direction) where
  -- the result of drawing a loaded network: its picture, or a fault
  abbrev pub GivesDrawing : Bool → Request → Network → Result (List ℕ) Fault → Type 0
  GivesDrawing is_run request net result =
      MatchResult result (DrawsPrepared kinds named title direction is_run request net) (IsFault request net)

-- what is written of a network that is accepted: a line, or the network as a description
abbrev pub checked_text : Titles → Bool → Network → List ℕ
checked_text title false net = checked_line net
checked_text title true net = description net title

module _ (want : Want) (asked : Asked) (told : Told) where
  -- what is due to be written of a run
  abbrev pub told_effects : List Effect
  told_effects = written_of want (rate_of asked.request.tokens) asked.outputs.items told

  -- the result of a run is written, and the rest is noted
  pub record HasWritten (steady : Bool) (before after : Effects) (ran : Ran) : Type 0 where
    pub noted : IsNoted asked.tokens.items asked.outputs.items told ran
    pub writes : Writes told.status told_effects steady before after ran.status

-- a family's names and ports; the contents of each file and which names clash, if known
module _ (named : KindNames) (signature : Signatures) (contents : Contents) (clash : Clashing) where
  -- what is wanted; and the texts CHANNEL=FILE of tokens and of streams
  module _ (want : Want) (tokens outputs : Texts) where
    -- what a request gives for a network
    module _ {X : Type 0} (gives : Request → Network → Result X Fault → Type 0) where
      -- the request is read, and this is the result of the description and that request
      pub record Comes (asked : Asked) (result : Result X Fault) : Type 0 where
        pub is_asked : IsAsked contents clash want tokens outputs asked
        pub serves : ServesFile contents named signature (gives asked.request) want.file result

    -- why a command is not carried out: there is no request, or it fails
    abbrev pub IsStop : Stop → Type 0
    IsStop (Refused refusal) = (refusal.file.now ≡ want.file) × Comes GivesNet refusal.asked (Err refusal.fault)
    IsStop (NoPair option text) = IsUnasked contents clash want tokens outputs (NoPair option text)
    IsStop (Format stop) = IsUnasked contents clash want tokens outputs (Format stop)
    IsStop InputTwice = IsUnasked contents clash want tokens outputs InputTwice
    IsStop (Clash one other) = IsUnasked contents clash want tokens outputs (Clash one other)
    IsStop (Unread file error) = IsUnasked contents clash want tokens outputs (Unread file error)
    IsStop Memory = Unit {0}
    IsStop (Words fault) = ⊥

    -- whether no write can fail; the effects before and after
    module _ (steady : Bool) (before after : Effects) where
      -- the network is run, and its result is written
      pub record HasRun (kinds : Family) (ran : Ran) : Type 0 where
        pub asked : Asked
        pub told : Told
        pub comes : Comes (GivesRun kinds) asked (Ok told)
        pub written : HasWritten want asked told steady before after ran

      module _ (status : ExitStatus) where
        -- the description is a network, and that is written, or the network
        pub record HasChecked (title : Titles) (expanded : Bool) : Type 0 where
          pub asked : Asked
          pub net : Network
          pub comes : Comes GivesNet asked (Ok net)
          pub writes : Writes Success (wrote standard (checked_text title expanded net) ∷ []) steady before after status

        -- the network is drawn, as it is or as a run left it, and the picture is written
        pub record HasDrawn (kinds : Family) (title : Titles) (direction : Direction) (is_run : Bool) : Type 0 where
          pub asked : Asked
          pub picture : List ℕ
          pub comes : Comes (GivesDrawing kinds named title direction is_run) asked (Ok picture)
          pub writes : Writes Success (wrote standard picture ∷ []) steady before after status

      abbrev pub EndsCheck : Titles → Bool → Result ExitStatus Stop → Type 0
      EndsCheck title expanded result = Ends (λ status. HasChecked status title expanded) IsStop before after result
