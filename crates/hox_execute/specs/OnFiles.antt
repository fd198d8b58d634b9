-- What `hox` promises, of a family's kinds and a file system.
use Rattle.std.specs.Prelude.{◌≡◌, ℕ, Bool, List, [], Result, Ok, Err, String, string_bytes}
use Rattle.std.specs.Borrow.{Bor}
use Rattle.std.specs.declared.vec.Vec.{Vec}
use Rattle.kpn_model.specs.declared.kinds.Kinds.{Ghosts as KindsOf}
use Rattle.kpn_model.specs.Families.{family}
use Rattle.kpn_model.specs.Network.{Network}
use Rattle.kpn_front.specs.declared.status.ExitStatus.{ExitStatus}
use Rattle.kpn_front.specs.declared.streams.Source.{Ghosts as SourceOf}
use Rattle.kpn_flow.specs.Flows.{FlowView}
use Rattle.kpn_sketch.specs.declared.sketch.Sketch.{Sketch}
use Rattle.hox_args.specs.declared.arguments.Choice.{Choice}
use Rattle.hox_args.specs.declared.arguments.DrawChoice.{DrawChoice}
use Rattle.hox_args.specs.declared.arguments.RunChoice.{RunChoice}
use Rattle.hox_args.specs.declared.arguments.StreamChoice.{StreamChoice}
use Rattle.hox_format.specs.declared.resumed.Resumed.{Resumed}
use Rattle.hox_format.specs.declared.resuming.Begun.{Begun}
use Rattle.hox_format.specs.Resuming.{left_of, resumed_has_failed}
use Rattle.hox_network.specs.declared.request.Fault.{Fault}
use Rattle.hox_network.specs.declared.request.Request.{Request}
use Rattle.hox_network.specs.Preparing.{GivesNet}
use Rattle.hox_run.specs.declared.telling.Told.{Told}
use Rattle.hox_run.specs.Serving.{GivesRun}
use Rattle.hox_draw.specs.declared.drawing.WantedPicture.{WantedPicture}
use Rattle.hox_draw.specs.Drawing.{GivesWanted}
use Rattle.hox_draw.specs.Titles.{Titles}
use Rattle.hox_stream.specs.declared.finish.StreamFinish.{StreamFinish}
use Rattle.hox_stream.specs.Views.{InletView, OutsView, outs}
use Rattle.hox_files.specs.declared.files.FileSystem.{Ghosts as FileSystemOf}
use Rattle.hox_files.specs.declared.pairs.Pair.{Pair}
use Rattle.hox_files.specs.declared.reading.Asked.{Asked}
use Rattle.hox_files.specs.declared.reading.CommandOptions.{CommandOptions}
use Rattle.hox_files.specs.declared.stops.Stop.{Stop}
use Rattle.hox_files.specs.declared.stops.Stop.TheVariants.{Memory}
use Rattle.hox_files.specs.declared.stops.Unserved.{Unserved}
use Rattle.hox_files.specs.Files.{Clashing, Contents, Effect, Effects, Texts, texts_in}
use Rattle.hox_files.specs.Requests.{ServesFile, Want, want_of}
use Rattle.hox_files.specs.Served.{ServesNamed}
use Rattle.hox_execute.specs.declared.running.Ran.{Ran}
use Rattle.hox_execute.specs.declared.serving.ServedCommand.{ServedCommand}
use Rattle.hox_execute.specs.declared.streaming.StreamEnds.{StreamEnds}
use Rattle.hox_execute.specs.declared.streaming.Streamed.{Streamed}
use Rattle.hox_execute.specs.declared.streaming.StreamStop.{StreamStop}
use Rattle.hox_execute.specs.declared.streaming.Unopened.{Unopened}
use Rattle.hox_execute.specs.declared.writing.WrittenStreams.{WrittenStreams}
use Rattle.hox_execute.specs.Commands.{Ends, EndsCheck, HasWritten, checked_text}
use Rattle.hox_execute.specs.Program.{EndsChoice, EndsDraw, EndsRun, IsProgramStop, Serves}
use Rattle.hox_execute.specs.Reports.{TriesAll, TriesNext, Writes, told_written}
use Rattle.hox_execute.specs.Streaming.{IsOpened, IsSketchIn, IsStreamStop, IsUnopened, RunsBetween, StreamsBetween}

-- what is due to be written of a run: the report, unless the command is quiet, and the streams
abbrev pub told_due : {Z : Type 0} → Bool → String Z → WrittenStreams → List Effect
told_due is_quiet report streams = told_written is_quiet streams.outputs.now (string_bytes report) streams.texts.now

-- a file system, before and after
module _ {S I O : Type 0} (system : FileSystemOf S I O) (old new : S) where
  -- these effects are tried from the old one on
  abbrev TriesFrom : List Effect → Bool → Bool → Effects → Type 0
  TriesFrom effects are_done steady after =
      TriesAll effects are_done (system.is_steady old) (system.effects old) steady after

  -- they are tried, and whether all were done
  abbrev pub TriesOn : List Effect → Bool → Type 0
  TriesOn effects are_done = TriesFrom effects are_done (system.is_steady new) (system.effects new)

  -- so is an effect, after whatever was tried before
  abbrev pub TriesMore : Effect → Bool → Bool → Type 0
  TriesMore effect were_done are_done =
      TriesNext effect were_done (system.effects old) are_done (system.effects new)

  -- they are tried, with the intended status, or another if one fails
  abbrev pub WritesOn : ExitStatus → List Effect → ExitStatus → Type 0
  WritesOn status effects given =
      Writes status effects (system.is_steady old) (system.effects old) (system.effects new) given

  -- the result of a run is written
  abbrev pub HasWrittenOn : CommandOptions → Asked → Told → Ran → Type 0
  HasWrittenOn wanted asked told ran =
      HasWritten (want_of wanted) asked told (system.is_steady old) (system.effects old) (system.effects new) ran

  -- how writing it ends; it stops for want of memory alone
  abbrev pub EndsWriting : CommandOptions → Asked → Told → Result Ran Stop → Type 0
  EndsWriting wanted asked told result =
      Ends (HasWrittenOn wanted asked told) (λ stop. stop ≡ Memory) (system.effects old) (system.effects new) result

-- a family's kinds, and a file system
module _ {K S I O : Type 0} (kinds : KindsOf K) (system : FileSystemOf S I O) (files : S) where
  -- a request is run, of the description in the file of this name
  abbrev pub RunsNamed : Request → List ℕ → Result Told Unserved → Type 0
  RunsNamed request name result =
      ServesNamed (system.contents files) kinds.named kinds.signature (GivesRun (family kinds) request) name result

  -- or the picture that is wanted is drawn
  abbrev pub DrawsNamed : {Z : Type 0} → Titles → WantedPicture → List ℕ → Result (String Z) Unserved → Type 0
  DrawsNamed title wanted name result =
      ServesNamed (system.contents files) kinds.named kinds.signature (GivesWanted kinds title wanted) name result

  module _ (request : Request) (name : List ℕ) where
    -- or the network is prepared
    abbrev PreparesNamed : Result Network Fault → Type 0
    PreparesNamed result =
        ServesFile (system.contents files) kinds.named kinds.signature (GivesNet request) name result

    -- and this is what is written of it
    abbrev pub TellsChecked : {Z : Type 0} → Titles → Bool → Vec ℕ Z → Type 0
    TellsChecked title is_expanded text =
        (net : Network) × PreparesNamed (Ok net) × (text.items ≡ checked_text title is_expanded net)

    -- or nothing is told, for this fault
    abbrev pub IsUnchecked : Unserved → Type 0
    IsUnchecked unserved = let refused : Result Network Fault = Err unserved.fault in PreparesNamed refused

  -- why the arguments are not carried out
  abbrev pub StopsOn : List (Bor (List ℕ)) → Stop → Type 0
  StopsOn arguments stop =
      IsProgramStop kinds.named kinds.signature (system.contents files) (system.clash files) (texts_in arguments) stop

  -- the description in the file of this name is that of a sketch
  abbrev pub HasSketch : List ℕ → Sketch → Type 0
  HasSketch name sketch = IsSketchIn kinds.named kinds.signature (system.contents files) name sketch

  -- why a stream of that description is not opened between these ends
  abbrev pub IsUnopenedOn : List ℕ → StreamEnds → Unopened → Type 0
  IsUnopenedOn name ends unopened =
      IsUnopened (family kinds) kinds.named kinds.signature (system.contents files) name ends unopened

  -- why a choice is not streamed
  abbrev pub IsStreamStopOn : StreamChoice → StreamStop → Type 0
  IsStreamStopOn choice stop =
      IsStreamStop (family kinds) kinds.named kinds.signature (system.contents files) (system.clash files) choice stop

  -- a choice is streamed between ends, to this end
  abbrev StreamsEnds : StreamChoice → StreamEnds → FlowView → List InletView → OutsView → StreamFinish → Type 0
  StreamsEnds =
      StreamsBetween (family kinds) kinds.named kinds.signature (system.contents files) (system.clash files)

  -- a stream runs between ends, from this start to this end
  abbrev RunsEnds : StreamEnds → FlowView → FlowView → List InletView → OutsView → StreamFinish → Type 0
  RunsEnds = RunsBetween (family kinds) (system.contents files)

  module _ {F X Y : Type 0} where
    -- the outlets and tables of a stream that ended
    abbrev outs_left : Streamed F X Y → OutsView
    outs_left s = outs s.served.outlets.items s.served.tables.items

    -- the choice was streamed, to this end
    abbrev pub StreamsOn : StreamChoice → Streamed F X Y → Type 0
    StreamsOn choice s =
        StreamsEnds choice s.ends s.served.flow s.served.inlets.items (outs_left s) s.served.finish

    -- the stream ran between these ends, which are its own
    abbrev pub RunsOn : StreamEnds → FlowView → Streamed F X Y → Type 0
    RunsOn ends start s =
        (s.ends ≡ ends)
        × RunsEnds ends start s.served.flow s.served.inlets.items (outs_left s) s.served.finish

-- a family's kinds, and a file system before and after a command
module _ {K S I O : Type 0} (kinds : KindsOf K) (system : FileSystemOf S I O) (old new : S) where
  module _ (want : Want) (tokens : Texts) where
    -- how a check of what is wanted ends, given what happens to files
    abbrev CheckEndsIn : Bool → Effects → Effects → Titles → Bool → Result ExitStatus Stop → Type 0
    CheckEndsIn =
        EndsCheck kinds.named kinds.signature (system.contents old) (system.clash old) want tokens []

    -- how it ends on these files
    abbrev CheckEnds : Titles → Bool → Result ExitStatus Stop → Type 0
    CheckEnds = CheckEndsIn (system.is_steady old) (system.effects old) (system.effects new)

  -- how a check of what is wanted ends
  abbrev pub EndsCheckOn : CommandOptions → List (Bor (List ℕ)) → Titles → Bool → Result ExitStatus Stop → Type 0
  EndsCheckOn wanted tokens title is_expanded result =
      CheckEnds (want_of wanted) (texts_in tokens) title is_expanded result

  module _ (contents : Contents) (clash : Clashing) (steady : Bool) (before after : Effects) where
    -- how a run, a command to draw and any command end, and how words are carried out, on files known so
    abbrev RunEnds : RunChoice → Result Ran Stop → Type 0
    RunEnds = EndsRun (family kinds) kinds.named kinds.signature contents clash steady before after

    abbrev DrawEnds : Titles → DrawChoice → Result ExitStatus Stop → Type 0
    DrawEnds = EndsDraw (family kinds) kinds.named kinds.signature contents clash steady before after

    abbrev AnyEnds : Titles → Choice → Result ServedCommand Stop → Type 0
    AnyEnds = EndsChoice (family kinds) kinds.named kinds.signature contents clash steady before after

    abbrev ServesBy : Titles → Texts → ServedCommand → Type 0
    ServesBy = Serves (family kinds) kinds.named kinds.signature contents clash steady before after

  -- how a run ends
  abbrev pub EndsRunOn : RunChoice → Result Ran Stop → Type 0
  EndsRunOn =
      RunEnds (system.contents old) (system.clash old) (system.is_steady old) (system.effects old) (system.effects new)

  -- how a command to draw ends
  abbrev pub EndsDrawOn : Titles → DrawChoice → Result ExitStatus Stop → Type 0
  EndsDrawOn =
      DrawEnds (system.contents old) (system.clash old) (system.is_steady old) (system.effects old) (system.effects new)

  -- how any command ends
  abbrev pub EndsChoiceOn : Titles → Choice → Result ServedCommand Stop → Type 0
  EndsChoiceOn =
      AnyEnds (system.contents old) (system.clash old) (system.is_steady old) (system.effects old) (system.effects new)

  -- these words are carried out
  abbrev ServesIn : Titles → Texts → ServedCommand → Type 0
  ServesIn =
      ServesBy (system.contents old) (system.clash old) (system.is_steady old) (system.effects old) (system.effects new)

  -- the arguments are carried out
  abbrev pub ServesOn : Titles → List (Bor (List ℕ)) → ServedCommand → Type 0
  ServesOn title arguments outcome = ServesIn title (texts_in arguments) outcome

-- a file system, and what is seen of a file that is read
module _ {S I O : Type 0} (system : FileSystemOf S I O) (source : SourceOf I) (files : S) where
  -- the file of a pair was opened, and read up to its tokens
  abbrev pub IsOpenedOn : Pair → Begun (Resumed I) → Type 0
  IsOpenedOn pair begun =
      IsOpened (left_of source.remaining) (resumed_has_failed source.has_failed) (system.contents files) pair begun
