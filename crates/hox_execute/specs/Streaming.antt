-- What `hox stream` does, from its arguments and files to what is written.
use Rattle.std.specs.Prelude.{◌≡◌, ◌⊎◌, ℕ, codes, Bool, false, true, List, [], ◌∷◌, map, nat_lt, Option, None, IfSome, option_map, unwrap_or, Err}
use Rattle.std.specs.List.{AllZip, Any, filter}
use Rattle.std.specs.Io.KnownBytes.{Appends}
use Rattle.kpn_sketch.specs.declared.fault.NetFault.{NetFault}
use Rattle.kpn_sketch.specs.declared.fault.NetFault.TheVariants.{Input}
use Rattle.kpn_sketch.specs.declared.sketch.Sketch.{Sketch}
use Rattle.kpn_model.specs.Network.{Family, Network}
use Rattle.kpn_net.specs.Sketched.{net_of}
use Rattle.kpn_front.specs.Names.{KindNames, Signatures}
use Rattle.kpn_front.specs.Written.{SinkView}
use Rattle.kpn_compute.specs.Both.{both_family, both_named, both_ports}
use Rattle.kpn_flow.specs.Flows.{FlowView}
use Rattle.hox_network.specs.Meant.{IsSketchOf, LoadsMeant}
use Rattle.hox_stream.specs.declared.finish.StreamFinish.{StreamFinish}
use Rattle.hox_stream.specs.declared.serving.LaidOut.{LaidOut}
use Rattle.hox_stream.specs.declared.serving.LaidTable.{LaidTable}
use Rattle.hox_stream.specs.declared.starting.StreamFault.{StreamFault}
use Rattle.hox_stream.specs.Exits.{exit_named, exit_ports, exits, with_exits}
use Rattle.hox_stream.specs.Serves.{Serves, new_inlets, new_outs}
use Rattle.hox_stream.specs.Starts.{IsNoNetwork, IsStarted, IsStreamFault}
use Rattle.hox_stream.specs.Views.{InletView, OutsView}
use Rattle.kpn_tokens.specs.declared.layouts.Layout.{Layout}
use Rattle.hox_format.specs.Forms.{form}
use Rattle.hox_format.specs.Heads.{head_text, layout_of}
use Rattle.hox_format.specs.Resuming.{IsBegun}
use Rattle.hox_format.specs.Tables.{decimals_of}
use Rattle.hox_format.specs.declared.resuming.Begun.{Begun}
use Rattle.hox_args.specs.declared.arguments.StreamChoice.{StreamChoice}
use Rattle.hox_files.specs.declared.pairs.Pair.{Pair}
use Rattle.hox_files.specs.declared.stops.Stop.TheVariants.{Clash, Format, InputTwice, Memory, NoPair, Refused as WasRefused, Unread as NotRead, Words}
use Rattle.hox_files.specs.declared.stops.Stop.{Stop}
use Rattle.hox_execute.specs.declared.streaming.StreamEnds.{StreamEnds}
use Rattle.hox_execute.specs.declared.streaming.StreamStop.{StreamStop}
use Rattle.hox_execute.specs.declared.streaming.StreamStop.TheVariants.{Asked, Headless, OutputTwice, Refused, Unopened as NotOpened, Unread, Unwritten}
use Rattle.hox_execute.specs.declared.streaming.Unopened.{Unopened}
use Rattle.hox_execute.specs.declared.streaming.Unopened.TheVariants.{Refused as IsRefused, Faulty, Memory as NoMemory}
use Rattle.hox_files.specs.declared.uses.Use.{Use}
use Rattle.hox_files.specs.declared.uses.Role.TheVariants.{In}
use Rattle.hox_files.specs.Files.{Clashing, Contents, standard, texts_in}
use Rattle.hox_files.specs.Pairs.{ArePairs, AreUsable, IsUnpaired, IsUnusable, Group, channels_of, count_standard, firsts, groups, in_order, is_alone, is_named_twice}
use Rattle.hox_execute.specs.Reports.{first_rate, table_in}
use Rattle.hox_files.specs.Uses.{AreApart, IsMisuse, Used, uses_in}

-- the file of a choice, or standard input
abbrev pub file_of : StreamChoice → List ℕ
file_of choice = unwrap_or (option_map (λ s. s.now) choice.file) standard

abbrev pub inputs_of : StreamChoice → List (List ℕ)
inputs_of choice = texts_in choice.inputs.items

abbrev pub outputs_of : StreamChoice → List (List ℕ)
outputs_of choice = texts_in choice.outputs.items

abbrev pub formats_of : StreamChoice → List (List ℕ)
formats_of choice = texts_in choice.formats.items

abbrev pub unsigned_of : StreamChoice → List (List ℕ)
unsigned_of choice = texts_in choice.unsigned.items

-- the uses of files between these ends. Messages go to standard error
abbrev pub uses_between : StreamChoice → List Pair → List Pair → List Used
uses_between choice inputs outputs = uses_in In (file_of choice) inputs (firsts outputs) false

-- the pairs of the texts of an option
abbrev pub ArePairsOf : StreamChoice → List (List ℕ) → List Pair → Type 0
ArePairsOf choice texts pairs = ArePairs (formats_of choice) (unsigned_of choice) texts pairs

module _ (choice : StreamChoice) where
  -- the pairs of the inputs
  abbrev pub AreInputsOf : List Pair → Type 0
  AreInputsOf inputs = ArePairsOf choice (inputs_of choice) inputs

  -- the pairs of the outputs
  abbrev pub AreOutputsOf : List Pair → Type 0
  AreOutputsOf outputs = ArePairsOf choice (outputs_of choice) outputs

  -- the formats don't fit these pairs
  abbrev AreMisfits : List Pair → List Pair → Stop → Type 0
  AreMisfits inputs outputs stop = IsUnusable (formats_of choice) inputs outputs stop

  -- the texts name pairs, but the formats don't fit them
  abbrev HaveMisfits : Stop → Type 0
  HaveMisfits stop =
      (inputs outputs : List Pair) × AreInputsOf inputs × AreOutputsOf outputs × AreMisfits inputs outputs stop

  abbrev pub AreUnpaired : Stop → Type 0
  AreUnpaired stop =
      IsUnpaired (formats_of choice) (unsigned_of choice) (codes "in") (inputs_of choice) stop
      ⊎ (IsUnpaired (formats_of choice) (unsigned_of choice) (codes "out") (outputs_of choice) stop
      ⊎ HaveMisfits stop)

-- which names clash, if known
module _ (clash : Clashing) (choice : StreamChoice) where
  -- the chosen ends: standard input and output are named at most once, and no uses clash. Files of one
  -- channel come before those of several
  pub record AreEnds (ends : StreamEnds) : Type 0 where
    pub inputs : AreInputsOf choice ends.inputs.items
    pub written : List Pair
    pub outputs : AreOutputsOf choice written
    pub in_order : ends.outputs.items ≡ in_order written
    pub formats : AreUsable ends.inputs.items written (formats_of choice)
    pub one_input : is_named_twice (file_of choice) ends.inputs.items ≡ false
    pub one_output : nat_lt 1 (count_standard (firsts written)) ≡ false
    pub apart : AreApart clash (uses_between choice ends.inputs.items written)

  -- the description and these inputs name standard input more than once
  abbrev IsInputTwice : List Pair → Type 0
  IsInputTwice inputs = is_named_twice (file_of choice) inputs ≡ true

  -- these outputs name standard output more than once
  abbrev IsOutputTwice : List Pair → Type 0
  IsOutputTwice outputs = nat_lt 1 (count_standard (firsts outputs)) ≡ true

  -- these two of the uses between the ends clash
  abbrev AreClashing : Use → Use → List Pair → List Pair → Type 0
  AreClashing one other inputs outputs = IsMisuse clash (uses_between choice inputs outputs) (Clash one other)

  -- they do, between the ends that the choice names
  abbrev HaveClashing : Use → Use → Type 0
  HaveClashing one other = (inputs outputs : List Pair)
      × AreInputsOf choice inputs × AreOutputsOf choice outputs × AreClashing one other inputs outputs

  -- why there are no ends, for each fault
  abbrev pub IsNoEnds : StreamStop → Type 0
  IsNoEnds (Asked (NoPair option text)) = AreUnpaired choice (NoPair option text)
  IsNoEnds (Asked (Format stop)) = AreUnpaired choice (Format stop)
  IsNoEnds (Asked InputTwice) = (inputs : List Pair) × AreInputsOf choice inputs × IsInputTwice inputs
  IsNoEnds (Asked (Clash one other)) = HaveClashing one other
  IsNoEnds (Asked Memory) = Unit {0}
  IsNoEnds (Asked (NotRead file error)) = ⊥
  IsNoEnds (Asked (WasRefused refusal)) = ⊥
  IsNoEnds (Asked (Words fault)) = ⊥
  IsNoEnds OutputTwice = (outputs : List Pair) × AreOutputsOf choice outputs × IsOutputTwice outputs
  IsNoEnds (Refused file refused error) = ⊥
  IsNoEnds (NotOpened ends channels fault) = ⊥
  IsNoEnds (Headless file fault) = ⊥
  IsNoEnds (Unread file error) = ⊥
  IsNoEnds (Unwritten file error) = ⊥

-- an input file at its tokens: their layout, the samples per second, if stated, and what is left to read, if known
pub record Opening : Type 0 where
  pub layout : Layout
  pub rate : Option ℕ
  pub left : Option (List ℕ)

-- what precedes its tokens was read, and what is left are its records
abbrev pub IsOpening : Contents → Pair → Opening → Type 0
IsOpening contents pair opening =
    IsBegun (form pair.format) pair.place pair.count (contents pair.file.now) opening.layout opening.rate opening.left

-- what contracts see of an opened file
abbrev pub opening_of : {X : Type 0} → (X → Option (List ℕ)) → Begun X → Opening
opening_of left begun = record { layout = begun.layout; rate = begun.rate; left = left begun.source }

-- what is left of a source, and whether a read of it has failed; and the contents of each file, if known
module _ {X : Type 0} (left : X → Option (List ℕ)) (has_failed : X → Bool) (contents : Contents) where
  pub record IsOpened (pair : Pair) (begun : Begun X) : Type 0 where
    pub opening : IsOpening contents pair (opening_of left begun)
    pub unfailed : has_failed begun.source ≡ false

abbrev pub laid_source : {X : Type 0} → Begun X → LaidOut X
laid_source begun = record { stream = begun.source; layout = begun.layout }

-- the first samples per second that these files state
abbrev pub rate_in : List Opening → ℕ
rate_in openings = first_rate (map (λ (o : Opening). o.rate) openings)

-- what is seen of a sink, and the samples per second
module _ {X : Type 0} (seen : X → SinkView) (rate : ℕ) where
  -- a created file was empty, and then got what precedes the tokens of channels of these names
  pub record IsHeaded (pair : Pair) (names : List (List ℕ)) (stream : X) : Type 0 where
    pub created : Option (List ℕ)
    pub empty : IfSome created (λ bytes. bytes ≡ [])
    pub headed : Appends created (seen stream).contents (head_text (form pair.format) names rate None)

  pub record IsCreated (pair : Pair) (sink : LaidOut X) : Type 0 where
    pub layout : sink.layout ≡ layout_of (form pair.format)
    pub headed : IsHeaded pair (pair.channel.now ∷ []) sink.stream

  pub record IsTabled (group : Group) (laid : LaidTable X) : Type 0 where
    pub table : laid.table ≡ table_in group.first
    pub columns : laid.columns.items ≡ map (λ (p : Pair). decimals_of (form p.format)) group.pairs
    pub headed : IsHeaded group.first (channels_of group.pairs) laid.stream

-- some pair's file can't be read or is faulty before its tokens, or can't be created; or out of memory
abbrev pub IsOfPair : List Pair → List ℕ → Type 0
IsOfPair pairs name = Any (λ (p : Pair). p.file.now ≡ name) pairs

abbrev pub IsUnread : List Pair → StreamStop → Type 0
IsUnread pairs (Unread file error) = IsOfPair pairs file.now
IsUnread pairs (Headless file fault) = IsOfPair pairs file.now
IsUnread pairs (Unwritten file error) = ⊥
IsUnread pairs (Asked stop) = stop ≡ Memory
IsUnread pairs OutputTwice = ⊥
IsUnread pairs (Refused file refused error) = ⊥
IsUnread pairs (NotOpened ends channels fault) = ⊥

abbrev pub IsUnwritten : List Pair → StreamStop → Type 0
IsUnwritten pairs (Unread file error) = ⊥
IsUnwritten pairs (Headless file fault) = ⊥
IsUnwritten pairs (Unwritten file error) = IsOfPair pairs file.now
IsUnwritten pairs (Asked stop) = stop ≡ Memory
IsUnwritten pairs OutputTwice = ⊥
IsUnwritten pairs (Refused file refused error) = ⊥
IsUnwritten pairs (NotOpened ends channels fault) = ⊥

abbrev pub IsUnfit : StreamEnds → StreamStop → Type 0
IsUnfit ends (Unread file error) = IsOfPair ends.inputs.items file.now
IsUnfit ends (Headless file fault) = IsOfPair ends.inputs.items file.now
IsUnfit ends (Unwritten file error) = IsOfPair ends.outputs.items file.now
IsUnfit ends (Asked stop) = stop ≡ Memory
IsUnfit ends OutputTwice = ⊥
IsUnfit ends (Refused file refused error) = ⊥
IsUnfit ends (NotOpened others channels fault) = ⊥

-- the sources of a stream at its start, each with what is left of its file
abbrev pub source_at : Opening → LaidOut (Option (List ℕ))
source_at opening = record { stream = opening.left; layout = opening.layout }

abbrev pub sources_at : FlowView → List Opening → List InletView
sources_at start openings =
    new_inlets (λ (o : Option (List ℕ)). o) (λ _. false) start.network start.inputs (map source_at openings)

-- a sink that is seen as it is
abbrev pub as_seen : SinkView → SinkView
as_seen v = v

-- the sinks and tables of a stream at its start
abbrev pub sinks_at : FlowView → List (LaidOut SinkView) → List (LaidTable SinkView) → OutsView
sinks_at start sinks tables = new_outs as_seen start.outputs sinks tables

module _ (kinds : Family) (contents : Contents) (ends : StreamEnds) (start t : FlowView) where
  -- a stream runs between files from its start to its end
  pub record RunsBetween (ins : List InletView) (outs : OutsView) (finish : StreamFinish) : Type 0 where
    pub openings : List Opening
    pub opened : AllZip (IsOpening contents) ends.inputs.items openings
    pub sinks : List (LaidOut SinkView)
    pub created : AllZip (IsCreated as_seen (rate_in openings)) (filter is_alone ends.outputs.items) sinks
    pub tables : List (LaidTable SinkView)
    pub tabled : AllZip (IsTabled as_seen (rate_in openings)) (groups ends.outputs.items) tables
    pub serves : Serves kinds start t (sources_at start openings) ins (sinks_at start sinks tables) outs finish

abbrev pub IsRefusedText : KindNames → Signatures → List ℕ → Unopened → Type 0
IsRefusedText named signature text (IsRefused refused error) = LoadsMeant named signature false text (Err refused.fault)
IsRefusedText named signature text (Faulty channels fault) = ⊥
IsRefusedText named signature text NoMemory = Unit {0}

-- a description can't be read
abbrev pub IsUnreadText : Unopened → Type 0
IsUnreadText (IsRefused refused error) = refused.fault ≡ Input
IsUnreadText (Faulty channels fault) = ⊥
IsUnreadText NoMemory = Unit {0}

module _ (named : KindNames) (signature : Signatures) where
  module _ (contents : Contents) (name : List ℕ) where
    -- this is the text of the file, if known
    abbrev pub IsTextIn : List ℕ → Type 0
    IsTextIn text = IfSome (contents name) (λ bytes. text ≡ bytes)

    abbrev pub IsSketchIn : Sketch → Type 0
    IsSketchIn sketch = (text : List ℕ) × IsTextIn text × IsSketchOf named signature text sketch

    -- its text, if known, has the fault
    abbrev HasRefusedText : Unopened → Type 0
    HasRefusedText unopened = (text : List ℕ) × IsTextIn text × IsRefusedText named signature text unopened

    -- the description can't be read, or its text has the fault
    abbrev pub IsRefusedIn : Unopened → Type 0
    IsRefusedIn unopened = IsUnreadText unopened ⊎ HasRefusedText unopened

-- the channels that are fed, and those that are drained
abbrev pub fed_by : StreamEnds → List (List ℕ)
fed_by ends = channels_of ends.inputs.items

abbrev pub drained_by : StreamEnds → List (List ℕ)
drained_by ends = channels_of ends.outputs.items

-- the sketch in which processes that only read an output stop at once
abbrev pub exiting_sketch : Sketch → StreamEnds → Sketch
exiting_sketch sketch ends = with_exits (drained_by ends) sketch

module _ (kinds : Family) (named : KindNames) where
  -- the network of a stream, in which processes that only read an output stop at once
  abbrev pub streamed_net : Sketch → StreamEnds → Network
  streamed_net sketch ends = net_of (both_named named exit_named) (exiting_sketch sketch ends)

  -- the stream of a sketch at its start between these ends
  abbrev pub StartsBetween : Sketch → StreamEnds → FlowView → Type 0
  StartsBetween sketch ends start =
      IsStarted (both_family kinds exits) (streamed_net sketch ends) (fed_by ends) (drained_by ends) start

  module _ (signature : Signatures) where
    -- the sketch, with those exits, is of no network, with this fault
    abbrev IsNoStreamed : Sketch → StreamEnds → NetFault → Type 0
    IsNoStreamed sketch ends fault =
        IsNoNetwork (both_named named exit_named) (both_ports signature exit_ports) (exiting_sketch sketch ends) fault

    -- it can't be streamed between these ends
    abbrev pub HasStreamFault : Sketch → StreamEnds → StreamFault → Type 0
    HasStreamFault sketch ends fault =
        IsStreamFault (both_family kinds exits) (streamed_net sketch ends) (IsNoStreamed sketch ends)
        (fed_by ends) (drained_by ends) fault

    abbrev pub IsFaultyBetween : Sketch → StreamEnds → Unopened → Type 0
    IsFaultyBetween sketch ends (IsRefused refused error) = ⊥
    IsFaultyBetween sketch ends (Faulty channels fault) = HasStreamFault sketch ends fault
    IsFaultyBetween sketch ends NoMemory = Unit {0}

    module _ (contents : Contents) where
      -- the description in the file of this name is that of a sketch, or is refused
      abbrev IsSketchNamed : List ℕ → Sketch → Type 0
      IsSketchNamed name sketch = IsSketchIn named signature contents name sketch

      abbrev IsRefusedNamed : List ℕ → Unopened → Type 0
      IsRefusedNamed name unopened = IsRefusedIn named signature contents name unopened

      -- the stream of a description at its start between these ends
      pub record Opens (name : List ℕ) (ends : StreamEnds) (start : FlowView) : Type 0 where
        pub sketch : Sketch
        pub is_in : IsSketchNamed name sketch
        pub started : StartsBetween sketch ends start

      abbrev pub IsFaulty : List ℕ → StreamEnds → StreamFault → Type 0
      IsFaulty name ends fault = (sketch : Sketch) × IsSketchNamed name sketch × HasStreamFault sketch ends fault

      abbrev pub IsUnopened : List ℕ → StreamEnds → Unopened → Type 0
      IsUnopened name ends (IsRefused refused error) = IsRefusedNamed name (IsRefused refused error)
      IsUnopened name ends (Faulty channels fault) = IsFaulty name ends fault
      IsUnopened name ends NoMemory = Unit {0}

      -- which names clash, if known
      module _ (clash : Clashing) (choice : StreamChoice) where
        module _ (ends : StreamEnds) (t : FlowView) where
          -- the choice is streamed: between its ends, from the start of its network to its end
          pub record StreamsBetween (ins : List InletView) (outs : OutsView) (finish : StreamFinish) : Type 0 where
            pub chosen : AreEnds clash choice ends
            pub start : FlowView
            pub opens : Opens (file_of choice) ends start
            pub runs : RunsBetween (both_family kinds exits) contents ends start t ins outs finish

        -- the description of the choice is refused
        abbrev IsRefusedChoice : Unopened → Type 0
        IsRefusedChoice unopened = IsRefusedNamed (file_of choice) unopened

        -- the file is one of the choice's inputs
        abbrev IsOfInput : List ℕ → Type 0
        IsOfInput file = (ends : StreamEnds) × AreEnds clash choice ends × IsOfPair ends.inputs.items file

        -- the file is one of its outputs
        abbrev IsOfOutput : List ℕ → Type 0
        IsOfOutput file = (ends : StreamEnds) × AreEnds clash choice ends × IsOfPair ends.outputs.items file

        abbrev pub IsStreamStop : StreamStop → Type 0
        IsStreamStop (Asked stop) = IsNoEnds clash choice (Asked stop)
        IsStreamStop OutputTwice = IsNoEnds clash choice OutputTwice
        IsStreamStop (Refused file refused error) =
            (file.now ≡ file_of choice) × IsRefusedChoice (IsRefused refused error)
        IsStreamStop (NotOpened ends channels fault) = AreEnds clash choice ends × IsFaulty (file_of choice) ends fault
        IsStreamStop (Headless file fault) = IsOfInput file.now
        IsStreamStop (Unread file error) = IsOfInput file.now
        IsStreamStop (Unwritten file error) = IsOfOutput file.now
