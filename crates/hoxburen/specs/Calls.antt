-- What calls do with the caller's flow, and what they answer.
use Rattle.std.specs.Prelude.{◌≡◌, ◌⊎◌, ℕ, Bool, if◌then◌else◌, IsUtf8, List, Option, None, Some, MatchOption, Err, string_bytes}
use Rattle.kpn_model.specs.Network.{Network}
use Rattle.kpn_sketch.specs.declared.fault.NetFault.{NetFault}
use Rattle.kpn_sketch.specs.declared.fault.NetFault.TheVariants.{Memory}
use Rattle.kpn_sketch.specs.Fault.{number_of_fault}
use Rattle.kpn_flow.specs.declared.pause.Pause.{Pause}
use Rattle.kpn_flow.specs.Flows.{FlowView}
use Rattle.hox_handle.specs.declared.answers.ReturnCode.{ReturnCode}
use Rattle.hox_handle.specs.declared.answers.ReturnCode.TheVariants.{Done, Description, Closed, Open, NoChannel}
use Rattle.hox_handle.specs.declared.opening.SessionFault.{SessionFault}
use Rattle.hox_handle.specs.declared.words.Transferred.{Transferred}
use Rattle.hox_handle.specs.declared.running.RunReport.{RunReport}
use Rattle.hox_handle.specs.Answers.{answer_number, end_number, pause_number}
use Rattle.hox_handle.specs.Checking.{Checks, LoadsText}
use Rattle.hox_handle.specs.Opening.{answer_of, Opens, IsSessionFault}
use Rattle.hox_handle.specs.Reports.{TellsStand}
use Rattle.hox_handle.specs.Running.{RunsTo}
use Rattle.hox_handle.specs.Texts.{IsCopied}
use Rattle.hox_handle.specs.Sessions.{flow_kinds, DrainsAt, EndsAt, FeedsAt, GoesOn, IsNamedAt, IsNotNamed, StandsAs, may_feed_at, starves_at, holds_up_at, input_fill, output_fill}

-- a closed flow stays closed, answers so, and gives nothing; an open one changes as `does` says
abbrev pub OnFlow : Option FlowView → Option FlowView → ℕ → Type 0 → (FlowView → FlowView → Type 0) → Type 0
OnFlow None after answer nothing does = (after ≡ None) × (answer ≡ answer_number Closed) × nothing
OnFlow (Some s) after answer nothing does = (t : FlowView) × (after ≡ Some t) × does s t

-- a call that changes no flow
abbrev pub LooksAt : Option FlowView → Option FlowView → ℕ → Type 0 → (FlowView → Type 0) → Type 0
LooksAt before after answer nothing tells = OnFlow before after answer nothing (λ s t. (t ≡ s) × tells s)

-- so many words were moved, with this answer
abbrev pub transferred : ℕ → ReturnCode → Transferred
transferred count answer = record { count = count; answer = answer }

-- the number is that of the answer
abbrev pub IsAnswer : ℕ → ReturnCode → Type 0
IsAnswer number answer = number ≡ answer_number answer

abbrev pub FeedsWords : FlowView → FlowView → ℕ → List ℕ → ℕ → ℕ → Type 0
FeedsWords s t place words fed number =
    (answer : ReturnCode) × FeedsAt s t place words (transferred fed answer) × IsAnswer number answer

abbrev pub DrainsWords : FlowView → FlowView → ℕ → List ℕ → List ℕ → ℕ → ℕ → Type 0
DrainsWords s t place before after drained number =
    (answer : ReturnCode) × DrainsAt s t place before after (transferred drained answer) × IsAnswer number answer

abbrev pub EndsInput : FlowView → FlowView → ℕ → ℕ → Type 0
EndsInput s t place number = (answer : ReturnCode) × EndsAt s t place answer × IsAnswer number answer

abbrev pub Advances : FlowView → FlowView → ℕ → ℕ → ℕ → Type 0
Advances s t most pause number = (why : Pause) × GoesOn s t most why × (pause ≡ pause_number why) × (number ≡ 0)

-- a flag is 1 or 0; or there is no such channel
abbrev pub TellsFlag : Option Bool → ℕ → ℕ → Type 0
TellsFlag found told number =
    MatchOption found ((told ≡ 0) × IsAnswer number NoChannel) (λ b. (told ≡ (if b then 1 else 0)) × (number ≡ 0))

-- the number of words, and the capacity
abbrev pub IsFill : ℕ → ℕ → ℕ → (ℕ × ℕ) → Type 0
IsFill held capacity number x = (held ≡ x.0) × (capacity ≡ x.1) × (number ≡ 0)

-- or there is no such channel
abbrev pub IsNoFill : ℕ → ℕ → ℕ → Type 0
IsNoFill held capacity number = (held ≡ 0) × (capacity ≡ 0) × IsAnswer number NoChannel

-- a channel's number of words, and its capacity; or there is no such channel
abbrev pub TellsFill : Option (ℕ × ℕ) → ℕ → ℕ → ℕ → Type 0
TellsFill found held capacity number =
    MatchOption found (IsNoFill held capacity number) (IsFill held capacity number)

-- no channel has this name
abbrev pub FindsNoPlace : Network → List ℕ → List ℕ → ℕ → ℕ → Type 0
FindsNoPlace net channels name place number =
    (IsUtf8 name → IsNotNamed net channels name) × (place ≡ 0) × IsAnswer number NoChannel

-- the place of the channel with this name
abbrev pub FindsPlace : Network → List ℕ → List ℕ → ℕ → ℕ → Type 0
FindsPlace net channels name place number =
    (IsNamedAt net channels name place × (number ≡ 0)) ⊎ FindsNoPlace net channels name place number

abbrev pub TellsVerdict : FlowView → ℕ → ℕ → Type 0
TellsVerdict s verdict number = (stand : Pause) × StandsAs s stand × (verdict ≡ pause_number stand) × (number ≡ 0)

-- the flow is open now, at the start of the text's network
abbrev pub IsOpenNow : List ℕ → List ℕ → List ℕ → Option FlowView → ℕ → Type 0
IsOpenNow text inputs outputs after number =
    (t : FlowView) × (after ≡ Some t) × Opens text inputs outputs t × (number ≡ 0)

-- the number is that of the answer to a fault
abbrev pub IsFaultNumber : ℕ → SessionFault → Type 0
IsFaultNumber number fault = number ≡ answer_number (answer_of fault)

-- it stays closed, for a fault
abbrev pub StaysClosed : List ℕ → List ℕ → List ℕ → Option FlowView → ℕ → Type 0
StaysClosed text inputs outputs after number =
    (fault : SessionFault) × IsSessionFault text inputs outputs fault × (after ≡ None) × IsFaultNumber number fault

-- an open flow stays; a closed one is opened at the start of the text's network, or stays closed
abbrev pub OpensFlow : List ℕ → List ℕ → List ℕ → Option FlowView → Option FlowView → ℕ → Type 0
OpensFlow text inputs outputs (Some s) after number = (after ≡ Some s) × (number ≡ answer_number Open)
OpensFlow text inputs outputs None after number =
    IsOpenNow text inputs outputs after number ⊎ StaysClosed text inputs outputs after number

-- a message is in the buffer
abbrev pub HasMessage : List ℕ → List ℕ → ℕ → Type 0
HasMessage before after length = (message : List ℕ) × IsCopied message before after length

-- a message is in the buffer, or none
abbrev pub IsMessage : List ℕ → List ℕ → ℕ → Type 0
IsMessage before after length = HasMessage before after length ⊎ ((after ≡ before) × (length ≡ 0))

-- a text, the buffer before and after a call, the length of what it got, and the answer's number
module _ (text before after : List ℕ) (length number : ℕ) where
  -- a message is in the buffer, or none
  abbrev IsMessageTold : Type 0
  IsMessageTold = IsMessage before after length

  -- nothing is told if all went well
  abbrev IsSilent : ReturnCode → Type 0
  IsSilent answer = answer ≡ Done → length ≡ 0

  -- the text describes a network, without a message; or it has this fault, perhaps with one
  abbrev pub ChecksText : Type 0
  ChecksText =
      (answer : ReturnCode) × Checks text answer × IsAnswer number answer × IsMessageTold × IsSilent answer

  -- the report is in the buffer
  abbrev IsReportIn : RunReport → Type 0
  IsReportIn told = IsCopied (string_bytes told.report) before after length

  -- the network was run, and its report is there
  abbrev HasRunText : Type 0
  HasRunText =
      (told : RunReport) × RunsTo text told × (number ≡ end_number told.end) × IsReportIn told

  -- the text has a fault
  abbrev IsTextRefused : Type 0
  IsTextRefused =
      (fault : NetFault) × LoadsText text (Err fault) × (number ≡ number_of_fault fault) × IsMessageTold

  -- the text's network was run, and its report is in the buffer; or the text has this fault
  abbrev pub RunsText : Type 0
  RunsText = HasRunText ⊎ IsTextRefused

module _ (s : FlowView) (before after : List ℕ) (length number : ℕ) where
  -- the report on how the flow stands is in the buffer
  abbrev HasReport : Type 0
  HasReport =
      (text : List ℕ) × TellsStand flow_kinds s text × IsCopied text before after length × (number ≡ 0)

  -- or out of memory
  abbrev HasNoReport : Type 0
  HasNoReport = (after ≡ before) × (length ≡ 0) × IsAnswer number (Description Memory)

  -- the report is in the buffer; or out of memory
  abbrev pub IsReported : Type 0
  IsReported = HasReport ⊎ HasNoReport

-- the caller's flow before and after a call, and the answer's number
module _ (before after : Option FlowView) (number : ℕ) where
  -- the flow changes so
  abbrev OnIt : Type 0 → (FlowView → FlowView → Type 0) → Type 0
  OnIt nothing does = OnFlow before after number nothing does

  -- the flow is looked at
  abbrev LooksAtIt : Type 0 → (FlowView → Type 0) → Type 0
  LooksAtIt nothing tells = LooksAt before after number nothing tells

  -- words are fed into an input
  abbrev pub FeedsFlow : ℕ → List ℕ → ℕ → Type 0
  FeedsFlow input words fed = OnIt (fed ≡ 0) (λ s t. FeedsWords s t input words fed number)

  -- words are drained from an output into a buffer
  abbrev pub DrainsFlow : ℕ → List ℕ → List ℕ → ℕ → Type 0
  DrainsFlow output words got drained =
      OnIt ((drained ≡ 0) × (got ≡ words)) (λ s t. DrainsWords s t output words got drained number)

  -- whether an input may be fed
  abbrev pub TellsMayFeed : ℕ → ℕ → Type 0
  TellsMayFeed input told = LooksAtIt (told ≡ 0) (λ s. TellsFlag (may_feed_at s input) told number)

  -- whether a process waits for an input
  abbrev pub TellsStarves : ℕ → ℕ → Type 0
  TellsStarves input told = LooksAtIt (told ≡ 0) (λ s. TellsFlag (starves_at s input) told number)

  -- whether a process waits for room in an output
  abbrev pub TellsHoldsUp : ℕ → ℕ → Type 0
  TellsHoldsUp output told = LooksAtIt (told ≡ 0) (λ s. TellsFlag (holds_up_at s output) told number)

  -- how full an input is
  abbrev pub TellsInputFill : ℕ → ℕ → ℕ → Type 0
  TellsInputFill input held capacity =
      LooksAtIt ((held ≡ 0) × (capacity ≡ 0)) (λ s. TellsFill (input_fill s input) held capacity number)

  -- how full an output is
  abbrev pub TellsOutputFill : ℕ → ℕ → ℕ → Type 0
  TellsOutputFill output held capacity =
      LooksAtIt ((held ≡ 0) × (capacity ≡ 0)) (λ s. TellsFill (output_fill s output) held capacity number)

  -- the flow's numbers of entries and growths
  abbrev IsCounted : ℕ → ℕ → FlowView → Type 0
  IsCounted entries growths s = (entries ≡ s.counts.entries) × (growths ≡ s.counts.growths) × (number ≡ 0)

  -- how many entries and growths there were
  abbrev pub TellsEntries : ℕ → ℕ → Type 0
  TellsEntries entries growths = LooksAtIt ((entries ≡ 0) × (growths ≡ 0)) (IsCounted entries growths)

  -- the report goes into a buffer
  abbrev pub ReportsFlow : List ℕ → List ℕ → ℕ → Type 0
  ReportsFlow report got length =
      LooksAtIt ((length ≡ 0) × (got ≡ report)) (λ s. IsReported s report got length number)

  -- the place of the input of this name
  abbrev pub FindsInput : List ℕ → ℕ → Type 0
  FindsInput name place = LooksAtIt (place ≡ 0) (λ s. FindsPlace s.network s.inputs name place number)

  -- the place of the output of this name
  abbrev pub FindsOutput : List ℕ → ℕ → Type 0
  FindsOutput name place = LooksAtIt (place ≡ 0) (λ s. FindsPlace s.network s.outputs name place number)

abbrev pub close_number : Option FlowView → ℕ
close_number None = answer_number Closed
close_number (Some s) = 0
