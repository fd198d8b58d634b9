-- What the program writes of a network, and its exit status.
use Rattle.std.specs.Prelude.{◌≡◌, ◌≢◌, ◌<◌, ◌⊎◌, ℕ, true, List, Option, Some, None, option_map}
use Rattle.std.specs.Borrow.{Bor}
use Rattle.kpn_model.specs.declared.history.Entry.{Entry}
use Rattle.kpn_model.specs.declared.history.End.{End}
use Rattle.kpn_model.specs.declared.history.End.TheVariants.{Terminated, Deadlock, Ceiling, Budget, Memory}
use Rattle.kpn_sketch.specs.declared.fault.NetFault.TheVariants.{Memory as OutOfMemory}
use Rattle.kpn_model.specs.declared.kinds.Kinds.{Ghosts as KindsOf}
use Rattle.kpn_model.specs.Families.{family}
use Rattle.kpn_model.specs.Network.{Family, Network, number_of_channel}
use Rattle.kpn_model.specs.Semantics.{State, IsRun}
use Rattle.kpn_model.specs.Endings.{IsFinal, MayEnd}
use Rattle.kpn_model.specs.texts.Reports.{has_report}
use Rattle.kpn_laws.specs.RoomOfRun.{TakesLeastRoom}
use Rattle.kpn_laws.specs.StreamsOfRun.{ApproachLeastSolution}
use Rattle.kpn_report.specs.Text.{report_text}
use Rattle.kpn_front.specs.declared.status.ExitStatus.{ExitStatus}
use Rattle.kpn_front.specs.declared.status.ExitStatus.TheVariants.{Success, WrongArguments, BudgetSpent, MemoryRefused, Deadlocked, AtCeiling, Lost}
use Rattle.kpn_front.specs.Lines.{lost_line, refused_line, no_channel_line}
use Rattle.kpn_front.specs.Written.{SinkView, Says}

abbrev pub status_of_end : End → ExitStatus
status_of_end Terminated = Success
status_of_end Budget = BudgetSpent
status_of_end Memory = MemoryRefused
status_of_end Deadlock = Deadlocked
status_of_end Ceiling = AtCeiling

-- no channel has the name given by `--show`
pub record TellsNoChannel (net : Network) (show : Option (List ℕ)) (status : ExitStatus) (text : List ℕ) : Type 0 where
  pub name : List ℕ
  pub asked : show ≡ Some name
  pub unknown : number_of_channel net name ≡ None
  pub status_is : status ≡ WrongArguments
  pub text_is : text ≡ no_channel_line name

-- the name of the channel to show
abbrev pub name_shown : Option (Bor (List ℕ)) → Option (List ℕ)
name_shown show = option_map (λ s. s.now) show

-- this is the name, and no channel has it
abbrev pub IsUnknownName : Network → Option (List ℕ) → List ℕ → Type 0
IsUnknownName net show name = (show ≡ Some name) × (number_of_channel net name ≡ None)

-- this is the channel to show, if any
abbrev pub IsChannelToShow : Network → Option (List ℕ) → Option ℕ → Type 0
IsChannelToShow net None channel = channel ≡ None
IsChannelToShow net (Some name) channel = (channel ≡ number_of_channel net name) × (channel ≢ None)

-- out of memory, before the first deed or for the report
pub record TellsNoMemory (status : ExitStatus) (text : List ℕ) : Type 0 where
  pub status_is : status ≡ MemoryRefused
  pub text_is : text ≡ refused_line OutOfMemory

-- an answer of one of several workers was refused
pub record TellsLost (workers : ℕ) (status : ExitStatus) (text : List ℕ) : Type 0 where
  pub several : 1 < workers
  pub status_is : status ≡ Lost
  pub text_is : text ≡ lost_line

-- each run that is over has this text, whatever the schedule
abbrev pub IsTextOfEveryRun : Family → Network → Option ℕ → List ℕ → Type 0
IsTextOfEveryRun kinds net channel text =
    (F : List Entry) (N : State) (b : End) → IsFinal kinds net F N b → text ≡ report_text kinds net b F N channel

module _ (kinds : Family) (net : Network) where
  -- a run ended, with a justified end; it took no more room than the network needs, and its streams approach
  -- the least solution
  pub record TellsRun (channel : Option ℕ) (status : ExitStatus) (text : List ℕ) : Type 0 where
    pub history : List Entry
    pub state : State
    pub cause : End
    pub run : IsRun kinds net history state
    pub justified : MayEnd kinds net history state cause
    pub room : TakesLeastRoom kinds net history state
    pub streams : ApproachLeastSolution kinds net history state
    pub status_is : status ≡ status_of_end cause
    pub text_is : text ≡ report_text kinds net cause history state channel
    pub every : has_report cause ≡ true → IsTextOfEveryRun kinds net channel text

-- written of a run that ended
abbrev pub TellsEnded : Family → Network → Option ℕ → ExitStatus → List ℕ → Type 0
TellsEnded kinds net channel status text = TellsNoMemory status text ⊎ TellsRun kinds net channel status text

-- written of a network run by this number of workers, if `--show` is absent or names a channel
abbrev pub TellsShown : Family → Network → ℕ → Option ℕ → ExitStatus → List ℕ → Type 0
TellsShown kinds net workers channel status text =
    TellsLost workers status text ⊎ TellsEnded kinds net channel status text

-- written of it, with the channel to show
abbrev pub TellsOfChannel : Family → Network → ℕ → Option (List ℕ) → ExitStatus → List ℕ → Type 0
TellsOfChannel kinds net workers show status text =
    (channel : Option ℕ) × IsChannelToShow net show channel × TellsShown kinds net workers channel status text

-- written of a network run by this number of workers, and the status
abbrev pub Tells : Family → Network → ℕ → Option (List ℕ) → ExitStatus → List ℕ → Type 0
Tells kinds net workers show status text =
    TellsNoChannel net show status text ⊎ TellsOfChannel kinds net workers show status text

-- or out of memory for the bodies
abbrev pub TellsOrNoMemory : Family → Network → ℕ → Option (List ℕ) → ExitStatus → List ℕ → Type 0
TellsOrNoMemory kinds net workers show status text =
    TellsNoMemory status text ⊎ Tells kinds net workers show status text

-- a text is written, with its status
pub record Writes (tells : ExitStatus → List ℕ → Type 0) (before after : SinkView) (number : ℕ) : Type 0 where
  pub status : ExitStatus
  pub text : List ℕ
  pub told : tells status text
  pub says : Says status text before after number

-- what the program writes of a network
abbrev pub Executes : Family → Network → ℕ → Option (List ℕ) → SinkView → SinkView → ℕ → Type 0
Executes kinds net workers show before after number = Writes (Tells kinds net workers show) before after number

-- what a program that makes the bodies of the network writes
abbrev pub MakesAndExecutes : Family → Network → ℕ → Option (List ℕ) → SinkView → SinkView → ℕ → Type 0
MakesAndExecutes kinds net workers show before after number =
    Writes (TellsOrNoMemory kinds net workers show) before after number

-- what is written of a run that ended, of one by several workers, which may be lost, and of a network
module _ {X : Type 0} (kinds : KindsOf X) where
  abbrev pub WritesEnded : Network → Option ℕ → SinkView → SinkView → ℕ → Type 0
  WritesEnded net channel before after number = Writes (TellsEnded (family kinds) net channel) before after number

  abbrev pub WritesShown : Network → ℕ → Option ℕ → SinkView → SinkView → ℕ → Type 0
  WritesShown net workers channel before after number =
      Writes (TellsShown (family kinds) net workers channel) before after number

  abbrev pub ExecutesNet : Network → ℕ → Option (Bor (List ℕ)) → SinkView → SinkView → ℕ → Type 0
  ExecutesNet net workers show before after number =
      Executes (family kinds) net workers (name_shown show) before after number

  abbrev pub MakesAndExecutesNet : Network → ℕ → Option (Bor (List ℕ)) → SinkView → SinkView → ℕ → Type 0
  MakesAndExecutesNet net workers show before after number =
      MakesAndExecutes (family kinds) net workers (name_shown show) before after number
