-- The program, from its arguments and input to its output.
use Rattle.std.specs.Prelude.{◌≡◌, ℕ, Bool, true, false, List, Option, Some, None, IfSome, map, Result, Ok, Err}
use Rattle.std.specs.Borrow.{Bor}
use Rattle.kpn_sketch.specs.declared.fault.NetFault.{NetFault}
use Rattle.kpn_sketch.specs.declared.fault.NetFault.TheVariants.{Input}
use Rattle.kpn_model.specs.Network.{Network}
use Rattle.kpn_standard.specs.Standard.{standard}
use Rattle.kpn_standard.specs.Signatures.{named, signature}
use Rattle.kpn_args.specs.declared.arguments.Choice.{Choice}
use Rattle.kpn_args.specs.declared.arguments.Choice.TheVariants.{Check, Run}
use Rattle.kpn_args.specs.Choices.{IsChoice}
use Rattle.kpn_front.specs.declared.streams.Sink.{Ghosts as SinkOf}
use Rattle.kpn_front.specs.declared.streams.Source.{Ghosts as SourceOf}
use Rattle.kpn_front.specs.declared.status.ExitStatus.{ExitStatus}
use Rattle.kpn_front.specs.declared.status.ExitStatus.TheVariants.{Success}
use Rattle.kpn_front.specs.Lines.{checked_line, refused_line, status_of_fault}
use Rattle.kpn_front.specs.Loading.{Loads}
use Rattle.kpn_front.specs.Written.{SinkView, Says}
use Rattle.kpn_execute.specs.declared.program.Served.{Served}
use Rattle.kpn_execute.specs.Execution.{TellsOrNoMemory, Writes, name_shown}

abbrev pub fault_of : Result Network NetFault → Option NetFault
fault_of (Ok net) = None
fault_of (Err fault) = Some fault

-- written of a network: that it is one, or how it ran
abbrev pub TellsOf : Choice → Network → ExitStatus → List ℕ → Type 0
TellsOf Check net status text = (status ≡ Success) × (text ≡ checked_line net)
TellsOf (Run workers show) net status text = TellsOrNoMemory standard net workers (name_shown show) status text

-- written of a description that was loaded or refused
abbrev pub TellsLoaded : Choice → Result Network NetFault → ExitStatus → List ℕ → Type 0
TellsLoaded choice (Ok net) status text = TellsOf choice net status text
TellsLoaded choice (Err fault) status text = (status ≡ status_of_fault fault) × (text ≡ refused_line fault)

module _ (choice : Choice) (input : Option (List ℕ)) (failed_before failed_after : Bool) where
  -- the input is loaded, and the choice's text is written; known of the input are its bytes, if at all, and
  -- whether a read had failed before and after
  pub record Serves (before after : SinkView) (status : ℕ) (fault : Option NetFault) : Type 0 where
    pub loaded : Result Network NetFault
    pub loads : failed_before ≡ false → IfSome input (λ text. Loads named signature failed_after text loaded)
    pub failed : failed_before ≡ false → failed_after ≡ true → loaded ≡ Err Input
    pub fault_is : fault ≡ fault_of loaded
    pub writes : Writes (TellsLoaded choice loaded) before after status

module _ {S T : Type 0} (input : SourceOf S) (output : SinkOf T) (words : List (Bor (List ℕ))) where
  -- the words choose this; and it is served from the source
  abbrev pub WordsChoose : Choice → Type 0
  WordsChoose choice = IsChoice (map (λ w. w.now) words) choice

  abbrev pub ServesChoice : Choice → S → S → SinkView → SinkView → ℕ → Option NetFault → Type 0
  ServesChoice choice before after =
      Serves choice (input.remaining before) (input.has_failed before) (input.has_failed after)

  -- what the words choose is served, from the source to the sink
  abbrev pub Serving : S → S → T → T → Served → Type 0
  Serving before after sink new_sink served =
      (choice : Choice) × WordsChoose choice
      × ServesChoice choice before after (output.seen sink) (output.seen new_sink) served.status served.fault

-- the line about a refused description is written
abbrev pub SaysRefused : NetFault → SinkView → SinkView → ℕ → Type 0
SaysRefused fault before after number = Says (status_of_fault fault) (refused_line fault) before after number
