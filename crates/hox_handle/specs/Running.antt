-- What running a text returns.
use Rattle.std.specs.Prelude.{◌≡◌, ℕ, true, List, None, Result, Ok, Err, MatchResult, string_bytes}
use Rattle.kpn_sketch.specs.declared.fault.NetFault.{NetFault}
use Rattle.kpn_model.specs.declared.history.Entry.{Entry}
use Rattle.kpn_model.specs.declared.history.End.{End}
use Rattle.kpn_model.specs.Network.{Network}
use Rattle.kpn_model.specs.Semantics.{State, IsRun}
use Rattle.kpn_model.specs.Endings.{IsFinal, MayEnd}
use Rattle.kpn_model.specs.texts.Reports.{has_report}
use Rattle.kpn_laws.specs.RoomOfRun.{TakesLeastRoom}
use Rattle.kpn_laws.specs.StreamsOfRun.{ApproachLeastSolution}
use Rattle.kpn_report.specs.Text.{report_text}
use Rattle.hox_handle.specs.declared.running.RunReport.{RunReport}
use Rattle.hox_handle.specs.Sessions.{all_kinds}
use Rattle.hox_handle.specs.Checking.{LoadsText}

-- a run from the start has a justified end; it takes least room, its streams approach the least solution of
-- the network's equations, and this is its report; if it is over, every run that is over has the same report
pub record IsRunTold (net : Network) (told : RunReport) : Type 0 where
  pub history : List Entry
  pub state : State
  pub run : IsRun all_kinds net history state
  pub justified : MayEnd all_kinds net history state told.end
  pub room : TakesLeastRoom all_kinds net history state
  pub streams : ApproachLeastSolution all_kinds net history state
  pub text_is : string_bytes told.report ≡ report_text all_kinds net told.end history state None
  pub every : has_report told.end ≡ true → (F : List Entry) (N : State) (b : End) → IsFinal all_kinds net F N b
      → string_bytes told.report ≡ report_text all_kinds net b F N None

pub record RunsTo (text : List ℕ) (told : RunReport) : Type 0 where
  pub net : Network
  pub loads : LoadsText text (Ok net)
  pub run : IsRunTold net told

-- it was run; or it has this fault; or out of memory
abbrev pub Runs : List ℕ → Result RunReport NetFault → Type 0
Runs text result = MatchResult result (RunsTo text) (λ fault. LoadsText text (Err fault))
