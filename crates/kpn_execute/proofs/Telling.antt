-- What is written of a run.
use Rattle.std.proofs.Common.{◌≡◌, ◌≢◌, ℕ, zero, suc, true, List, length, Option, Some, replicate, refl, ap, ◌∙◌, subst}
use Rattle.std.proofs.lemmas.List.{length-map}
use Rattle.std.specs.List.{count_by}
use Rattle.kpn_model.specs.declared.kinds.Card.{Card}
use Rattle.kpn_model.specs.declared.history.End.{End}
use Rattle.kpn_model.specs.declared.history.End.TheVariants.{Terminated, Deadlock, Ceiling, Budget, Memory}
use Rattle.kpn_model.specs.declared.history.Place.{Place}
use Rattle.kpn_model.specs.Network.{Family, Admits}
use Rattle.kpn_model.specs.Semantics.{wants}
use Rattle.kpn_model.specs.Endings.{MayEnd, MayStand}
use Rattle.kpn_model.specs.texts.Reports.{has_report}
use Rattle.kpn_model.specs.History.{each_process, place_of}
use Rattle.kpn_model.specs.Determinacy.{OneDigest}
use Rattle.kpn_state.specs.declared.standing.Standing.TheVariants.{Ready}
use Rattle.kpn_state.specs.Standings.{standing, is_out, parked_answer}
use Rattle.kpn_model.specs.declared.parts.Process.{Process}
use Rattle.kpn_machine.specs.MachineView.{MachineView, IsFaithful}
use Rattle.kpn_machine.specs.declared.opening.OpenFault.{OpenFault}
use Rattle.kpn_machine.specs.declared.opening.OpenFault.TheVariants.{Bodies, Card as WrongCard, Memory as NoMemory}
use Rattle.kpn_machine.specs.Opening.{cards_of, IsOpenFault}
use Rattle.kpn_run.proofs.RunReports.{at_rest, is_final}
use Rattle.kpn_laws.specs.RoomOfRun.{TakesLeastRoom}
use Rattle.kpn_laws.specs.StreamsOfRun.{ApproachLeastSolution}
use Rattle.kpn_report.specs.Text.{report_text}
use Rattle.kpn_report.proofs.OverTexts.{one_text}
use Rattle.kpn_front.specs.declared.status.ExitStatus.{ExitStatus}
use Rattle.kpn_front.specs.declared.status.ExitStatus.TheVariants.{WriteFailed}
use Rattle.kpn_execute.specs.Execution.{status_of_end, TellsRun}

-- an end is justified
pub justified_by : (kinds : Family) (admits : Admits) (s : MachineView) (cause : End) → IsFaithful kinds admits s → s.end ≡ Some cause → MayEnd kinds s.network s.history s.state cause
justified_by kinds admits s cause faithful ended = subst (MayStand kinds s.network s.history s.state) ended faithful.justified

-- the text of a run that ended is that of its history
pub run_told :
    (kinds : Family) (admits : Admits) (s : MachineView) (cause : End) (places : List Place) (channel : Option ℕ) (status : ExitStatus) (bytes : List ℕ) → IsFaithful kinds admits s → TakesLeastRoom kinds s.network s.history s.state → ApproachLeastSolution kinds s.network s.history s.state → s.end ≡ Some cause
    → places ≡ each_process s.network (λ p. place_of s.network p (parked_answer (standing s.standings p))) → OneDigest kinds
    → ((has_report cause ≡ true → places ≡ each_process s.network (λ p. place_of s.network p (wants kinds s.network s.state p))) → bytes ≡ report_text kinds s.network cause s.history s.state channel)
    → status ≡ status_of_end cause → TellsRun kinds s.network channel status bytes
run_told kinds admits s cause places channel status bytes faithful room streams ended places_are one report status_is =
    let justified = justified_by kinds admits s cause faithful ended in
    let told = report (λ has. places_are ∙ at_rest kinds admits s cause faithful ended has) in
    record {
      history = s.history;
      state = s.state;
      cause = cause;
      run = faithful.run;
      justified = justified;
      room = room;
      streams = streams;
      status_is = status_is;
      text_is = told;
      every = λ has F N b final.
          told ∙ one_text kinds s.network one s.history F s.state N cause b channel (is_final kinds admits s cause faithful ended has) final;
    }

-- if all processes are ready, none is out
pub none_out : (n : ℕ) → count_by is_out (replicate n Ready) ≡ 0
none_out zero = refl
none_out (suc n) = none_out n

-- no run ends with the status of a failed write
pub status_not_failed : (cause : End) → status_of_end cause ≢ WriteFailed
status_not_failed Terminated e = cc
status_not_failed Budget e = cc
status_not_failed Memory e = cc
status_not_failed Deadlock e = cc
status_not_failed Ceiling e = cc

-- bodies that fit are refused only because memory was
pub not_refused : (ps : List Process) (cards : List Card) (fault : OpenFault) → cards ≡ cards_of ps → fault ≢ NoMemory → IsOpenFault ps cards fault → ⊥
not_refused ps cards Bodies fits other refused = refused (ap length fits ∙ length-map ps _)
not_refused ps cards WrongCard fits other refused = refused.1 fits
not_refused ps cards NoMemory fits other refused = other refl
