-- The report of a run that ended.
use Rattle.std.proofs.Common.{◌≡◌, ℕ, true, List, None, Some, ◌∙◌, subst}
use Rattle.kpn_model.specs.declared.history.Entry.{Entry}
use Rattle.kpn_model.specs.declared.history.End.{End}
use Rattle.kpn_model.specs.declared.history.Place.{Place}
use Rattle.kpn_model.specs.Network.{Family, Admits}
use Rattle.kpn_model.specs.Semantics.{State, wants}
use Rattle.kpn_model.specs.Endings.{MayEnd, MayStand, IsFinal}
use Rattle.kpn_model.specs.texts.Reports.{has_report}
use Rattle.kpn_model.specs.History.{each_process, place_of}
use Rattle.kpn_model.specs.Determinacy.{OneDigest}
use Rattle.kpn_state.specs.Standings.{standing, parked_answer}
use Rattle.kpn_machine.specs.MachineView.{MachineView, IsFaithful}
use Rattle.kpn_run.proofs.RunReports.{at_rest, is_final}
use Rattle.kpn_report.specs.Text.{report_text}
use Rattle.kpn_report.proofs.OverTexts.{one_text}

module _ (kinds : Family) (admits : Admits) (s : MachineView) (cause : End) (faithful : IsFaithful kinds admits s) (ended : s.end ≡ Some cause) where
  -- its end is justified
  pub justified : MayEnd kinds s.network s.history s.state cause
  justified = subst (MayStand kinds s.network s.history s.state) ended faithful.justified

  module _ (places : List Place) (bytes : List ℕ) (places_are : places ≡ each_process s.network (λ p. place_of s.network p (parked_answer (standing s.standings p))))
      (report : (has_report cause ≡ true → places ≡ each_process s.network (λ p. place_of s.network p (wants kinds s.network s.state p))) → bytes ≡ report_text kinds s.network cause s.history s.state None) where
    -- the text is that of its history
    pub text_told : bytes ≡ report_text kinds s.network cause s.history s.state None
    text_told = report (λ has. places_are ∙ at_rest kinds admits s cause faithful ended has)

    -- and that of every run that is over, if it is
    pub every_told : OneDigest kinds → has_report cause ≡ true → (F : List Entry) (N : State) (b : End) → IsFinal kinds s.network F N b → bytes ≡ report_text kinds s.network b F N None
    every_told one has F N b final =
        text_told ∙ one_text kinds s.network one s.history F s.state N cause b None (is_final kinds admits s cause faithful ended has) final
