-- The picture of a run's report is that of its digest.
use Rattle.std.proofs.Common.{◌≡◌, ℕ, Bool, true, false, List, Option, refl, ap}
use Rattle.kpn_model.specs.declared.history.End.{End}
use Rattle.kpn_model.specs.declared.history.Entry.{Entry}
use Rattle.kpn_model.specs.Network.{Family, Network}
use Rattle.kpn_model.specs.Semantics.{State}
use Rattle.kpn_model.specs.History.{digest}
use Rattle.kpn_model.specs.Endings.{IsFinal}
use Rattle.kpn_report.specs.declared.detail.Detail.{Detail}
use Rattle.kpn_report.specs.Reported.{IsReport}
use Rattle.kpn_model.specs.texts.Reports.{has_report}
use Rattle.kpn_run.specs.Reports.{IsEveryRuns}
use Rattle.kpn_picture.specs.declared.looks.Direction.{Direction}
use Rattle.hox_draw.specs.Drawing.{digest_picture, report_picture, run_picture}

module _ (kinds : Family) (title : ℕ → List ℕ × ℕ) (direction : Direction) (titles : List (List ℕ)) (net : Network) (cause : End) where
  module _ (E : List Entry) (M : State) (detail : Option Detail) (report : IsReport kinds net cause E M detail) where
    picture_by : (b : Bool) → has_report cause ≡ b → report_picture kinds title direction titles net cause detail ≡ run_picture kinds title direction titles net cause E M
    picture_by true has = let there = report.some has in rw (there.1, has) (ap (digest_picture kinds title direction titles net) there.2)
    picture_by false has = rw (report.none has, has) refl

    pub own_picture : report_picture kinds title direction titles net cause detail ≡ run_picture kinds title direction titles net cause E M
    own_picture = picture_by (has_report cause) refl

  -- and that of each run that is over
  pub every_picture :
      (detail : Option Detail) → IsEveryRuns kinds net cause detail → has_report cause ≡ true → (F : List Entry) (N : State) (b : End) → IsFinal kinds net F N b
      → report_picture kinds title direction titles net cause detail ≡ digest_picture kinds title direction titles net (digest kinds net b F N)
  every_picture detail every has F N b final = let there = every has F N b final in rw there.1 (ap (digest_picture kinds title direction titles net) there.2)
