-- What the end of a run says.
use Rattle.std.proofs.Common.{◌≡◌, List, length, refl, subst}
use Rattle.std.specs.Prelude.{Option, Some}
use Rattle.kpn_model.specs.declared.history.End.{End}
use Rattle.kpn_model.specs.declared.history.Entry.{Entry}
use Rattle.kpn_model.specs.Network.{Family, Network, Admits}
use Rattle.kpn_model.specs.Semantics.{State}
use Rattle.kpn_model.specs.Endings.{MayEnd, MayStand}
use Rattle.kpn_machine.specs.MachineView.{IsFaithful}
use Rattle.kpn_run.specs.Runs.{FinishView, IsFinish}

pub justified_end : (kinds : Family) (net : Network) (E : List Entry) (M : State) (o : Option End) (e : End) → o ≡ Some e → MayStand kinds net E M o → MayEnd kinds net E M e
justified_end kinds net E M o e is h = subst (MayStand kinds net E M) is h

pub finish_of : (kinds : Family) (admits : Admits) (f : FinishView) → IsFaithful kinds admits f.machine → f.machine.end ≡ Some f.cause → length f.machine.history ≡ f.receipts → IsFinish kinds f.machine.network f
finish_of kinds admits f faithful is receipts =
    record {
      network = refl;
      run = faithful.run;
      justified = justified_end kinds f.machine.network f.machine.history f.machine.state f.machine.end f.cause is faithful.justified;
      receipts = receipts;
    }
