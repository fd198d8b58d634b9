-- A report and its digest.
use Rattle.std.specs.Prelude.{◌≡◌, ℕ, true, false, List, Option, Some, None, String, string_bytes}
use Rattle.kpn_model.specs.declared.history.End.{End}
use Rattle.kpn_model.specs.declared.history.Entry.{Entry}
use Rattle.kpn_model.specs.declared.history.Place.{Place}
use Rattle.kpn_model.specs.Network.{Family, Network}
use Rattle.kpn_model.specs.Semantics.{State, wants}
use Rattle.kpn_model.specs.texts.Reports.{has_report}
use Rattle.kpn_model.specs.History.{Digest, digest, each_process, place_of}
use Rattle.kpn_state.specs.declared.standing.Standing.{Standing}
use Rattle.kpn_state.specs.Standings.{standing, parked_answer}
use Rattle.kpn_report.specs.Text.{report_text}
use Rattle.kpn_report.specs.declared.detail.Detail.{Detail}

abbrev pub digest_with : End → Detail → Digest
digest_with cause d = record {
  cause = cause;
  places = d.places;
  steps = d.steps;
  capacities = d.capacities;
  streams = d.streams;
  rests = d.rests;
  growths = d.growths;
  entries = d.entries;
}

module _ (kinds : Family) (net : Network) (cause : End) (E : List Entry) (M : State) where
  -- the detail is that of a run to M that ended for this cause
  pub record IsReport (detail : Option Detail) : Type 0 where
    pub none : has_report cause ≡ false → detail ≡ None
    pub some : has_report cause ≡ true
        → (d : Detail) × (detail ≡ Some d) × (digest_with cause d ≡ digest kinds net cause E M)

-- where each process stands that waits as it answered; any other counts as stopped
abbrev pub parked_places : Network → List Standing → List Place
parked_places net standings = each_process net (λ p. place_of net p (parked_answer (standing standings p)))

-- where M leaves each process
abbrev pub places_left : Family → Network → State → List Place
places_left kinds net M = each_process net (λ p. place_of net p (wants kinds net M p))

-- if this end has a report, these are the places where M leaves the processes
abbrev pub ArePlacesAtEnd : Family → Network → State → End → List Place → Type 0
ArePlacesAtEnd kinds net M end places = has_report end ≡ true → places ≡ places_left kinds net M

-- the detail of a history that left the processes at these places
abbrev pub IsDetailOf : Network → List Entry → List Place → Detail → Type 0
IsDetailOf net E places d =
    (kinds : Family) (M : State) (cause : End)
    → places ≡ places_left kinds net M → digest_with cause d ≡ digest kinds net cause E M

-- the detail, if any, of a history with this end that left the processes at these places
abbrev pub TellsReport : Network → End → List Entry → List Place → Option Detail → Type 0
TellsReport net end E places detail =
    (kinds : Family) (M : State) → ArePlacesAtEnd kinds net M end places → IsReport kinds net end E M detail

-- the text of the report of a history with this end that left the processes at these places
abbrev pub IsReportTextOf : {Z : Type 0} → Network → End → List Entry → List Place → Option ℕ → String Z → Type 0
IsReportTextOf net end E places show t =
    (kinds : Family) (M : State)
    → ArePlacesAtEnd kinds net M end places → string_bytes t ≡ report_text kinds net end E M show
