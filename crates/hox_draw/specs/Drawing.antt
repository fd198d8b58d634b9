-- The pictures of a network, of a run and of a description.
use Rattle.std.specs.Prelude.{◌≡◌, ℕ, Bool, true, false, List, [], Option, Some, None, Result, MatchResult, String, string_bytes, if◌then◌else◌}
use Rattle.kpn_model.specs.declared.history.Entry.{Entry}
use Rattle.kpn_model.specs.declared.history.End.{End}
use Rattle.kpn_model.specs.declared.kinds.Kinds.{Ghosts as KindsOf}
use Rattle.kpn_model.specs.Families.{family}
use Rattle.kpn_model.specs.Network.{Family, Network}
use Rattle.kpn_model.specs.Semantics.{State, IsRun}
use Rattle.kpn_model.specs.History.{Digest, digest}
use Rattle.kpn_model.specs.Endings.{IsFinal, MayEnd}
use Rattle.kpn_model.specs.texts.Reports.{has_report}
use Rattle.kpn_report.specs.declared.detail.Detail.{Detail}
use Rattle.kpn_picture.specs.declared.looks.Direction.{Direction}
use Rattle.kpn_picture.specs.declared.styles.Style.{Style}
use Rattle.kpn_picture.specs.Picture.{picture}
use Rattle.kpn_front.specs.Names.{KindNames}
use Rattle.hox_network.specs.declared.request.Request.{Request}
use Rattle.hox_network.specs.declared.request.Fault.{Fault}
use Rattle.kpn_front.specs.declared.streams.Source.{Ghosts as SourceOf}
use Rattle.hox_network.specs.Preparing.{IsFault, Prepares, ServesSource}
use Rattle.hox_draw.specs.declared.drawing.WantedPicture.{WantedPicture}
use Rattle.hox_draw.specs.Titles.{AreTitles, Titles}

-- the family of a network, the titles of its kinds, the direction, and the titles of its processes
module _ (kinds : Family) (title : Titles) (direction : Direction) (titles : List (List ℕ)) where
  -- the picture with nothing that a run left
  abbrev pub bare_picture : Network → Option End → List ℕ
  bare_picture net cause = picture direction titles title net cause [] [] []

  abbrev pub digest_picture : Network → Digest → List ℕ
  digest_picture net d = picture direction titles title net (Some d.cause) d.places d.capacities d.rests

  -- the picture of a run to M that is over
  abbrev pub over_picture : Network → End → List Entry → State → List ℕ
  over_picture net cause E M = digest_picture net (digest kinds net cause E M)

  -- the picture of a run to M that ended for this cause; if the budget was spent or memory ran out, only the cause
  abbrev pub run_picture : Network → End → List Entry → State → List ℕ
  run_picture net cause E M = if has_report cause then over_picture net cause E M else bare_picture net (Some cause)

  -- the picture of a report, with its detail, if any
  abbrev pub report_picture : Network → End → Option Detail → List ℕ
  report_picture net end None = bare_picture net (Some end)
  report_picture net end (Some d) = picture direction titles title net (Some end) d.places d.capacities d.rests

  -- a run from the start ended for a justified cause, and this is its picture; if it ended by itself, it is
  -- the picture of each run that is over
  pub record DrawsRun (net : Network) (text : List ℕ) : Type 0 where
    pub history : List Entry
    pub state : State
    pub cause : End
    pub run : IsRun kinds net history state
    pub justified : MayEnd kinds net history state cause
    pub text_is : text ≡ run_picture net cause history state
    pub settled : has_report cause ≡ true → (F : List Entry) (N : State) (b : End) → IsFinal kinds net F N b
        → text ≡ digest_picture net (digest kinds net b F N)

  abbrev pub DrawsNet : Network → List ℕ → Type 0
  DrawsNet net text = text ≡ bare_picture net None

  -- a network is drawn: itself, or as a run left it
  abbrev pub Draws : Bool → Network → List ℕ → Type 0
  Draws false net text = DrawsNet net text
  Draws true net text = DrawsRun net text

-- the family of a network, the names and the titles of its kinds, and the direction
module _ (kinds : Family) (named : KindNames) (title : Titles) (direction : Direction) where
  -- the network is prepared as requested, and this is its picture, with titles of its processes
  pub record DrawsPrepared (is_run : Bool) (request : Request) (net : Network) (text : List ℕ) : Type 0 where
    pub other : Network
    pub prepares : Prepares request net other
    pub titles : List (List ℕ)
    pub are_titles : AreTitles named other titles
    pub draws : Draws kinds title direction titles is_run other text

  -- this text is that picture
  abbrev pub ShowsPrepared : {Z : Type 0} → Bool → Request → Network → String Z → Type 0
  ShowsPrepared is_run request net text = DrawsPrepared is_run request net (string_bytes text)

  -- the result of a loaded network: its picture, or a fault
  abbrev pub GivesPicture : {Z : Type 0} → Bool → Request → Network → Result (String Z) Fault → Type 0
  GivesPicture is_run request net result = MatchResult result (ShowsPrepared is_run request net) (IsFault request net)

-- a family's kinds, their titles, and the picture that is wanted
module _ {K Z : Type 0} (kinds : KindsOf K) (title : Titles) (wanted : WantedPicture) where
  -- the result of a loaded network
  abbrev pub GivesWanted : Network → Result (String Z) Fault → Type 0
  GivesWanted net result =
      GivesPicture (family kinds) kinds.named title wanted.direction wanted.is_run wanted.request.now net result

  -- a source is served with such a result
  abbrev pub DrawsSource : {I : Type 0} → SourceOf I → I → I → Result (String Z) Fault → Type 0
  DrawsSource source before after result =
      ServesSource kinds.named kinds.signature GivesWanted source before after result

-- a family's kinds, their titles, and the style of a picture
module _ {K Z : Type 0} (kinds : KindsOf K) (title : Titles) (style : Style) where
  -- the text is the picture of a network
  abbrev pub ShowsNet : Network → String Z → Type 0
  ShowsNet net text = DrawsNet (family kinds) title style.direction style.titles.now net (string_bytes text)

  -- or of a run
  abbrev pub ShowsRun : Network → String Z → Type 0
  ShowsRun net text = DrawsRun (family kinds) title style.direction style.titles.now net (string_bytes text)

  -- or of a network itself, or as a run left it
  abbrev pub ShowsWanted : Bool → Network → String Z → Type 0
  ShowsWanted is_run net text =
      Draws (family kinds) title style.direction style.titles.now is_run net (string_bytes text)

  -- or of a report
  abbrev pub ShowsReport : Network → End → Option Detail → String Z → Type 0
  ShowsReport net end detail text =
      string_bytes text ≡ report_picture (family kinds) title style.direction style.titles.now net end detail
