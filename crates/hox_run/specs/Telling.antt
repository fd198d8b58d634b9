-- The result of a run.
use Rattle.std.specs.Prelude.{◌≡◌, ◌<◌, ℕ, Bool, true, false, if◌then◌else◌, List, [], is_some, length, map, not, take, unwrap_or, Option, None, string_bytes}
use Rattle.std.specs.List.{All, list_any, position}
use Rattle.kpn_model.specs.declared.token.Token.{Token}
use Rattle.kpn_model.specs.declared.history.Entry.{Entry}
use Rattle.kpn_model.specs.declared.kinds.Card.{Card}
use Rattle.kpn_model.specs.declared.history.End.{End}
use Rattle.kpn_model.specs.declared.history.End.TheVariants.{Budget, Ceiling}
use Rattle.kpn_model.specs.declared.history.Place.{Place}
use Rattle.kpn_model.specs.declared.verdict.Verdict.{Verdict}
use Rattle.kpn_model.specs.declared.verdict.Verdict.TheVariants.{Finished, RanDry, Cycle, Cut, Full, Memory}
use Rattle.kpn_model.specs.declared.kinds.Kinds.{Ghosts as KindsOf}
use Rattle.kpn_model.specs.Families.{family}
use Rattle.kpn_model.specs.Network.{Family, Network}
use Rattle.kpn_model.specs.Semantics.{State, wants, IsRun}
use Rattle.kpn_model.specs.History.{each_process, place_of, stream}
use Rattle.kpn_model.specs.Endings.{IsFinal, MayEnd}
use Rattle.kpn_model.specs.texts.Reports.{has_report}
use Rattle.kpn_laws.specs.RoomOfRun.{TakesLeastRoom}
use Rattle.kpn_laws.specs.StreamsOfRun.{ApproachLeastSolution}
use Rattle.kpn_run.specs.declared.fault.RunFault.{RunFault}
use Rattle.kpn_run.specs.declared.fault.RunFault.TheVariants.{Workers, Open, Memory as NoMemory, Lost}
use Rattle.kpn_run.specs.Runs.{IsComparable}
use Rattle.kpn_dry.specs.Dry.{IsWhole}
use Rattle.kpn_report.specs.Text.{report_text}
use Rattle.kpn_tokens.specs.declared.layouts.Decimals.{Decimals}
use Rattle.kpn_tokens.specs.declared.layouts.Layout.{Layout}
use Rattle.kpn_tokens.specs.Records.{clips, fits, misfits}
use Rattle.kpn_front.specs.declared.status.ExitStatus.{ExitStatus}
use Rattle.kpn_front.specs.declared.status.ExitStatus.TheVariants.{Success, BudgetSpent, MemoryRefused, Deadlocked, AtCeiling, Refused}
use Rattle.hox_run.specs.declared.shown.ChannelAs.{ChannelAs}
use Rattle.hox_run.specs.declared.shown.WantedStreams.{WantedStreams}
use Rattle.hox_run.specs.declared.files.StreamFile.{StreamFile}
use Rattle.hox_run.specs.declared.telling.Told.{Told}
use Rattle.hox_run.specs.Cuts.{IsWithin, Leaves, cut_text}
use Rattle.hox_run.specs.Judging.{AreDry, IsJudged}
use Rattle.hox_run.specs.Judged.{text_with_verdict}
use Rattle.hox_run.specs.Notes.{AreNotes}

-- a network, bodies of these cards, and a wanted number of workers, as several may run it: the cards are those of its
-- processes, and each wanted stream is that of one of its channels
pub record MayShareRun (net : Network) (held : List Card) (n : ℕ) (outputs : List (ChannelAs Layout)) : Type 0 where
  pub cards : held ≡ map (λ p. p.card) net.processes
  pub workers : 1 < n
  pub within : All (IsWithin net) outputs

-- several may share the run, whose wanted streams are these
abbrev pub MayShareFor : Network → List Card → ℕ → WantedStreams → Type 0
MayShareFor net held n wanted = MayShareRun net held n wanted.outputs.now

-- the fault of a run by a number of workers that may run a network, with bodies that fit
abbrev pub IsOfRun : {B K : Type 0} → RunFault B K → Type 0
IsOfRun (Workers net bodies) = ⊥
IsOfRun (Open net bodies fault) = ⊥
IsOfRun (NoMemory net bodies) = Unit {0}
IsOfRun (Lost answered body) = Unit {0}

abbrev pub status_of_verdict : Verdict → ExitStatus
status_of_verdict Finished = Success
status_of_verdict RanDry = Success
status_of_verdict (Cycle p) = Deadlocked
status_of_verdict Cut = BudgetSpent
status_of_verdict Full = AtCeiling
status_of_verdict Memory = MemoryRefused

-- the place of the first token that does not fit and is not clipped
abbrev pub first_misfit : Layout → List Token → Option ℕ
first_misfit layout tokens = if clips layout then None else position (λ token. not (fits layout token)) tokens

-- the tokens before it, or all
abbrev pub fitting : Layout → List Token → List Token
fitting layout tokens = take (unwrap_or (first_misfit layout tokens) (length tokens)) tokens

-- a file of tokens: those up to the first that does not fit, and how many of them are clipped
abbrev pub fitted : Layout → List Token → StreamFile
fitted layout tokens =
    record {
      tokens = fitting layout tokens;
      clipped = if clips layout then misfits layout tokens else 0;
      is_misfit = is_some (first_misfit layout tokens);
    }

-- a file of a channel's stream, its start tokens first
abbrev pub stream_file : Network → List Entry → ChannelAs Layout → StreamFile
stream_file net E c = fitted c.written (stream net E c.channel)

-- the run could go on
abbrev pub is_early : End → Bool
is_early Ceiling = true
is_early Budget = true
is_early _ = false

-- some token does not fit its file
abbrev pub has_misfit_file : List StreamFile → Bool
has_misfit_file files = list_any (λ (f : StreamFile). f.is_misfit) files

-- the exit status for a verdict, unless a token does not fit a file
abbrev pub status_with : Verdict → List StreamFile → ExitStatus
status_with verdict files = if has_misfit_file files then Refused else status_of_verdict verdict

module _ (kinds : Family) (net : Network) where
  -- where the run to M left each process
  abbrev pub places_in : State → List Place
  places_in M = each_process net (λ p. place_of net p (wants kinds net M p))

  -- what follows the verdict: if the run was cut, where it left each process, and the streams to show so far
  abbrev pub Follows : List (ChannelAs Decimals) → End → List Entry → State → List ℕ → Type 0
  Follows show Budget E M text = (left : ℕ → Option Place) × Leaves kinds net M left × (text ≡ cut_text net E left show)
  Follows show cause E M text = text ≡ []

  -- what was written of these channels is all: no longer run, and no other run from any starting capacities, has more
  abbrev pub AreWhole : {W : Type 0} → List Entry → List (ChannelAs W) → Type 0
  AreWhole E channels = All (λ c. IsWhole kinds net E c.channel) channels

  module _ (show : List (ChannelAs Decimals)) (outputs : List (ChannelAs Layout)) (told : Told) where
    -- the report on the run E to M, with this verdict
    abbrev pub told_text : End → List Entry → State → Verdict → (ℕ → Bool) → List ℕ → List ℕ
    told_text cause E M verdict dry after =
        text_with_verdict net show cause E verdict (report_text kinds net cause E M None) (places_in M) dry after

    -- this result is that of the run E to M, with this end and verdict
    pub record TellsOf (cause : End) (E : List Entry) (M : State) (verdict : Verdict) : Type 0 where
      pub dry : ℕ → Bool
      pub are_dry : AreDry kinds net cause M dry
      pub judged : IsJudged net dry show outputs (places_in M) cause verdict
      pub status_is : told.status ≡ status_with verdict told.outputs.items
      pub after : List ℕ
      pub follows : Follows show cause E M after
      pub report_is : string_bytes told.report ≡ told_text cause E M verdict dry after
      pub outputs_are : told.outputs.items ≡ map (stream_file net E) outputs

    -- a run from the start ended for a justified cause. It took no more room than needed; its streams
    -- approach the least solution and are prefix-comparable with those of any other run. The result is that
    -- of this run. If it ran dry at the ceiling or when it was cut, its wanted streams are whole; if it ended by
    -- itself, it is also that of each run that is over, whatever the schedule
    pub record TellsRun : Type 0 where
      pub history : List Entry
      pub state : State
      pub cause : End
      pub verdict : Verdict
      pub run : IsRun kinds net history state
      pub justified : MayEnd kinds net history state cause
      pub room : TakesLeastRoom kinds net history state
      pub streams : ApproachLeastSolution kinds net history state
      pub comparable : IsComparable kinds net history
      pub tells : TellsOf cause history state verdict
      pub left : ℕ → Option Place
      pub leaves : Leaves kinds net state left
      pub notes : AreNotes net verdict history left told.notes
      pub whole : verdict ≡ RanDry → is_early cause ≡ true → AreWhole history show × AreWhole history outputs
      pub settled : has_report cause ≡ true → (F : List Entry) (N : State) (b : End) → IsFinal kinds net F N b
          → TellsOf b F N verdict

-- what is told of a run of a family's kinds, whose streams are wanted
abbrev pub TellsWanted : {K : Type 0} → KindsOf K → Network → WantedStreams → Told → Type 0
TellsWanted kinds net wanted told = TellsRun (family kinds) net wanted.show.now wanted.outputs.now told
