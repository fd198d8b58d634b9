-- What `hox` does, from its arguments and files to what is written.
use Rattle.std.specs.Prelude.{◌≡◌, ℕ, Bool, false, List, [], Option, None, is_some, option_map, unwrap_or, Result, Ok}
use Rattle.kpn_model.specs.Network.{Family}
use Rattle.kpn_front.specs.declared.status.ExitStatus.{ExitStatus}
use Rattle.kpn_front.specs.Names.{KindNames, Signatures}
use Rattle.kpn_picture.specs.declared.looks.Direction.{Direction}
use Rattle.hox_draw.specs.Titles.{Titles}
use Rattle.hox_args.specs.declared.arguments.Choice.{Choice}
use Rattle.hox_args.specs.declared.arguments.Choice.TheVariants.{Check, Run, Draw, Stream, Kinds}
use Rattle.hox_args.specs.declared.arguments.CheckChoice.{CheckChoice}
use Rattle.hox_args.specs.declared.arguments.DrawChoice.{DrawChoice}
use Rattle.hox_args.specs.declared.arguments.RunChoice.{RunChoice}
use Rattle.hox_args.specs.HoxChoices.{IsHoxChoice, IsHoxFault}
use Rattle.hox_execute.specs.declared.running.Ran.{Ran as RanV}
use Rattle.hox_execute.specs.declared.serving.ServedCommand.{ServedCommand}
use Rattle.hox_execute.specs.declared.serving.ServedCommand.TheVariants.{Exits, Ran, Streams, Lists}
use Rattle.hox_files.specs.declared.stops.Stop.{Stop}
use Rattle.hox_files.specs.declared.stops.Stop.TheVariants.{Clash, Format, InputTwice, Memory, NoPair, Refused, Unread, Words}
use Rattle.hox_execute.specs.Commands.{Ends, HasChecked, HasDrawn, HasRun, IsStop}
use Rattle.hox_files.specs.Files.{Clashing, Contents, Effects, Texts, standard, texts_in}
use Rattle.hox_files.specs.Requests.{Want}

-- what a command wants of the description in this file, or on standard input
abbrev pub want_in : Option (List ℕ) → Texts → ℕ → Want
want_in file formats workers = record {
  file = unwrap_or file standard;
  workers = workers;
  budget = None;
  show = [];
  formats = formats;
  unsigned = [];
  is_quiet = false;
  is_json = false;
}

abbrev pub want_of_run : RunChoice → Want
want_of_run run = record {
  file = unwrap_or (option_map (λ s. s.now) run.file) standard;
  workers = run.workers;
  budget = run.budget;
  show = texts_in run.show.items;
  formats = texts_in run.formats.items;
  unsigned = texts_in run.unsigned.items;
  is_quiet = run.quiet;
  is_json = run.json;
}

-- a network drawn as it is has one worker
abbrev pub want_of_draw : DrawChoice → Want
want_of_draw draw = want_in (option_map (λ s. s.now) draw.file) (texts_in draw.formats.items) (unwrap_or draw.workers 1)

abbrev pub want_of_check : CheckChoice → Want
want_of_check check = want_in (option_map (λ s. s.now) check.file) (texts_in check.formats.items) 1

-- a family's names and ports; the contents of each file and which names clash, if known
module _ (named : KindNames) (signature : Signatures) (contents : Contents) (clash : Clashing) where
  -- why a command that wants this is not carried out
  abbrev IsStopFor : Want → Texts → Texts → Stop → Type 0
  IsStopFor want tokens outputs stop = IsStop named signature contents clash want tokens outputs stop

  abbrev pub IsRunStop : RunChoice → Stop → Type 0
  IsRunStop run stop = IsStopFor (want_of_run run) (texts_in run.tokens.items) (texts_in run.outputs.items) stop

  abbrev pub IsDrawStop : DrawChoice → Stop → Type 0
  IsDrawStop draw stop = IsStopFor (want_of_draw draw) (texts_in draw.tokens.items) [] stop

  abbrev pub IsStopIn : Choice → Stop → Type 0
  IsStopIn (Check check) stop = IsStopFor (want_of_check check) (texts_in check.tokens.items) [] stop
  IsStopIn (Run run) stop = IsRunStop run stop
  IsStopIn (Draw draw) stop = IsDrawStop draw stop
  IsStopIn (Stream chosen) stop = ⊥
  IsStopIn (Kinds chosen) stop = ⊥

  -- the arguments are a choice that is not carried out
  abbrev IsChosenStop : Texts → Stop → Type 0
  IsChosenStop words stop = (choice : Choice) × IsHoxChoice words choice × IsStopIn choice stop

  -- the arguments are wrong, or they are a choice that is not carried out
  abbrev pub IsProgramStop : Texts → Stop → Type 0
  IsProgramStop words (Words fault) = IsHoxFault words fault
  IsProgramStop words (Refused refusal) = IsChosenStop words (Refused refusal)
  IsProgramStop words (NoPair option text) = IsChosenStop words (NoPair option text)
  IsProgramStop words (Format stop) = IsChosenStop words (Format stop)
  IsProgramStop words InputTwice = IsChosenStop words InputTwice
  IsProgramStop words (Clash one other) = IsChosenStop words (Clash one other)
  IsProgramStop words (Unread file error) = IsChosenStop words (Unread file error)
  IsProgramStop words Memory = IsChosenStop words Memory

-- a family, its names and ports
module _ (kinds : Family) (named : KindNames) (signature : Signatures) where
  -- the contents of each file and which names clash, if known; whether no write can fail; and the effects
  -- before and after
  module _ (contents : Contents) (clash : Clashing) (steady : Bool) (before after : Effects) where
    -- the network of what is wanted is run
    abbrev RunsWant : Want → Texts → Texts → RanV → Type 0
    RunsWant want tokens outputs ran =
        HasRun named signature contents clash want tokens outputs steady before after kinds ran

    abbrev pub RunsChoice : RunChoice → RanV → Type 0
    RunsChoice run ran = RunsWant (want_of_run run) (texts_in run.tokens.items) (texts_in run.outputs.items) ran

    -- how a run ends
    abbrev pub EndsRun : RunChoice → Result RanV Stop → Type 0
    EndsRun run result = Ends (RunsChoice run) (IsRunStop named signature contents clash run) before after result

    module _ (title : Titles) where
      -- the network of what is wanted is drawn
      abbrev DrawsWant : Want → Texts → ExitStatus → Direction → Bool → Type 0
      DrawsWant want tokens status direction is_run =
          HasDrawn named signature contents clash want tokens [] steady before after status kinds title direction is_run

      abbrev pub DrawsChoice : DrawChoice → ExitStatus → Type 0
      DrawsChoice draw status =
          DrawsWant (want_of_draw draw) (texts_in draw.tokens.items) status draw.direction (is_some draw.workers)

      -- the network of what is wanted is checked
      abbrev ChecksWant : Want → Texts → ExitStatus → Bool → Type 0
      ChecksWant want tokens status expanded =
          HasChecked named signature contents clash want tokens [] steady before after status title expanded

      abbrev ChecksChoice : CheckChoice → ExitStatus → Type 0
      ChecksChoice check status =
          ChecksWant (want_of_check check) (texts_in check.tokens.items) status check.expanded

      -- the choice is carried out, or left as a stream or a list, with nothing done
      abbrev pub Does : Choice → ServedCommand → Type 0
      Does (Check check) (Exits status) = ChecksChoice check status
      Does (Run run) (Ran ran) = RunsChoice run ran
      Does (Draw draw) (Exits status) = DrawsChoice draw status
      Does (Stream chosen) (Streams stream) = (stream ≡ chosen) × (after ≡ before)
      Does (Kinds chosen) (Lists kinds) = (kinds ≡ chosen) × (after ≡ before)
      Does _ _ = ⊥

      -- the arguments are a choice, and it is carried out
      pub record Serves (words : Texts) (outcome : ServedCommand) : Type 0 where
        pub choice : Choice
        pub chosen : IsHoxChoice words choice
        pub does : Does choice outcome

      -- how a command to draw, and any command, ends
      abbrev pub EndsDraw : DrawChoice → Result ExitStatus Stop → Type 0
      EndsDraw draw result =
          Ends (DrawsChoice draw) (IsDrawStop named signature contents clash draw) before after result

      abbrev pub EndsChoice : Choice → Result ServedCommand Stop → Type 0
      EndsChoice choice result = Ends (Does choice) (IsStopIn named signature contents clash choice) before after result

-- the program exits with the status that was come to
abbrev pub ExitsWith : Result ExitStatus Stop → ServedCommand → Type 0
ExitsWith done outcome = (status : ExitStatus) × (outcome ≡ Exits status) × (done ≡ Ok status)

-- the outcome is the run that was come to
abbrev pub IsRanAs : Result RanV Stop → ServedCommand → Type 0
IsRanAs done outcome = (ran : RanV) × (outcome ≡ Ran ran) × (done ≡ Ok ran)
