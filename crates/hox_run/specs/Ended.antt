-- A run that ended, as reports see it.
use Rattle.std.specs.Prelude.{◌≡◌, ℕ, Bool, true, List, Option, None, string_bytes}
use Rattle.kpn_model.specs.declared.history.Entry.{Entry}
use Rattle.kpn_model.specs.declared.history.Place.{Place}
use Rattle.kpn_model.specs.declared.verdict.Verdict.{Verdict}
use Rattle.kpn_model.specs.Network.{Family}
use Rattle.kpn_model.specs.Semantics.{State}
use Rattle.kpn_model.specs.texts.Reports.{has_report}
use Rattle.kpn_dry.specs.Told.{is_told_dry}
use Rattle.kpn_report.specs.declared.entries.Entries.{Ghosts as EntriesOf}
use Rattle.kpn_report.specs.Text.{report_text}
use Rattle.kpn_tokens.specs.declared.layouts.Decimals.{Decimals}
use Rattle.hox_run.specs.declared.ended.Ended.{Ended}
use Rattle.hox_run.specs.declared.judging.JudgedRun.{JudgedRun}
use Rattle.hox_run.specs.declared.shown.ChannelAs.{ChannelAs}
use Rattle.hox_run.specs.declared.shown.WantedStreams.{WantedStreams}
use Rattle.hox_run.specs.Cuts.{after_verdict, before_verdict, left_at, stream_shown, streams_text}
use Rattle.hox_run.specs.Judged.{text_with_verdict}
use Rattle.hox_run.specs.Judging.{IsJudged, active_part}
use Rattle.hox_run.specs.Telling.{places_in}

module _ {K E : Type 0} (run : Ended K E) where
  -- where it left each process
  abbrev pub left_by : ℕ → Option Place
  left_by = left_at run.standings.now run.places.now

  -- which processes it left dry
  abbrev pub dry_by : ℕ → Bool
  dry_by = is_told_dry run.net.now run.standings.now

  -- the line on the others after a verdict, if due
  abbrev pub active_by : Verdict → List ℕ
  active_by verdict = active_part run.net.now dry_by run.end verdict

  -- this is the verdict, given which streams are wanted
  abbrev pub JudgesRun : WantedStreams → Verdict → Type 0
  JudgesRun wanted verdict =
      IsJudged run.net.now dry_by wanted.show.now wanted.outputs.now run.places.now run.end verdict

  -- if the run has a report, it left the processes where they are in this state
  abbrev pub IsLeftIn : Family → State → Type 0
  IsLeftIn kinds M = has_report run.end ≡ true → run.places.now ≡ places_in kinds run.net.now M

  module _ (entries : EntriesOf E) where
    abbrev pub entries_in : List Entry
    entries_in = entries.entries run.history.now

    -- the streams of these channels, or of one
    abbrev pub streams_by : List ℕ → List (ChannelAs Decimals) → List ℕ
    streams_by word channels = streams_text run.net.now word entries_in channels

    abbrev pub stream_by : List ℕ → ChannelAs Decimals → List ℕ
    stream_by word channel = stream_shown run.net.now word entries_in channel

    -- the report up to the streams to show
    abbrev pub report_by : Family → State → List ℕ
    report_by kinds M = report_text kinds run.net.now run.end entries_in M None

    module _ (show : List (ChannelAs Decimals)) where
      -- the streams that a report shows before its verdict, and what it has after it
      abbrev pub before_by : List ℕ
      before_by = before_verdict run.net.now run.end entries_in show

      abbrev pub after_by : List ℕ
      after_by = after_verdict run.net.now run.end entries_in left_by show

      -- a text, and then all that follows in a report
      abbrev pub as_judged : Verdict → List ℕ → List ℕ
      as_judged verdict text =
          text_with_verdict run.net.now show run.end entries_in verdict text run.places.now dry_by after_by

      -- the text is the report, whatever state the run left
      abbrev pub ReportsJudged : Verdict → List ℕ → Type 0
      ReportsJudged verdict text =
          (kinds : Family) (M : State) → IsLeftIn kinds M → text ≡ as_judged verdict (report_by kinds M)

      -- so is that of what was judged
      abbrev pub ReportsRun : JudgedRun → Type 0
      ReportsRun judged = ReportsJudged judged.verdict (string_bytes judged.report)
