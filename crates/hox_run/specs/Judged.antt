-- The text of a report, with its verdict.
use Rattle.std.specs.Prelude.{ℕ, Bool, List, ◌++◌}
use Rattle.kpn_model.specs.declared.history.Entry.{Entry}
use Rattle.kpn_model.specs.declared.history.End.{End}
use Rattle.kpn_model.specs.declared.history.Place.{Place}
use Rattle.kpn_model.specs.declared.verdict.Verdict.{Verdict}
use Rattle.kpn_model.specs.Network.{Network}
use Rattle.kpn_verdict.specs.VerdictText.{verdict_line}
use Rattle.kpn_tokens.specs.declared.layouts.Decimals.{Decimals}
use Rattle.hox_run.specs.declared.shown.ChannelAs.{ChannelAs}
use Rattle.hox_run.specs.Cuts.{before_verdict}
use Rattle.hox_run.specs.Judging.{active_part}

-- the streams to show of a run with these entries, its end, and its verdict
module _ (net : Network) (show : List (ChannelAs Decimals)) (cause : End) (E : List Entry) (verdict : Verdict) where
  -- the text, then the streams to show, and the verdict on where the run left the processes
  abbrev pub up_to_verdict : List ℕ → List Place → List ℕ
  up_to_verdict text places = text ++ before_verdict net cause E show ++ verdict_line net places verdict

  -- then, if due, the line on the processes that are not dry, and what follows
  abbrev pub text_with_verdict : List ℕ → List Place → (ℕ → Bool) → List ℕ → List ℕ
  text_with_verdict text places dry after = up_to_verdict text places ++ active_part net dry cause verdict ++ after
