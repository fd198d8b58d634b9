-- The title of the picture of a run: its verdict and its end.
use Rattle.std.specs.Prelude.{ℕ, zero, suc, if◌then◌else◌, codes, List, [], ◌++◌, length, Option, Some, None}
use Rattle.std.specs.Option.{option_map_or}
use Rattle.kpn_model.specs.declared.history.Place.{Place}
use Rattle.kpn_model.specs.declared.history.End.{End}
use Rattle.kpn_model.specs.declared.history.End.TheVariants.{Terminated, Deadlock, Ceiling, Budget, Memory}
use Rattle.kpn_model.specs.declared.verdict.Verdict.{Verdict}
use Rattle.kpn_model.specs.declared.verdict.Verdict.TheVariants.{Finished, RanDry, Cycle, Cut, Full, Memory as OutOfMemory}
use Rattle.kpn_model.specs.Network.{Network}
use Rattle.kpn_model.specs.Waits.{is_on_cycle}
use Rattle.kpn_verdict.specs.VerdictText.{verdict_words}

abbrev pub end_in_words : End → List ℕ
end_in_words Terminated = codes "terminated"
end_in_words Deadlock = codes "deadlock"
end_in_words Ceiling = codes "a channel at the ceiling would have to grow"
end_in_words Budget = codes "budget spent"
end_in_words Memory = codes "memory refused"

-- the end of the title line, after the verdict
abbrev pub end_part : End → List ℕ
end_part end = codes " (" ++ end_in_words end ++ codes ")\";\n"

module _ (net : Network) (places : List Place) where
  -- the first of n processes that waits for itself, directly or indirectly
  abbrev pub first_on_cycle : ℕ → Option ℕ
  first_on_cycle zero = None
  first_on_cycle (suc n) = option_map_or Some (first_on_cycle n) (if is_on_cycle net places n then Some n else None)

  -- the verdict, equal to that of Rattle.kpn_model.specs.Verdicts
  abbrev pub verdict_at : End → Verdict
  verdict_at Terminated = Finished
  verdict_at Deadlock = option_map_or Cycle (first_on_cycle (length net.processes)) RanDry
  verdict_at Ceiling = Full
  verdict_at Budget = Cut
  verdict_at Memory = OutOfMemory

  -- the title line, for the picture of a run
  abbrev pub caption : Option End → List ℕ
  caption None = []
  caption (Some end) = codes "  label=\"" ++ verdict_words net places (verdict_at end) ++ end_part end
