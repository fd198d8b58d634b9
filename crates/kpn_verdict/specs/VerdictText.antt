-- The text of a verdict.
use Rattle.std.specs.Prelude.{◌≡◌, ℕ, zero, suc, ◌==◌, if◌then◌else◌, codes, List, [], ◌++◌, length, slice_get, Option, Some, String, string_bytes}
use Rattle.std.specs.Option.{option_map_or}
use Rattle.kpn_model.specs.declared.history.Place.{Place}
use Rattle.kpn_model.specs.declared.history.Place.TheVariants.{Reads, Writes}
use Rattle.kpn_model.specs.declared.verdict.Verdict.{Verdict}
use Rattle.kpn_model.specs.declared.verdict.Verdict.TheVariants.{Finished, RanDry, Cycle, Cut, Full, Memory}
use Rattle.kpn_model.specs.Network.{Network}
use Rattle.kpn_model.specs.texts.Names.{process_name, channel_name}
use Rattle.kpn_model.specs.Waits.{waits_for}

module _ (net : Network) (places : List Place) where
  -- the channel at which a process waits
  abbrev pub channel_part : Option Place → List ℕ
  channel_part (Some (Reads c)) = codes " " ++ channel_name net c
  channel_part (Some (Writes c)) = codes " " ++ channel_name net c
  channel_part _ = []

  -- process q, and the channel at which p waits for it
  abbrev pub wait_text : ℕ → ℕ → List ℕ
  wait_text q p = codes " " ++ process_name net q ++ channel_part (slice_get places p)

  -- the rest of a cycle, unless q is its goal; then q, and the channel at which p waits for it
  abbrev pub one_wait : ℕ → ℕ → ℕ → List ℕ → List ℕ
  one_wait goal p q rest = (if q == goal then [] else rest) ++ wait_text q p

  -- the cycle on which p waits for goal, of at most n processes: goal, the channel at which a process waits
  -- for it, that process, and so on to the channel at which p waits
  abbrev pub circle_text : ℕ → ℕ → ℕ → List ℕ
  circle_text zero goal p = []
  circle_text (suc n) goal p = option_map_or (λ q. one_wait goal p q (circle_text n goal q)) (waits_for net places p) []

  abbrev pub verdict_words : Verdict → List ℕ
  verdict_words Finished = codes "finished"
  verdict_words RanDry = codes "ran dry"
  verdict_words (Cycle p) = codes "cycle" ++ circle_text (length net.processes) p p
  verdict_words Cut = codes "cut"
  verdict_words Full = codes "full"
  verdict_words Memory = codes "memory"

  abbrev pub verdict_line : Verdict → List ℕ
  verdict_line verdict = codes "verdict " ++ verdict_words verdict ++ codes "\n"

  -- the new text is the old one, and then a process and the channel at which p waits for it
  abbrev pub AppendsWait : {Z : Type 0} → String Z → String Z → ℕ → ℕ → Type 0
  AppendsWait old new q p = string_bytes new ≡ string_bytes old ++ wait_text q p

  -- or then a cycle
  abbrev pub AppendsCircle : {Z : Type 0} → String Z → String Z → ℕ → ℕ → ℕ → Type 0
  AppendsCircle old new n goal p = string_bytes new ≡ string_bytes old ++ circle_text n goal p

  -- or then the words of a verdict
  abbrev pub AppendsWords : {Z : Type 0} → String Z → String Z → Verdict → Type 0
  AppendsWords old new verdict = string_bytes new ≡ string_bytes old ++ verdict_words verdict
