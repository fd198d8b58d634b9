-- The verdict on a network, from where the run left each process.
use Rattle.std.specs.Prelude.{◌≡◌, ◌<◌, ℕ, true, false, List, length}
use Rattle.kpn_model.specs.declared.history.End.{End}
use Rattle.kpn_model.specs.declared.history.End.TheVariants.{Terminated, Deadlock, Ceiling, Budget, Memory}
use Rattle.kpn_model.specs.declared.history.Place.{Place}
use Rattle.kpn_model.specs.declared.verdict.Verdict.{Verdict}
use Rattle.kpn_model.specs.declared.verdict.Verdict.TheVariants.{Finished, RanDry, Cycle, Cut, Full, Memory as OutOfMemory}
use Rattle.kpn_model.specs.Network.{Network}
use Rattle.kpn_model.specs.Waits.{is_on_cycle}

module _ (net : Network) (places : List Place) where
  abbrev pub HasNoCycle : Type 0
  HasNoCycle = (p : ℕ) → p < length net.processes → is_on_cycle net places p ≡ false

  pub record IsFirstOnCycle (p : ℕ) : Type 0 where
    pub within : p < length net.processes
    pub on_cycle : is_on_cycle net places p ≡ true
    pub first : (q : ℕ) → q < p → is_on_cycle net places q ≡ false

  abbrev pub IsVerdictOfDeadlock : Verdict → Type 0
  IsVerdictOfDeadlock RanDry = HasNoCycle
  IsVerdictOfDeadlock (Cycle p) = IsFirstOnCycle p
  IsVerdictOfDeadlock _ = ⊥

  abbrev pub IsVerdict : End → Verdict → Type 0
  IsVerdict Terminated verdict = verdict ≡ Finished
  IsVerdict Deadlock verdict = IsVerdictOfDeadlock verdict
  IsVerdict Budget verdict = verdict ≡ Cut
  IsVerdict Ceiling verdict = verdict ≡ Full
  IsVerdict Memory verdict = verdict ≡ OutOfMemory
