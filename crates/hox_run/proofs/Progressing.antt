-- A piece of a run takes some answer.
use Rattle.std.proofs.Common.{◌≡◌, ◌≢◌, ◌+◌, ◌<◌, ℕ, zero, suc, true, None, refl, subst, arith}
use Rattle.std.specs.List.{list_any}
use Rattle.kpn_state.specs.declared.standing.Standing.TheVariants.{Ready, Out}
use Rattle.kpn_state.specs.Standings.{standing, is_busy}
use Rattle.kpn_machine.specs.MachineView.{MachineView}
use Rattle.kpn_machine.proofs.Finishing.{some_ready}

-- while a run has not ended and no process is out, some is ready, and so at least one answer is taken
pub some_answer :
    (s t : MachineView) (n : ℕ) → s.end ≡ None → list_any is_busy s.standings ≡ true → ((p : ℕ) → standing s.standings p ≢ Out) → (n ≡ 0 → t ≡ s)
    → (n < 100000 → t.end ≡ None → (p : ℕ) → standing t.standings p ≢ Ready) → t.commits ≡ s.commits + n → s.commits < t.commits
some_answer s t zero on busy out none fewer is =
    let few : zero < 100000 = omega arith in
    absurd (some_ready s.standings busy out (subst (λ (m : MachineView). m.end ≡ None → (p : ℕ) → standing m.standings p ≢ Ready) (none refl) (fewer few) on))
some_answer s t (suc n) on busy out none fewer is = omega (arith, is)
