-- What the monitor says of the seat, which keeps its part.
use Rattle.std.proofs.Common.{◌≡◌, ◌+◌, ◌∙◌, ℕ, ap}
use Rattle.std.specs.Prelude.{Result, Ok, Err, MatchResult}
use Rattle.kpn_machine.specs.Commits.{entries_appended}
use Rattle.kpn_monitor.specs.Views.{Shares}
use Rattle.kpn_observe.proofs.crew.CrewSeat.commit.Goals as goal

keeps_parts : {A E : Type 0} (r : Result A E) (more : A → ℕ) (new old : Shares) → MatchResult r (λ o. new ≡ record old { entries = old.entries + more o }) (λ _. new ≡ old) → new.parts ≡ old.parts
keeps_parts (Ok o) more new old is = ap (λ (s : Shares). s.parts) is
keeps_parts (Err e) more new old is = ap (λ (s : Shares). s.parts) is

pub invariant_of-self : goal.invariant_of-self
invariant_of-self g c = keeps_parts c.commit.result entries_appended c.commit.new.seat c.self.inside.seat c.commit.ensures.seat ∙ c.self.invariant

pub returns : goal.returns
returns g c = rw (← c.self.view_is) c.commit.ensures
