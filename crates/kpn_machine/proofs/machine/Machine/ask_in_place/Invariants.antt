use Rattle.std.proofs.Common.{◌≡◌, ◌≢◌, ◌↔◌, ◌+◌, ◌-◌, ◌≤◌, ℕ, List, length, None}
use Rattle.kpn_model.specs.Network.{family_of}
use Rattle.kpn_state.specs.declared.standing.Standing.TheVariants.{Out}
use Rattle.kpn_state.specs.Standings.{standing}
use Rattle.kpn_commit.specs.declared.outcome.Outcome.{Outcome}
use Rattle.kpn_machine.specs.Commits.{ContinuesRun, GoesRounds}
use Rattle.kpn_machine.proofs.machine.Machine.ask_in_place.Given as goal

abbrev pub invariant-loop-self : goal.invariant-loop-self
invariant-loop-self g l = record {
  rounds : (outcomes : List Outcome) × (length outcomes ≡ l.taken) × GoesRounds (family_of g.B.Kinds.Kinds.start g.B.Kinds.Kinds.answer_of) l.initial.self outcomes l.self;
  goes : ContinuesRun (family_of g.B.Kinds.Kinds.start g.B.Kinds.Kinds.answer_of) l.initial.self l.self;
  commits : l.self.commits ≡ l.initial.self.commits + l.taken;
  few : l.taken ≤ l.most;
  out : (p : ℕ) → (standing l.self.standings p ≡ Out) ↔ (standing l.initial.self.standings p ≡ Out);
  ended : l.initial.self.end ≢ None → l.taken ≡ 0;
  none : l.taken ≡ 0 → l.self ≡ l.initial.self;
}

abbrev pub decreases-loop-self : goal.decreases-loop-self
decreases-loop-self g l = l.most - l.taken
