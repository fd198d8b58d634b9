use Rattle.std.proofs.Common.{ℕ, ◌≡◌, ◌<◌, ◌≤◌, length}
use Rattle.kpn_model.specs.Network.{family_of}
use Rattle.kpn_monitor.specs.Hands.{Deals}
use Rattle.kpn_monitor.proofs.guarded.Guarded.deal_more.Given as goal

abbrev pub invariant-loop-i : goal.invariant-loop-i
invariant-loop-i g l = record {
  deals : Deals (family_of g.B.Kinds.Kinds.start g.B.Kinds.Kinds.answer_of) g.B.Kinds.Kinds.admits g.E.EntryLedger.net l.initial.self.machine l.initial.hand.tasks l.self.machine l.hand.tasks;
  some : 0 < length l.hand.tasks;
  many : length l.hand.tasks ≤ l._i;
  bound : (n : ℕ) → length l.initial.hand.tasks ≤ n → l.wanted ≤ n → length l.hand.tasks ≤ n;
  called : l.hand.called ≡ l.initial.hand.called;
  outcomes : l.hand.outcomes ≡ l.initial.hand.outcomes;
}
