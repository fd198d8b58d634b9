use Rattle.std.proofs.Common.{◌≡◌, ◌+◌, ◌-◌, ◌*◌, ◌≤◌}
use Rattle.std.specs.Prelude.{IfSome}
use Rattle.std.specs.List.{sum_by}
use Rattle.kpn_model.specs.Network.{family_of}
use Rattle.kpn_state.specs.declared.standing.Standing.TheVariants.{Ready}
use Rattle.kpn_state.specs.Standings.{standing}
use Rattle.kpn_flow.specs.Flows.{IsSettled}
use Rattle.kpn_flow.specs.Waits.{is_not_parked}
use Rattle.kpn_flow.proofs.Stretches.{Ran}
use Rattle.kpn_flow.proofs.going.go_on.Given as goal

abbrev pub invariant-loop-done : goal.invariant-loop-done
invariant-loop-done g l = record {
  settled : IsSettled (family_of g.B.Kinds.Kinds.start g.B.Kinds.Kinds.answer_of) g.B.Kinds.Kinds.admits l.opened.net.now l.core;
  limit : l.core.store.limit ≡ l.initial.core.store.limit;
  few : l.done ≤ l.most;
  counts : l.counts ≡ l.initial.counts;
  few_grown : l.grown ≤ l.done;
  again : IfSome l.again (λ p. standing l.core.standings p ≡ Ready);
  ran : Ran (family_of g.B.Kinds.Kinds.start g.B.Kinds.Kinds.answer_of) l.opened.net.now l.opened.inputs.now l.opened.outputs.now l.initial.core.store.state l.core.store.state l.done l.grown;
}

abbrev pub decreases-loop-done : goal.decreases-loop-done
decreases-loop-done g l = 2 * (l.most - l.done) + sum_by is_not_parked l.core.standings
