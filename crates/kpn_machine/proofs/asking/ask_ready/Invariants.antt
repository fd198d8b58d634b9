use Rattle.std.proofs.Common.{◌≡◌, ◌+◌, ◌≤◌, List, length, map}
use Rattle.std.specs.Prelude.{IfSome}
use Rattle.std.specs.Option.{option_map}
use Rattle.kpn_model.specs.Network.{family_of}
use Rattle.kpn_state.specs.declared.standing.Standing.TheVariants.{Ready}
use Rattle.kpn_state.specs.Standings.{standing}
use Rattle.kpn_commit.specs.declared.react.Reaction.{Reaction}
use Rattle.kpn_commit.specs.Coherent.{IsCoherent}
use Rattle.kpn_machine.specs.MachineView.{HasBodies}
use Rattle.kpn_machine.specs.Asking.{AreAsked}
use Rattle.kpn_machine.proofs.asking.ask_ready.Given as goal

abbrev pub invariant-loop-left : goal.invariant-loop-left
invariant-loop-left g l = record {
  coherent : IsCoherent (family_of g.B.Kinds.Kinds.start g.B.Kinds.Kinds.answer_of) g.B.Kinds.Kinds.admits l.net l.core;
  bodies : HasBodies l.net l.core.standings (map (option_map g.B.Body.card) l.bodies);
  limit : l.core.store.limit ≡ l.initial.core.store.limit;
  again : IfSome l.again (λ p. standing l.core.standings p ≡ Ready);
  few : l.left ≤ l.most;
  so_far : (reactions : List Reaction) × (length reactions + l.left ≡ l.most) × AreAsked (family_of g.B.Kinds.Kinds.start g.B.Kinds.Kinds.answer_of) g.B.Kinds.Kinds.admits l.net l.until l.initial.core.store l.initial.core.standings reactions l.core.store l.core.standings;
}

abbrev pub decreases-loop-left : goal.decreases-loop-left
decreases-loop-left g l = l.left
