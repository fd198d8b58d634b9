-- Moving a process keeps the invariant.
use Rattle.std.proofs.Common.{◌<◌, ◌∙◌, arith, length}
use Rattle.std.proofs.lemmas.Grind.{common_steps}
use Rattle.std.proofs.lemmas.List.{get_or_default}
use Rattle.kpn_state.proofs.Rostered.{others_not_ready, queue_room}
use Rattle.kpn_state.proofs.roster.Roster.update.Goals as goal

pub enqueue-requires : goal.enqueue-requires
enqueue-requires c = λ ready.
    let within : c.args.process < length c.self.inside.standings.items = rw (← c.self.view_is) at c.requires in
    queue_room _ _ _ _ _ c.self.invariant c.args.process within (λ e. others_not_ready _ c.in-Out.is (c.index.ensures ∙ get_or_default _ _ _ _ within ∙ e))

pub invariant_of-self : goal.invariant_of-self
invariant_of-self c = grind (arith, common_steps)
