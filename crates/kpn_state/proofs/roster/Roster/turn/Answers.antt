-- The process at the head of the queue is ready, and stays so at its end.
use Rattle.std.proofs.Common.{◌≡◌, ◌∙◌, sym}
use Rattle.kpn_state.specs.declared.standing.Standing.TheVariants.{Ready}
use Rattle.kpn_state.specs.Standings.{standing}
use Rattle.kpn_state.proofs.Placed.{standing_within, ready_not_ended}
use Rattle.kpn_state.proofs.Rostered.{front_ready, front_within, kept_turned, turn_room}
use Rattle.kpn_state.proofs.roster.Roster.turn.Goals as goal

pub enqueue-requires : goal.enqueue-requires
enqueue-requires c = λ ready. rw c.pop_front.ensures.items (turn_room _ _ _ _ _ c.self.invariant c.in_ok-process.process (sym c.pop_front.ensures.value ∙ c.in_ok-process.was))

pub returns-clause-some : goal.returns-clause-some
returns-clause-some c =
    record {
      ready = rw (← c.self.view_is) (front_ready _ _ _ _ _ c.self.invariant c.in_ok-process.process (sym c.pop_front.ensures.value ∙ c.in_ok-process.was));
      within = rw (← c.self.view_is) (front_within _ _ _ _ _ c.self.invariant c.in_ok-process.process (sym c.pop_front.ensures.value ∙ c.in_ok-process.was));
    }

pub invariant_of-self-2 : goal.invariant_of-self-2
invariant_of-self-2 c = rw (c.enqueue.ensures.items, c.enqueue.ensures.room, c.pop_front.ensures.items) (kept_turned _ _ _ _ _ c.self.invariant c.in_ok-process.process (sym c.pop_front.ensures.value ∙ c.in_ok-process.was))

pub returns-in-Some-clause-some : goal.returns-in-Some-clause-some
returns-in-Some-clause-some c =
    let ready : standing c.args.self.now c.in-Some.process ≡ Ready = rw c.in-Some.is at c.requires in
    record { ready = ready; within = standing_within c.args.self.now c.in-Some.process (rw ready ready_not_ended) }
