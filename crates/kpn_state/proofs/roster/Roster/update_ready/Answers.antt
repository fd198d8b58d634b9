-- A ready process leaves the queue.
use Rattle.std.proofs.Common.{◌≡◌, ◌<◌, ◌≤◌, ◌+◌, ◌-◌, ap, arith, length, cond}
use Rattle.kpn_state.specs.declared.standing.Standing.TheVariants.{Ready}
use Rattle.kpn_state.specs.Standings.{standing, has_stopped}
use Rattle.kpn_state.proofs.Rostered.{kept_left, one_live, others_not_ready}
use Rattle.kpn_state.proofs.roster.Roster.update_ready.Goals as goal

pub invariant_of-self : goal.invariant_of-self
invariant_of-self c =
    let within : c.args.process < length c.self.inside.standings.items = rw (← c.self.view_is) at c.requires.process in
    let ready : standing c.self.inside.standings.items c.args.process ≡ Ready = rw (← c.self.view_is) at c.requires.ready in
    let least : 1 ≤ c.self.inside.live = one_live _ _ _ _ _ c.self.invariant c.args.process within ready in
    let fewer : (c.self.inside.live - c.stopped_weight.result) + cond (has_stopped c.args.next) 1 0 ≡ c.self.inside.live = omega (arith, c.stopped_weight.ensures.value, c.stopped_weight.ensures.few) in
    rw (c.withdraw.ensures.items, c.withdraw.ensures.room)
    (kept_left _ _ _ _ _ c.self.invariant c.args.process within ready c.args.next _ _ (others_not_ready _ c.in-Out.is) (ap (λ n. c.self.inside.out + n) c.out_weight.ensures.value) fewer)
