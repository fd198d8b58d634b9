-- A live process is ready, out or parked.
use Rattle.std.proofs.Common.{◌≡◌, ◌-◌, arith}
use Rattle.std.specs.List.{count_by}
use Rattle.kpn_state.specs.Standings.{is_ready, is_parked}
use Rattle.kpn_state.proofs.Rostered.{live_counted}
use Rattle.kpn_state.proofs.roster.Roster.parked.Goals as goal

pub overflow_sub-result : goal.overflow_sub-result
overflow_sub-result c =
    let k = c.self.invariant in
    let all = live_counted c.self.inside.standings.items in
    let ready : c.ready.result ≡ count_by is_ready c.self.inside.standings.items = rw (← c.self.view_is) at c.ready.ensures in
    omega (arith, k.live_is)

pub overflow_sub-result-2 : goal.overflow_sub-result-2
overflow_sub-result-2 c =
    let k = c.self.invariant in
    let all = live_counted c.self.inside.standings.items in
    let ready : c.ready.result ≡ count_by is_ready c.self.inside.standings.items = rw (← c.self.view_is) at c.ready.ensures in
    omega (arith, k.live_is, k.out_is)

pub returns : goal.returns
returns c =
    let k = c.self.invariant in
    let all = live_counted c.self.inside.standings.items in
    let ready : c.ready.result ≡ count_by is_ready c.self.inside.standings.items = rw (← c.self.view_is) at c.ready.ensures in
    let left : c.self.inside.live - c.ready.result - c.self.inside.out ≡ count_by is_parked c.self.inside.standings.items = omega (arith, k.live_is, k.out_is) in
    rw (← c.self.view_is) left
