-- One more task, which has no answer yet.
use Rattle.std.proofs.Common.{◌≡◌, ◌<◌, refl, arith, length, drop}
use Rattle.kpn_monitor.specs.Places.{tasks_in}
use Rattle.kpn_monitor.proofs.Placing.{left_many, put_again, put_tasks, put_laid}
use Rattle.kpn_monitor.proofs.places.Places.put.Goals as goal

pub push_reserved-requires : goal.push_reserved-requires
push_reserved-requires g c =
    let many = left_many c.self.invariant.0 in
    let cap = c.self.invariant.1 in
    let settled : c.self.inside.given ≡ 0 = rw (← c.self.view_is) at c.requires.settled in
    let room : length (tasks_in (drop c.self.inside.given c.self.inside.places.items)) < 64 = rw (← c.self.view_is) at c.requires.room in
    omega arith

pub invariant_of-self : goal.invariant_of-self
invariant_of-self g c =
    let many = left_many c.self.invariant.0 in
    let settled : c.self.inside.given ≡ 0 = rw (← c.self.view_is) at c.requires.settled in
    let room : length (tasks_in (drop c.self.inside.given c.self.inside.places.items)) < 64 = rw (← c.self.view_is) at c.requires.room in
    (rw c.push_reserved.ensures.items (put_laid c.self.invariant.0 c.args.task (omega arith)), omega (arith, c.push_reserved.ensures.capacity, c.self.invariant.1), c.self.invariant.2, c.self.invariant.3)

pub returns : goal.returns
returns g c = rw (← c.self.view_is, c.push_reserved.ensures.items, put_again c.self.invariant.0 c.args.task, put_tasks c.self.invariant.0 c.args.task) refl
