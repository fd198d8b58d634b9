use Rattle.std.proofs.Common.{[]}
use Rattle.hox_formula.proofs.Collected.{state_read, started_read, below_read}
use Rattle.hox_formula.proofs.reading.read_start.Goals as goal

pub returns-in_default : goal.returns-in_default
returns-in_default c = state_read c.args.name c.args.symbols.now

pub returns-in_ok-rest-in-None : goal.returns-in_ok-rest-in-None
returns-in_ok-rest-in-None c =
    started_read c.args.name c.in_ok-number-in-None.number c.args.symbols.now c.in-Some.rest.now c.in_ok-number-in-None.rest.now c.in_ok-rest-in-None.rest.now
    c.in-Some.ensures c.in_ok-number-in-None.ensures c.in_ok-rest-in-None.ensures

pub returns-in_ok-rest-in-Some-after : goal.returns-in_ok-rest-in-Some-after
returns-in_ok-rest-in-Some-after c =
    below_read c.args.name c.in_ok-number-in-Some-after.number c.args.symbols.now c.in-Some.rest.now c.in-Some-after.rest.now c.in_ok-number-in-Some-after.rest.now c.in_ok-rest-in-Some-after.rest.now
    c.in-Some.ensures c.in-Some-after.ensures c.in_ok-number-in-Some-after.ensures c.in_ok-rest-in-Some-after.ensures
