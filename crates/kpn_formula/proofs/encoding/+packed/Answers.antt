use Rattle.std.proofs.Common.{arith}
use Rattle.kpn_formula.proofs.Packed.{rest_bound}
use Rattle.kpn_formula.proofs.encoding.+packed.Goals as goal

pub overflow_mul-result : goal.overflow_mul-result
overflow_mul-result t c =
    let bounds = rest_bound c.in-Some.first.now c.in-Some.rest.now c.args.digits.now c.in-Some.ensures.cases.0 c.requires.digits c.requires.few in omega (arith, bounds.1, c.packed.ensures.is)

pub overflow_add-result : goal.overflow_add-result
overflow_add-result t c =
    let bounds = rest_bound c.in-Some.first.now c.in-Some.rest.now c.args.digits.now c.in-Some.ensures.cases.0 c.requires.digits c.requires.few in omega (arith, bounds.0, bounds.1, c.packed.ensures.is)
