use Rattle.std.proofs.Common.{arith, length, ◌≤◌, ap}
use Rattle.std.proofs.lemmas.List.{length-take-le}
use Rattle.std.proofs.lemmas.List.Elements.{All-set}
use Rattle.kpn_formula.specs.Spelling.{IsDigit}
use Rattle.kpn_formula.proofs.Tapes.{zeros_after}
use Rattle.kpn_formula.proofs.encoding.Tape.push.Goals as goal

pub invariant_of-self : goal.invariant_of-self
invariant_of-self c =
    let within : c.self.inside.used ≤ length c.self.inside.digits = omega arith in
    let front = length-take-le c.self.inside.used c.self.inside.digits within in
    (omega (arith, front, ap length c.self.view_is), zeros_after c.self.inside.digits c.self.inside.used c.args.digit c.self.invariant.1, All-set IsDigit c.self.inside.digits c.self.inside.used c.args.digit c.requires.digit c.self.invariant.2)
