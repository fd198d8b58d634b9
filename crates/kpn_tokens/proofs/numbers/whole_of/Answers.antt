use Rattle.std.proofs.Common.{◌≤◌, ◌^◌, arith}
use Rattle.std.proofs.Math.Nat.{one-le-pow}
use Rattle.kpn_tokens.proofs.numbers.whole_of.Goals as goal

pub nonzero_div-result : goal.nonzero_div-result
nonzero_div-result c =
    let some : 1 ≤ 10 ^ c.args.places = one-le-pow c.args.places 10 (omega arith) in
    omega (arith, c.in-Some.ensures)
