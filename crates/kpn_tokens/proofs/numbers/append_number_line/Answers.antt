use Rattle.std.proofs.Common.{◌<◌, ◌≤◌, ◌^◌, decimal, length, arith}
use Rattle.std.proofs.lemmas.Fmt.{length-decimal-le}
use Rattle.kpn_tokens.proofs.numbers.append_number_line.Goals as goal

pub write_digits-start-requires : goal.write_digits-start-requires
write_digits-start-requires c =
    let fits : c.args.number < 2 ^ 64 = omega arith in
    let short : length (decimal c.args.number) ≤ 20 = length-decimal-le 20 c.args.number (omega arith) (omega (arith, fits)) fits in
    (omega (arith, short), omega arith)
