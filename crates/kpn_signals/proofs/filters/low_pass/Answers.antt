-- 128 bits are enough for each number on the way, and the level has 64.
use Rattle.std.proofs.Common.{arith}
use Rattle.kpn_standard.specs.Locals.{at}
use Rattle.kpn_signals.proofs.Numbers.{level_casts, level_is}
use Rattle.kpn_signals.proofs.filters.low_pass.Goals as goal

pub overflow_cast-next-in-Some : goal.overflow_cast-next-in-Some
overflow_cast-next-in-Some c = level_casts c.bits.inside.number (at c.args.local 0) c.word.result (omega (arith, c.bits.invariant)) (omega arith) _ _ _ _ c.cast_signed.ensures c.from-level.ensures c.cast_signed-in-Some.ensures c.from-word.ensures

pub returns-in-Some : goal.returns-in-Some
returns-in-Some c =
    let next = level_is c.bits.inside.number (at c.args.local 0) c.word.result (omega (arith, c.bits.invariant)) (omega arith) _ _ _ _ c.cast_signed.ensures c.from-level.ensures c.cast_signed-in-Some.ensures c.from-word.ensures _ c.cast_unsigned-next.ensures in
    search (rw c.bits.view_is at next, c.word.ensures, c.writes_word.ensures, c.in-Some.is)
