-- Nothing at first, and then one more each time.
use Rattle.std.proofs.Common.{◌<◌, Some, false, drop, length, refl, sym, subst, arith}
use Rattle.std.proofs.lemmas.List.{take_rest}
use Rattle.hox_stream.specs.declared.cutting.FirstRecord.TheVariants.{Record}
use Rattle.hox_stream.specs.Cutting.{IsFirstRecord}
use Rattle.hox_stream.proofs.Gathered.{end_within, gathers_more, gathers_none, new_end}
use Rattle.hox_stream.proofs.gathering.gather.Goals as goal

pub loop-count-init : goal.loop-count-init
loop-count-init c = record { gathers = gathers_none c.args.kept.now.layout.now c.args.kept.now.sort c.args.kept.now.bytes.now _ _; at = refl }

pub overflow_add-end : goal.overflow_add-end
overflow_add-end c =
    let next : IsFirstRecord c.args.kept.now.layout.now c.args.kept.now.sort (drop c.loop-count.end c.args.kept.now.bytes.now) false (Record (Some c.in-Some.told.token) c.in-Some.told.used)
    = subst (λ l. IsFirstRecord c.args.kept.now.layout.now c.args.kept.now.sort l false (Record (Some c.in-Some.told.token) c.in-Some.told.used)) (take_rest c.args.kept.now.bytes.now c.loop-count.end) (c.in-Some.ensures.next false) in
    let room : c.loop-count.count < length c.loop-count.tokens = omega (arith, c.loop-count.auto.tokens, c.requires.tokens) in
    let places : c.loop-count.count < length c.loop-count.ends = omega (arith, c.loop-count.auto.ends, c.requires.ends) in
    omega (arith, end_within c.args.kept.now.layout.now c.args.kept.now.sort c.args.kept.now.bytes.now c.loop-count.tokens c.loop-count.ends c.loop-count.count c.loop-count.end c.in-Some.told.used c.in-Some.told.token c.loop-count.invariant.gathers c.loop-count.invariant.at room places next c.in-Some.ensures.sorted)

pub loop-count-preserved : goal.loop-count-preserved
loop-count-preserved c =
    let next : IsFirstRecord c.args.kept.now.layout.now c.args.kept.now.sort (drop c.loop-count.end c.args.kept.now.bytes.now) false (Record (Some c.in-Some.told.token) c.in-Some.told.used)
    = subst (λ l. IsFirstRecord c.args.kept.now.layout.now c.args.kept.now.sort l false (Record (Some c.in-Some.told.token) c.in-Some.told.used)) (take_rest c.args.kept.now.bytes.now c.loop-count.end) (c.in-Some.ensures.next false) in
    let room : c.loop-count.count < length c.loop-count.tokens = omega (arith, c.loop-count.auto.tokens, c.requires.tokens) in
    let places : c.loop-count.count < length c.loop-count.ends = omega (arith, c.loop-count.auto.ends, c.requires.ends) in
    record {
      gathers = gathers_more c.args.kept.now.layout.now c.args.kept.now.sort c.args.kept.now.bytes.now c.loop-count.tokens c.loop-count.ends c.loop-count.count c.loop-count.end c.in-Some.told.used c.in-Some.told.token c.loop-count.invariant.gathers c.loop-count.invariant.at room places next c.in-Some.ensures.sorted;
      at = sym (new_end c.args.kept.now.layout.now c.args.kept.now.sort c.args.kept.now.bytes.now c.loop-count.tokens c.loop-count.ends c.loop-count.count c.loop-count.end c.in-Some.told.used c.in-Some.told.token c.loop-count.invariant.gathers c.loop-count.invariant.at room places next c.in-Some.ensures.sorted);
    }
