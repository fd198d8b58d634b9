-- One table after another is flushed.
use Rattle.std.proofs.Common.{◌≡◌, ◌<◌, ◌+◌, ℕ, IfSome, Option, true, length, set, sym, ◌∙◌, subst, arith}
use Rattle.std.proofs.lemmas.Grind.{common_steps}
use Rattle.std.proofs.lemmas.List.{get_or_default}
use Rattle.hox_stream.specs.Views.{no_table}
use Rattle.hox_stream.proofs.Flushed.{FlushesTables, IsTableFailedAt, err_means, tables_failed, tables_next, tables_none}
use Rattle.hox_stream.proofs.tabling.flush_tables.Goals as goal
use Rattle.hox_stream.proofs.tabling.flush_tables.Goals.{then-is_err, else-is_err}

pub loop-k-init : goal.loop-k-init
loop-k-init g c = tables_none c.args.tables.now

pub loop-k-preserved : goal.loop-k-preserved
loop-k-preserved g c =
    let outs = c.loop-k.tables in
    let q = c.flush.new.self in
    let within : c.loop-k.k < length outs = let long = c.loop-k.invariant.still.0 in omega (arith, long, c.loop-k-test.true) in
    let at = get_or_default outs c.loop-k.k c.index-tables-k.result no_table within in
    elim c.if-is_err.branch [
      | then-is_err w ↦
          let failed = err_means (q.has_failed ≡ true) c.flush.result (sym c.is_err.ensures.value ∙ w.if-is_err.true) c.flush.ensures.failed in
          subst (λ (f : Option ℕ). FlushesTables c.args.tables.now (set outs c.loop-k.k q) (c.loop-k.k + 1) f) (sym w.failed-is) (tables_failed c.args.tables.now outs c.loop-k.k _ q within at c.flush.ensures.flushes c.loop-k.failed failed c.loop-k.invariant)
      | else-is_err w ↦ subst (λ (f : Option ℕ). FlushesTables c.args.tables.now (set outs c.loop-k.k q) (c.loop-k.k + 1) f) (sym w.failed-is) (tables_next c.args.tables.now outs c.loop-k.k _ q within at c.flush.ensures.flushes c.loop-k.failed c.loop-k.invariant)
    ]

pub returns-in-Some-clause-finish : goal.returns-in-Some-clause-finish
returns-in-Some-clause-finish g c =
    let bad = subst (λ (o : Option ℕ). IfSome o (IsTableFailedAt c.loop-k.tables)) c.in-Some.is c.loop-k.invariant.failed_at in
    λ kinds s ins sinks first. c.finish_of.ensures kinds s ins sinks c.loop-k.tables first bad.0 bad.1

pub returns-in-Some-clause-written : goal.returns-in-Some-clause-written
returns-in-Some-clause-written g c = grind (arith, common_steps)

pub offset_bounds-tables-k : goal.offset_bounds-tables-k
offset_bounds-tables-k g c = grind (arith, common_steps)

pub returns-in-None-clause-written : goal.returns-in-None-clause-written
returns-in-None-clause-written g c = grind (arith, common_steps)
