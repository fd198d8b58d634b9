-- One table after another is ended.
use Rattle.std.proofs.Common.{◌≡◌, ◌<◌, ◌≤◌, ◌+◌, ℕ, IfSome, Option, true, length, set, sym, ◌∙◌, subst, arith}
use Rattle.std.proofs.lemmas.Grind.{common_steps}
use Rattle.std.proofs.lemmas.List.{get_or_default}
use Rattle.hox_stream.specs.Streams.{table_at}
use Rattle.hox_stream.specs.Views.{no_table}
use Rattle.hox_stream.proofs.Flushed.{EndsTables, err_means, ends_failed, ends_next, ends_none}
use Rattle.hox_stream.proofs.tabling.end_tables.Goals as goal
use Rattle.hox_stream.proofs.tabling.end_tables.Goals.{then-is_err, else-is_err}

pub loop-k-init : goal.loop-k-init
loop-k-init g c = ends_none c.args.tables.now

pub loop-k-preserved : goal.loop-k-preserved
loop-k-preserved g c =
    let outs = c.loop-k.tables in
    let q = c.end.new.self in
    let within : c.loop-k.k < length outs = let long = c.loop-k.invariant.as_many in omega (arith, long, c.loop-k-test.true) in
    let at = get_or_default outs c.loop-k.k c.index-tables-k.result no_table within in
    elim c.if-is_err.branch [
      | then-is_err w ↦
          let failed = err_means (q.has_failed ≡ true) c.end.result (sym c.is_err.ensures.value ∙ w.if-is_err.true) c.end.ensures.failed in
          subst (λ (f : Option ℕ). EndsTables c.args.tables.now (set outs c.loop-k.k q) (c.loop-k.k + 1) f) (sym w.failed-is) (ends_failed c.args.tables.now outs c.loop-k.k _ q within at c.end.ensures.ends c.loop-k.failed failed c.loop-k.invariant)
      | else-is_err w ↦ subst (λ (f : Option ℕ). EndsTables c.args.tables.now (set outs c.loop-k.k q) (c.loop-k.k + 1) f) (sym w.failed-is) (ends_next c.args.tables.now outs c.loop-k.k _ q within at c.end.ensures.ends c.loop-k.failed c.loop-k.invariant)
    ]

pub returns-in-Some : goal.returns-in-Some
returns-in-Some g c =
    let ended = c.loop-k.invariant in
    let bad = subst (λ (o : Option ℕ). IfSome o (λ k. (k < c.loop-k.k) × (c.loop-k.k ≤ length c.loop-k.tables) × ((table_at c.loop-k.tables k).has_failed ≡ true))) c.in-Some.is ended.failed_at in
    record {
      ends = (ended.as_many, λ k h. let long = ended.as_many in ended.ended k (omega (arith, h, long, c.loop-k-test.false)));
      finish = λ kinds s ins sinks first. c.finish_of.ensures kinds s ins sinks c.loop-k.tables first (omega (arith, bad.0, bad.1)) bad.2;
    }

pub returns-in-None : goal.returns-in-None
returns-in-None g c =
    let ended = c.loop-k.invariant in
    record {
      ends = (ended.as_many, λ k h. let long = ended.as_many in ended.ended k (omega (arith, h, long, c.loop-k-test.false)));
      finish = tt;
    }

pub offset_bounds-tables-k : goal.offset_bounds-tables-k
offset_bounds-tables-k g c = grind (arith, common_steps)
