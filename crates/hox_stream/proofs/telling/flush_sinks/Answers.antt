-- One sink after another is flushed.
use Rattle.std.proofs.Common.{◌≡◌, ◌<◌, ◌+◌, ℕ, Option, true, length, set, sym, ◌∙◌, subst, arith}
use Rattle.std.proofs.lemmas.Grind.{common_steps}
use Rattle.std.proofs.lemmas.List.{get_or_default}
use Rattle.hox_stream.specs.Views.{no_outlet}
use Rattle.hox_stream.proofs.Flushed.{Flushes, err_means, flushes_failed, flushes_next, flushes_none}
use Rattle.hox_stream.proofs.telling.flush_sinks.Goals as goal
use Rattle.hox_stream.proofs.telling.flush_sinks.Goals.{then-is_err, else-is_err}

pub loop-k-init : goal.loop-k-init
loop-k-init g c = flushes_none c.args.outlets.now

pub loop-k-preserved : goal.loop-k-preserved
loop-k-preserved g c =
    let outs = c.loop-k.outlets in
    let q = c.flush.new.self in
    let within : c.loop-k.k < length outs = let long = c.loop-k.invariant.still.0 in omega (arith, long, c.loop-k-test.true) in
    let at = get_or_default outs c.loop-k.k c.index-outlets-k.result no_outlet within in
    elim c.if-is_err.branch [
      | then-is_err w ↦
          let failed = err_means (q.has_failed ≡ true) c.flush.result (sym c.is_err.ensures.value ∙ w.if-is_err.true) c.flush.ensures.failed in
          subst (λ (f : Option ℕ). Flushes c.args.outlets.now (set outs c.loop-k.k q) (c.loop-k.k + 1) f) (sym w.failed-is) (flushes_failed c.args.outlets.now outs c.loop-k.k _ q within at c.flush.ensures.writes c.flush.ensures.written c.flush.ensures.still c.loop-k.failed failed c.loop-k.invariant)
      | else-is_err w ↦ subst (λ (f : Option ℕ). Flushes c.args.outlets.now (set outs c.loop-k.k q) (c.loop-k.k + 1) f) (sym w.failed-is) (flushes_next c.args.outlets.now outs c.loop-k.k _ q within at c.flush.ensures.writes c.flush.ensures.written c.flush.ensures.still c.loop-k.failed c.loop-k.invariant)
    ]

pub returns-in-Some-clause-written : goal.returns-in-Some-clause-written
returns-in-Some-clause-written g c = grind (arith, common_steps)

pub offset_bounds-outlets-k : goal.offset_bounds-outlets-k
offset_bounds-outlets-k g c = grind (arith, common_steps)

pub returns-in-None-clause-written : goal.returns-in-None-clause-written
returns-in-None-clause-written g c = grind (arith, common_steps)
