-- One stream more.
use Rattle.std.proofs.Common.{◌<◌, ◌∙◌, length, take, sym, subst, arith}
use Rattle.hox_execute.specs.Reports.{Tries, streams_written}
use Rattle.hox_execute.proofs.Written.{next_stream, tries_all}
use Rattle.hox_execute.proofs.writing.write_streams.Goals as goal

pub loop-k-preserved : goal.loop-k-preserved
loop-k-preserved g c =
    let l = c.loop-k in
    let outputs = c.args.outputs.now in
    let texts = c.args.texts.now in
    let within : l.k < length outputs = omega arith in
    let among : l.k < length texts = omega arith in
    let next = c.write_next-are_written in
    let before = g.S.FileSystem.effects c.args.files.now in
    let more = next.ensures.tries (take l.k (streams_written outputs texts)) before l.invariant.tries in
    record {
      tries = subst (λ es. Tries es next.result before (g.S.FileSystem.effects next.new.files)) (sym (next_stream outputs texts l.k _ c.index-texts-k.result within among c.index-texts-k.is)) more;
      steady = λ s. let was = l.invariant.steady s in let now = next.ensures.steady was.1 in (now.0 ∙ was.0, now.1);
    }

pub returns : goal.returns
returns g c = record {
  tries = tries_all c.args.outputs.now c.args.texts.now c.loop-k.k (omega arith) c.loop-k.are_written (g.S.FileSystem.effects c.args.files.now) (g.S.FileSystem.effects c.loop-k.files) c.loop-k.invariant.tries;
  steady = c.loop-k.invariant.steady;
}
