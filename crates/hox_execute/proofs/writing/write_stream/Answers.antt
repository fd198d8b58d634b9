-- One stream is written, or is not.
use Rattle.std.proofs.Common.{refl, ap, rules}
use Rattle.hox_files.specs.Files.{wrote}
use Rattle.hox_execute.proofs.Tried.{tries_as}
use Rattle.hox_execute.proofs.writing.write_stream.Goals as goal

pub returns : goal.returns
returns g c = record {
  tries = tries_as (wrote c.args.pair.file.now c.as_slice.result.now) (wrote c.args.pair.file.now c.args.text.now) c.write.result c.is_ok.result (ap (λ t. wrote c.args.pair.file.now t) c.as_slice.ensures) c.is_ok.ensures.value refl
      (g.S.FileSystem.effects c.args.files.now) (g.S.FileSystem.effects c.write.new.self) c.write.ensures.done c.write.ensures.failed;
  steady = search rules;
}
