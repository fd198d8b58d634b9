-- One text more.
use Rattle.std.proofs.Common.{◌≡◌, Err, rules}
use Rattle.hox_files.specs.Pairs.{IsUsable}
use Rattle.hox_files.proofs.Firsts.{all_texts, one_text_more, text_among}
use Rattle.hox_files.proofs.formats.check_formats.Goals as goal

pub returns-in_err-check_format-clause-fault : goal.returns-in_err-check_format-clause-fault
returns-in_err-check_format-clause-fault c =
    let same : c.from_residual.result ≡ Err c.in_err-check_format.field-0.0 = search rules in
    rw same (c.in_err-check_format.ensures.fault _ (text_among c.args.texts.now c.loop-text.text-index _ c.loop-text-test.true))

pub loop-text-preserved : goal.loop-text-preserved
loop-text-preserved c =
    one_text_more (IsUsable c.args.inputs.now c.args.outputs.now) c.args.texts.now c.loop-text.text-index _ c.loop-text-test.true c.loop-text.invariant c.in_ok-check_format.ensures.ok

pub returns-in-None-clause-ok : goal.returns-in-None-clause-ok
returns-in-None-clause-ok c =
    record {
      each = all_texts (IsUsable c.args.inputs.now c.args.outputs.now) c.args.texts.now c.loop-text.text-index c.loop-text-test.false c.loop-text.invariant;
      once = search rules;
    }
