-- The text names a format, for a channel that has a file or for all.
use Rattle.std.proofs.Common.{sym, ap, ◌∙◌}
use Rattle.hox_format.specs.Forms.{form}
use Rattle.hox_format.specs.Saying.{format_said}
use Rattle.hox_files.specs.Pairs.{is_of_use}
use Rattle.hox_files.proofs.formats.check_format.Goals as goal

pub returns-in-Ok-clause-ok : goal.returns-in-Ok-clause-ok
returns-in-Ok-clause-ok c =
    record {
      has = c.in-Some.ensures.2;
      says = form c.in-Ok.field-0;
      said = sym (c.in-Ok.ensures ∙ ap format_said c.in-Some.ensures.1);
      of_use = ap (is_of_use c.args.inputs.now c.args.outputs.now) (sym c.in-Some.ensures.0) ∙ sym c.is_of_use.ensures ∙ c.if-is_of_use.true;
    }
