-- The report is written or said, or is not.
use Rattle.std.proofs.Common.{◌≡◌, true, false, nat_lt, if◌then◌else◌, refl, sym, ap, ◌∙◌, arith, rules}
use Rattle.std.proofs.lemmas.Grind.{common_steps}
use Rattle.hox_files.specs.Files.{said, standard, wrote}
use Rattle.hox_files.specs.Pairs.{count_standard}
use Rattle.hox_execute.specs.Reports.{reported}
use Rattle.hox_execute.proofs.Tried.{tries_as}
use Rattle.hox_execute.proofs.writing.write_report.Goals as goal

pub returns-then-is_output_named : goal.returns-then-is_output_named
returns-then-is_output_named g c =
    let outputs = c.args.outputs.now in
    let report = c.args.report.now in
    let goes : nat_lt 0 (count_standard outputs) ≡ true = grind (arith, common_steps) in
    let is : said report ≡ reported outputs report = ap (λ b. if b then said report else wrote standard report) (sym goes) in
    record {
      tries = tries_as (said report) (reported outputs report) c.say.result c.is_ok.result is c.is_ok.ensures.value refl (g.S.FileSystem.effects c.args.files.now) (g.S.FileSystem.effects c.say.new.self) c.say.ensures.done c.say.ensures.failed;
      steady = search rules;
    }

pub returns-else-is_output_named : goal.returns-else-is_output_named
returns-else-is_output_named g c =
    let outputs = c.args.outputs.now in
    let report = c.args.report.now in
    let bytes = c.as_bytes.result.now in
    let ok = c.is_ok-else-is_output_named in
    let goes : nat_lt 0 (count_standard outputs) ≡ false = grind (arith, common_steps) in
    let is : wrote standard bytes ≡ reported outputs report = ap (λ t. wrote standard t) c.as_bytes.ensures.value ∙ ap (λ b. if b then said report else wrote standard report) (sym goes) in
    record {
      tries = tries_as (wrote standard bytes) (reported outputs report) c.write.result ok.result is ok.ensures.value refl (g.S.FileSystem.effects c.args.files.now) (g.S.FileSystem.effects c.write.new.self) c.write.ensures.done c.write.ensures.failed;
      steady = search rules;
    }
