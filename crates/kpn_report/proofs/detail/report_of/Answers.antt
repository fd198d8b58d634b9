-- A run that came to its own end has a detail, which is that of the digest.
use Rattle.std.proofs.lemmas.Bool.{true≢false}
use Rattle.std.proofs.lemmas.Grind.{common_steps}
use Rattle.std.proofs.Common.{◌≡◌, true, refl, rules, arith, sym, ◌∙◌}
use Rattle.kpn_model.specs.texts.Reports.{has_report}
use Rattle.kpn_report.proofs.detail.report_of.Goals as goal

pub returns-in_ok-detail_of-clause-detail : goal.returns-in_ok-detail_of-clause-detail
returns-in_ok-detail_of-clause-detail g c = λ kinds M places.
    let has : has_report c.args.end ≡ true = search rules in
    record {
      none = λ e. absurd (true≢false (sym has ∙ e));
      some = λ _. (c.in_ok-detail_of.field-0, refl, c.in_ok-detail_of.ensures kinds M c.args.end (places has));
    }

pub returns-else-has_report-clause-detail : goal.returns-else-has_report-clause-detail
returns-else-has_report-clause-detail g c = grind (arith, common_steps)
