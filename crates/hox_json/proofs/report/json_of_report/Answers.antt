-- The text of a value without a float, and a line feed.
use Rattle.std.proofs.Common.{◌≡◌, ◌++◌, false, codes, ap, ◌∙◌}
use Rattle.serde_json.specs.View.{view}
use Rattle.serde_json.specs.Written.{compact_text, has_float}
use Rattle.hox_json.specs.Json.{json_text}
use Rattle.hox_json.proofs.Floats.{report_plain}
use Rattle.hox_json.proofs.report.json_of_report.Goals as goal

pub returns : goal.returns
unfolding json_text
returns c =
    let same = c.in_ok-value.ensures in
    let plain : has_float (view c.in_ok-value.value) ≡ false = rw same (report_plain c.args.report.now) in
    c.in_ok-push_str.ensures.bytes ∙ ap (λ t. t ++ codes "\n") (c.in_ok-json.ensures.text plain ∙ ap compact_text same)
