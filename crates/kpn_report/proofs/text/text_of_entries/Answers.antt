-- The first line, and the lines of the history if there is a detail: they are those of the digest.
use Rattle.std.proofs.Common.{◌≡◌, ◌∙◌, true, false, sym, rules, arith}
use Rattle.std.proofs.lemmas.Bool.{true≢false, false≢true}
use Rattle.kpn_model.specs.texts.Reports.{has_report}
use Rattle.kpn_report.specs.Text.{end_line}
use Rattle.kpn_report.proofs.Tables.{listed}
use Rattle.kpn_report.proofs.Tallies.{few_put}
use Rattle.kpn_report.proofs.Counts.{pushed, counted_all, text_is}
use Rattle.kpn_report.proofs.text.text_of_entries.Goals as goal

pub push_tally-requires-clause-few : goal.push_tally-requires-clause-few
push_tally-requires-clause-few g c κs within = λ b.
    let few = few_put c.args.net.now (g.E.Entries.entries c.args.history.now) c.in_ok-tally.tally.channel_counts.items c.in_ok-tally.ensures.channel_counts b in
    omega (arith, c.count-entries.ensures.few)

pub returns-then-not-has_report : goal.returns-then-not-has_report
returns-then-not-has_report g c = λ kinds M places.
    let no : has_report c.args.end ≡ false = search rules in
    text_is kinds c.args.net.now (g.E.Entries.entries c.args.history.now) M _ c.args.show c.args.end (λ has. absurd (false≢true (sym no ∙ has))) (λ none. c.in_ok-out.ensures)

pub returns : goal.returns
returns g c = λ kinds M places.
    let yes : has_report c.args.end ≡ true = search rules in
    let tally = c.in_ok-tally.tally in
    let kept = c.in_ok-tally.ensures in
    let all = counted_all kinds c.args.net.now (g.E.Entries.entries c.args.history.now) M tally.channel_counts.items kept.channel_counts c.args.places.now tally.steps.items tally.growths.items c.args.show (places yes) (listed 0 _ _ _ kept.steps) kept.growths in
    text_is kinds c.args.net.now (g.E.Entries.entries c.args.history.now) M _ c.args.show c.args.end (λ has. pushed (end_line c.args.end) _ _ _ _ _ (rw (c.count-entries.ensures.count, c.in_ok-out.ensures) at c.in_ok-push_tally.ensures) c.in_ok-push_shown.ensures all) (λ none. absurd (true≢false (sym yes ∙ none)))
