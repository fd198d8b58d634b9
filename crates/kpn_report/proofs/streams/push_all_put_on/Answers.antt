-- One more entry.
use Rattle.std.proofs.Common.{◌<◌, ◌++◌, ◌∷◌, [], ap, arith, length, sym, ◌∙◌}
use Rattle.std.proofs.lemmas.Grind.{common_steps}
use Rattle.kpn_model.specs.History.{put_on}
use Rattle.kpn_report.proofs.Tallies.{put_next}
use Rattle.kpn_report.proofs.streams.push_all_put_on.Goals as goal

pub loop-k-preserved : goal.loop-k-preserved
loop-k-preserved g c =
    let entries = g.E.Entries.entries c.args.history.now in
    let within : c.loop-k.k < length entries = omega (arith, c.count-k-end.ensures.count) in
    let entry = c.entry.result in
    put_next entries c.loop-k.k entry within c.args.channel _ _ _ c.loop-k.invariant (c.in_ok-push_put_on.ensures ∙ ap (λ e. c.loop-k.tokens.items ++ put_on (e ∷ []) c.args.channel) (sym (c.entry.ensures entry)))

pub returns : goal.returns
returns g c = grind (arith, common_steps)
