-- One more entry; all of them; and no count is greater than the number of entries.
use Rattle.std.proofs.Common.{◌≡◌, ◌<◌, ◌++◌, ◌∷◌, [], arith, ap, length, sym, take, ◌∙◌}
use Rattle.std.proofs.lemmas.List.{length-take-le, take_all}
use Rattle.kpn_model.specs.History.{growths}
use Rattle.kpn_report.specs.Tally.{steps_after, counts_after}
use Rattle.kpn_report.proofs.Tallies.{few_deeds, few_put, few_taken, steps_next, counts_next, growths_next}
use Rattle.kpn_report.proofs.tally.tally_of.Goals as goal

pub note-requires-clause-few_deeds : goal.note-requires-clause-few_deeds
note-requires-clause-few_deeds g c = λ p.
    let entries = g.E.Entries.entries c.args.history.now in
    let few = few_deeds c.args.net.now (take c.loop-k.k entries) c.loop-k.steps.items c.loop-k.invariant.steps p in
    omega (arith, c.count-k-end.ensures.few, length-take-le c.loop-k.k entries (omega arith))

pub note-requires-clause-few_put : goal.note-requires-clause-few_put
note-requires-clause-few_put g c = λ b.
    let entries = g.E.Entries.entries c.args.history.now in
    let few = few_put c.args.net.now (take c.loop-k.k entries) c.loop-k.channel_counts.items c.loop-k.invariant.channel_counts b in
    omega (arith, c.count-k-end.ensures.few, length-take-le c.loop-k.k entries (omega arith))

pub note-requires-clause-few_taken : goal.note-requires-clause-few_taken
note-requires-clause-few_taken g c = λ b.
    let entries = g.E.Entries.entries c.args.history.now in
    let few = few_taken c.args.net.now (take c.loop-k.k entries) c.loop-k.channel_counts.items c.loop-k.invariant.channel_counts b in
    omega (arith, c.count-k-end.ensures.few, length-take-le c.loop-k.k entries (omega arith))

pub loop-k-preserved : goal.loop-k-preserved
loop-k-preserved g c =
    let entries = g.E.Entries.entries c.args.history.now in
    let within : c.loop-k.k < length entries = omega (arith, c.count-k-end.ensures.count) in
    let was = c.loop-k.invariant in
    let is = c.in_ok-note.ensures in
    let entry = c.entry-entry.result in
    let at = sym (c.entry-entry.ensures entry) in
    record {
      steps = steps_next c.args.net.now entries c.loop-k.k entry within _ _ was.steps (is.steps ∙ ap (steps_after c.loop-k.steps.items) at);
      channel_counts = counts_next c.args.net.now entries c.loop-k.k entry within _ _ was.channel_counts (is.channel_counts ∙ ap (counts_after c.loop-k.channel_counts.items) at);
      growths = growths_next c.args.net.now entries c.loop-k.k entry within _ _ was.growths (is.growths ∙ ap (λ e. c.loop-k.growths.items ++ growths (e ∷ [])) at);
    }

pub returns : goal.returns
returns g c =
    let entries = g.E.Entries.entries c.args.history.now in
    let all : take c.loop-k.k entries ≡ entries = take_all c.loop-k.k entries (omega (arith, c.count-k-end.ensures.count, c.loop-k-test.false)) in
    record {
      steps = rw all at c.loop-k.invariant.steps;
      channel_counts = rw all at c.loop-k.invariant.channel_counts;
      growths = rw all at c.loop-k.invariant.growths;
    }
