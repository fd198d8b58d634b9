-- One more entry, and all of them.
use Rattle.std.proofs.Common.{◌≡◌, ◌<◌, ap, arith, length, sym, take, ◌∙◌}
use Rattle.std.proofs.lemmas.List.{take_all}
use Rattle.kpn_report.specs.Tally.{streams_after}
use Rattle.kpn_report.proofs.Tallies.{streams_next}
use Rattle.kpn_report.proofs.streams.streams_of.Goals as goal

pub loop-k-preserved : goal.loop-k-preserved
loop-k-preserved g c =
    let entries = g.E.Entries.entries c.args.history.now in
    let within : c.loop-k.k < length entries = omega (arith, c.count-k-end.ensures.count) in
    let entry = c.entry.result in
    streams_next c.args.net.now entries c.loop-k.k entry within _ _ c.loop-k.invariant (c.in_ok-push_put.ensures ∙ ap (streams_after c.loop-k.streams.items) (sym (c.entry.ensures entry)))

pub returns : goal.returns
returns g c =
    let entries = g.E.Entries.entries c.args.history.now in
    let all : take c.loop-k.k entries ≡ entries = take_all c.loop-k.k entries (omega (arith, c.count-k-end.ensures.count, c.loop-k-test.false)) in
    rw all at c.loop-k.invariant
