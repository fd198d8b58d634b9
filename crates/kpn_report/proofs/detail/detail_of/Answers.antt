-- The parts of the detail are those of the digest.
use Rattle.kpn_report.specs.declared.channel_counts.ChannelCounts.{ChannelCounts}
use Rattle.kpn_report.specs.Tally.{no_counts}
use Rattle.kpn_report.proofs.Tables.{listed, parts}
use Rattle.kpn_report.proofs.Tallies.{rests_listed, digest_of}
use Rattle.std.proofs.Common.{[], ◌∙◌, ap, map, refl, sym}
use Rattle.kpn_report.proofs.detail.detail_of.Goals as goal

pub returns : goal.returns
returns g c = λ kinds M cause places.
    let net = c.args.net.now in
    let history = c.args.history.now in
    let tally = c.in_ok-tally.ensures in
    digest_of kinds net cause history M
    (c.new.ensures ∙ places)
    (c.new-2.ensures ∙ listed 0 _ _ _ tally.steps)
    (c.new-3.ensures ∙ c.in_ok-capacities.ensures ∙ ap (map (λ (a : ChannelCounts). a.capacity)) c.as_slice.ensures.value ∙ parts no_counts _ _ _ tally.channel_counts (λ a. a.capacity))
    (c.new-4.ensures ∙ listed [] _ _ _ c.in_ok-streams.ensures)
    (c.new-5.ensures ∙ rests_listed net history c.in_ok-streams.streams.items c.in_ok-streams.ensures c.in_ok-tally.tally.channel_counts.items c.in_ok-rests.rests.items tally.channel_counts (rw (c.as_slice-2.ensures.value, c.as_slice-3.ensures.value) at c.in_ok-rests.ensures))
    (c.new-6.ensures ∙ tally.growths)
    refl

pub rests-requires : goal.rests-requires
rests-requires g c = rw (c.as_slice-2.ensures.value, c.as_slice-3.ensures.value) (c.in_ok-tally.ensures.channel_counts.count ∙ sym c.in_ok-streams.ensures.count)
