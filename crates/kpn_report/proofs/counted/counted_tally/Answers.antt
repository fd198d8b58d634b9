-- One more channel.
use Rattle.kpn_report.specs.Tally.{no_counts, counts_of}
use Rattle.kpn_report.specs.declared.channel_counts.ChannelCounts.{ChannelCounts}
use Rattle.kpn_report.proofs.Tables.{one_more}
use Rattle.std.proofs.Common.{◌≡◌, arith, rules, ◌∷◌, [], length-append}
use Rattle.kpn_report.proofs.counted.counted_tally.Goals as goal

pub loop-c-preserved : goal.loop-c-preserved
loop-c-preserved g c =
    let counts : ChannelCounts = record { put = c.put_and_taken-put.result.0; taken = c.put_and_taken-put.result.1; capacity = c.capacity.result } in
    let is : counts ≡ counts_of c.args.net.now c.args.tallied.now.entries c.loop-c.c = search rules in
    rw c.in_ok-push.ensures.items (record {
      count = omega (arith, length-append c.loop-c.channel_counts.items (counts ∷ []), c.loop-c.invariant.count);
      each = one_more no_counts _ c.loop-c.c c.loop-c.channel_counts.items counts c.loop-c.invariant.count c.loop-c.invariant.each is;
    })
