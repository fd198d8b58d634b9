-- One more channel.
use Rattle.kpn_model.specs.History.{stream}
use Rattle.kpn_report.proofs.Tables.{one_more}
use Rattle.std.proofs.Common.{◌≡◌, arith, rules, ◌∷◌, [], length-append}
use Rattle.kpn_report.proofs.streams.first_streams.Goals as goal

pub loop-c-preserved : goal.loop-c-preserved
loop-c-preserved g c =
    let is : c.new.result ≡ stream c.args.net.now [] c.loop-c.c = search rules in
    rw c.in_ok-push.ensures.items (record {
      count = omega (arith, length-append c.loop-c.streams.items (c.new.result ∷ []), c.loop-c.invariant.count);
      each = one_more [] _ c.loop-c.c c.loop-c.streams.items c.new.result c.loop-c.invariant.count c.loop-c.invariant.each is;
    })
