use Rattle.std.proofs.Common.{◌<◌, ◌≤◌, ◌-◌, ℕ, length, get_or}
use Rattle.kpn_model.specs.declared.token.Token.{Token}
use Rattle.kpn_model.specs.Network.{channel_of}
use Rattle.kpn_model.specs.Valid.{IsOfSort}
use Rattle.kpn_flow.proofs.flow.Flow.may_feed_all.Given as goal

abbrev pub invariant-loop-seen : goal.invariant-loop-seen
invariant-loop-seen g l = record {
  few : l.seen ≤ length l.batch;
  sorts : (k : ℕ) (d : Token) → k < l.seen → IsOfSort (channel_of l.self.network l.channel).sort (get_or l.batch k d);
}

abbrev pub decreases-loop-seen : goal.decreases-loop-seen
decreases-loop-seen g l = length l.batch - l.seen
