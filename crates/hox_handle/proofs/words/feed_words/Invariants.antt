use Rattle.std.proofs.Common.{◌≡◌, ◌≤◌, ◌-◌, true, length, take}
use Rattle.kpn_model.specs.Families.{family}
use Rattle.kpn_model.specs.Network.{channel_of}
use Rattle.kpn_flow.specs.Flows.{is_among}
use Rattle.hox_handle.specs.Words.{HasFed}
use Rattle.hox_handle.proofs.words.feed_words.Given as goal

abbrev pub invariant-loop-count : goal.invariant-loop-count
invariant-loop-count g l = record {
  few : l.count ≤ length l.words;
  fed : HasFed (family g.B.Kinds.Kinds) l.initial.flow l.flow l.channel (take l.count l.words);
  input : is_among l.flow.unended l.channel ≡ true;
  sort_is : l.sort ≡ (channel_of l.flow.network l.channel).sort;
}

abbrev pub decreases-loop-count : goal.decreases-loop-count
decreases-loop-count g l = length l.words - l.count
