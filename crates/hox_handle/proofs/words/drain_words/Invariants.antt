use Rattle.std.proofs.Common.{◌≡◌, ◌≤◌, ◌-◌, true, length, take, drop}
use Rattle.kpn_model.specs.Families.{family}
use Rattle.kpn_flow.specs.Flows.{is_among}
use Rattle.hox_handle.specs.Words.{HasDrained}
use Rattle.hox_handle.proofs.words.drain_words.Given as goal

abbrev pub invariant-loop-count : goal.invariant-loop-count
invariant-loop-count g l = record {
  few : l.count ≤ length l.words;
  long : length l.words ≡ length l.initial.words;
  drained : HasDrained (family g.B.Kinds.Kinds) l.initial.flow l.flow l.channel (take l.count l.words);
  rest : drop l.count l.words ≡ drop l.count l.initial.words;
  output : is_among l.flow.outputs l.channel ≡ true;
}

abbrev pub decreases-loop-count : goal.decreases-loop-count
decreases-loop-count g l = length l.words - l.count
