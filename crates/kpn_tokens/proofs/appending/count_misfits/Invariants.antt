use Rattle.std.proofs.Common.{◌≡◌, ◌≤◌, take}
use Rattle.kpn_tokens.specs.Records.{misfits}
use Rattle.kpn_tokens.proofs.appending.count_misfits.Given as goal

abbrev pub invariant-loop-token : goal.invariant-loop-token
invariant-loop-token l = record {
  counted : l.misfits ≡ misfits l.layout (take l.token-index l.tokens);
  few : l.misfits ≤ l.token-index;
}
