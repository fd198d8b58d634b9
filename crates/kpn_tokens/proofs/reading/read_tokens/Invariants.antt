use Rattle.std.proofs.Common.{◌≤◌, ◌+◌, ◌++◌, ℕ, List, length}
use Rattle.std.specs.List.{AllByRecursion}
use Rattle.kpn_model.specs.declared.token.Token.{Token}
use Rattle.kpn_model.specs.Valid.{IsOfSort}
use Rattle.kpn_tokens.specs.declared.layouts.RecordFault.{RecordFault}
use Rattle.kpn_tokens.specs.Records.{Begin, Fails, Say}
use Rattle.kpn_tokens.proofs.reading.read_tokens.Given as goal

-- what is still to be read, read after the tokens so far, makes what the whole file says
abbrev pub invariant-loop-rest : goal.invariant-loop-rest
invariant-loop-rest l = record {
  records : l.number + length l.rest ≤ length l.bytes;
  few : length l.tokens.items ≤ 1000000;
  sorted : AllByRecursion (IsOfSort l.sort) l.tokens.items;
  say : (tokens : List Token) → Say l.layout l.sort l.rest tokens → Say l.layout l.sort l.bytes (l.tokens.items ++ tokens);
  begin : (tokens : List Token) → Begin l.layout l.sort l.rest tokens → Begin l.layout l.sort l.bytes (l.tokens.items ++ tokens);
  fails : (number : ℕ) (fault : RecordFault) → Fails l.layout l.sort l.rest number fault → Fails l.layout l.sort l.bytes (l.number + number) fault;
}

abbrev pub decreases-loop-rest : goal.decreases-loop-rest
decreases-loop-rest l = length l.rest
