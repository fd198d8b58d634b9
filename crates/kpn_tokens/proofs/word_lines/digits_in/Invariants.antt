use Rattle.std.proofs.Common.{◌≡◌, ◌≤◌, take}
use Rattle.std.specs.Str.Parse.{AllDigits, digits_value}
use Rattle.kpn_tokens.proofs.word_lines.digits_in.Given as goal

abbrev pub invariant-loop-count : goal.invariant-loop-count
invariant-loop-count l = record {
  few : l.count ≤ 18;
  all : AllDigits 10 (take l.count l.text);
  number : l.number ≡ digits_value 10 (take l.count l.text);
}
