use Rattle.std.proofs.Common.{[]}
use Rattle.hox_formula.specs.declared.fragment.Fragment.{Fragment}
use Rattle.hox_formula.proofs.Codes.{number_code, known_number}
use Rattle.hox_formula.proofs.fragment.Fragment.known.Goals as goal

pub returns : goal.returns
returns c e is knows = record {
  computes = number_code c.in_ok-code.code.items c.args.number e c.in_ok-code.ensures (known_number c.args.facts c.args.number e is knows);
  knows = knows;
}
