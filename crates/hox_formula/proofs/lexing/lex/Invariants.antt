use Rattle.std.proofs.Common.{length}
use Rattle.hox_formula.specs.Lexing.{SpellsSo, texts}
use Rattle.hox_formula.proofs.lexing.lex.Given as goal

abbrev pub invariant-loop-rest : goal.invariant-loop-rest
invariant-loop-rest l = SpellsSo (texts l.names.items) l.text l.rest l.symbols.items

abbrev pub decreases-loop-rest : goal.decreases-loop-rest
decreases-loop-rest l = length l.rest
