use Rattle.std.proofs.Common.{arith}
use Rattle.kpn_formula.proofs.Names.{not_named, is_named, names_none}
use Rattle.kpn_formula.proofs.programs.ProgramsRounds.named.Goals as goal

pub returns-in_default : goal.returns-in_default
returns-in_default c = not_named c.args.name.now c.in_default.ensures

pub returns-in-Some-numbered : goal.returns-in-Some-numbered
returns-in-Some-numbered c = is_named c.args.name.now c.in-Some.number c.in-Some-numbered.field-0 (omega arith) c.in-Some.ensures c.in-Some-numbered.ensures

pub returns-in-None : goal.returns-in-None
returns-in-None c = names_none c.args.name.now c.in-Some.number (omega arith) c.in-Some.ensures c.in-None.ensures
