use Rattle.kpn_formula.proofs.Shapes.{filled_ports}
use Rattle.kpn_formula.proofs.programs.ProgramsRounds.ports.Goals as goal

pub returns-clause-filled : goal.returns-clause-filled
returns-clause-filled c = filled_ports c.args.card.now c.in_ok-ins.field-0 c.in_ok-ins.ensures
