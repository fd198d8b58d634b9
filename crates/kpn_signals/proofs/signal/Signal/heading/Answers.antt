-- Found without an answer too; with it a wrong body is refused at once.
use Rattle.std.proofs.Common.{rules}
use Rattle.kpn_signals.proofs.signal.Signal.heading.Goals as goal

pub returns-in-Mul-clause-arguments : goal.returns-in-Mul-clause-arguments
returns-in-Mul-clause-arguments c = search rules
