-- Found without an answer too; with it a wrong body is refused at once.
use Rattle.std.proofs.Common.{rules}
use Rattle.kpn_signals.proofs.answers.answer.Goals as goal

pub returns-in-And : goal.returns-in-And
returns-in-And c = search rules

pub returns-in-SignedConstant : goal.returns-in-SignedConstant
returns-in-SignedConstant c = search rules
