-- Found without an answer too; with it a wrong body is refused at once.
use Rattle.std.proofs.Common.{rules}
use Rattle.kpn_signals.proofs.signal.Signal.accepts.Goals as goal

pub returns-then-two_used : goal.returns-then-two_used
returns-then-two_used c = search rules
