-- Found without an answer too; with it a wrong body is refused at once.
use Rattle.std.proofs.Common.{rules}
use Rattle.kpn_standard.proofs.ends.sink.Goals as goal

pub returns-then-i-args : goal.returns-then-i-args
returns-then-i-args c = search rules
