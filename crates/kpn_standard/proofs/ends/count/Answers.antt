-- Found without an answer too; with it a wrong body is refused at once.
use Rattle.std.proofs.Common.{rules}
use Rattle.kpn_standard.proofs.ends.count.Goals as goal

pub returns-then-i-n : goal.returns-then-i-n
returns-then-i-n c = search rules
