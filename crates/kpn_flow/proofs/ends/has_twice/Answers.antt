-- Found without an answer too; with it a wrong body is refused at once.
use Rattle.std.proofs.Common.{rules}
use Rattle.kpn_flow.proofs.ends.has_twice.Goals as goal

pub returns-then-is_among : goal.returns-then-is_among
returns-then-is_among c = search rules
