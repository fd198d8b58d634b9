-- Found without an answer too; with it a wrong body is refused at once.
use Rattle.std.proofs.Common.{rules}
use Rattle.kpn_message.proofs.lines.line_of_table.Goals as goal

pub loop-i-init : goal.loop-i-init
loop-i-init c = search rules
