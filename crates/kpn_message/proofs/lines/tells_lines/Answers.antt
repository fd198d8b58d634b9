-- Found without an answer too; with it a wrong body is refused at once.
use Rattle.std.proofs.Common.{rules}
use Rattle.kpn_message.proofs.lines.tells_lines.Goals as goal

pub returns-then-not-has_word-2 : goal.returns-then-not-has_word-2
returns-then-not-has_word-2 c = search rules
