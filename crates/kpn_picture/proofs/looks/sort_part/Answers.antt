-- Found without an answer too; with it a wrong body is refused at once.
use Rattle.std.proofs.Common.{rules}
use Rattle.kpn_picture.proofs.looks.sort_part.Goals as goal

pub returns-in-Flags : goal.returns-in-Flags
returns-in-Flags c = search rules
