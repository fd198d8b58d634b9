-- Found without an answer too; with it a wrong body is refused at once.
use Rattle.std.proofs.Common.{rules}
use Rattle.kpn_picture.proofs.caption.push_caption.Goals as goal

pub returns-in_default : goal.returns-in_default
returns-in_default g c = search rules
