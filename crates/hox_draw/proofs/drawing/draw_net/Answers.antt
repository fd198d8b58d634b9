-- Found without an answer too; with it a wrong body is refused at once.
use Rattle.std.proofs.Common.{rules}
use Rattle.hox_draw.proofs.drawing.draw_net.Goals as goal

pub returns : goal.returns
returns g c = search rules
