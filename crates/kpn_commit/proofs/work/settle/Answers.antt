-- Found without an answer too; with it a wrong body is refused at once.
use Rattle.std.proofs.Common.{rules}
use Rattle.kpn_commit.proofs.work.settle.Goals as goal

pub resolve_idle-resolution-requires-after_bounds : goal.resolve_idle-resolution-requires-after_bounds
resolve_idle-resolution-requires-after_bounds g c κs within = search rules
