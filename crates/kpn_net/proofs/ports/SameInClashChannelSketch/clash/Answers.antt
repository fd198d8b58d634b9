-- Found without an answer too; with it a wrong body is refused at once.
use Rattle.std.proofs.Common.{rules}
use Rattle.kpn_net.proofs.ports.SameInClashChannelSketch.clash.Goals as goal

pub returns-then-eq : goal.returns-then-eq
returns-then-eq c = search rules
