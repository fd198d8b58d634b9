-- Found without an answer too; with it a wrong body is refused at once.
use Rattle.std.proofs.Common.{rules}
use Rattle.kpn_net.proofs.ports.has_wrong_sort.Goals as goal

pub returns-else-not-is_sort : goal.returns-else-not-is_sort
returns-else-not-is_sort g c = search rules
