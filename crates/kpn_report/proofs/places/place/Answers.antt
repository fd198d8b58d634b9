-- Found without an answer too; with it a wrong body is refused at once.
use Rattle.std.proofs.Common.{rules}
use Rattle.kpn_report.proofs.places.place.Goals as goal

pub returns-in-Some : goal.returns-in-Some
returns-in-Some g c = search rules
