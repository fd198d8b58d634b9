-- What the filters of a type write.
use Rattle.kpn_streams.proofs.Filters.{filters_scan}
use Rattle.kpn_streams.proofs.functions.filter_function_of.Goals as goal

pub returns : goal.returns
returns g c = record { scans = filters_scan g.F.Filters.start g.F.Filters.step }
