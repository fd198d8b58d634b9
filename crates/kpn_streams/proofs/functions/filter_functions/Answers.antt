-- What filters write.
use Rattle.kpn_streams.proofs.Filters.{filters_scan}
use Rattle.kpn_streams.proofs.functions.filter_functions.Goals as goal

pub returns : goal.returns
returns c = record { scans = filters_scan }
