-- What kinds that go in rounds write.
use Rattle.kpn_streams.proofs.Rounds.{rounds_scan}
use Rattle.kpn_streams.proofs.functions.round_functions.Goals as goal

pub returns : goal.returns
returns c = record { scans = rounds_scan }
