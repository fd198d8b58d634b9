-- What kinds that go in rounds write.
use Rattle.kpn_streams.proofs.Rounds.{rounds_scan}
use Rattle.kpn_streams.proofs.functions.round_function_of.Goals as goal

pub returns : goal.returns
returns g c = record { scans = rounds_scan g.R.Rounds.ports g.R.Rounds.start g.R.Rounds.step }
