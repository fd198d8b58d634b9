-- What the standings tell of a process is so.
use Rattle.kpn_dry.proofs.Told.{dry_here, not_dry_here, told_here}
use Rattle.kpn_dry.proofs.telling.is_dry.Goals as goal

pub returns-clause-told : goal.returns-clause-told
returns-clause-told g c = told_here c.args.net.now c.args.standings.now c.args.process _ c.is_told_dry.ensures

pub returns-clause-dry : goal.returns-clause-dry
returns-clause-dry g c = dry_here c.args.net.now c.args.standings.now c.args.process _ c.is_told_dry.ensures

pub returns-clause-not_dry : goal.returns-clause-not_dry
returns-clause-not_dry g c = not_dry_here c.args.net.now c.args.standings.now c.args.process _ c.is_told_dry.ensures
