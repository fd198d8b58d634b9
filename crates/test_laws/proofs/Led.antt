-- Where a schedule of a network of the standard kinds leads.
use Rattle.std.specs.Prelude.{List, [], unwrap_or}
use Rattle.kpn_model.specs.declared.history.Entry.{Entry}
use Rattle.kpn_model.specs.Network.{Network}
use Rattle.kpn_model.specs.Semantics.{State}
use Rattle.kpn_standard.specs.Standard.{standard}
use Rattle.test_laws.proofs.Schedule.{Turn, played}

-- the history and the state
abbrev pub led : Network → State → List Turn → List Entry × State
led net M ts = unwrap_or (played standard net M ts) ([], M)
