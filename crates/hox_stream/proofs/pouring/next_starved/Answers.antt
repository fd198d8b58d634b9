-- From the first one on there is none.
use Rattle.std.proofs.Common.{◌≡◌, ◌<◌, ◌≤◌, ℕ, List, false, length, Option, Some, None, IfNone, arith}
use Rattle.hox_stream.specs.Streams.{NoneIsWaitedFor, inlet_at, is_waited_for}
use Rattle.hox_stream.specs.Views.{InletView}
use Rattle.kpn_flow.specs.Flows.{FlowView}
use Rattle.hox_stream.proofs.pouring.next_starved.Goals as goal

from_first : (s : FlowView) (ins : List InletView) (found : Option ℕ) → IfNone found ((k : ℕ) → k < length ins → 0 ≤ k → is_waited_for s (inlet_at ins k) ≡ false) → IfNone found (NoneIsWaitedFor s ins)
from_first s ins None h = λ k within. h k within (omega arith)
from_first s ins (Some k) h = tt

pub returns-in-None-clause-none : goal.returns-in-None-clause-none
returns-in-None-clause-none g c = from_first c.args.flow.now c.args.inlets.now c.first_starved-in-None.result c.first_starved-in-None.ensures.none
