-- What each of the standard kinds writes.
use Rattle.kpn_streams.proofs.Ends.{count_writes, sink_writes}
use Rattle.kpn_streams.proofs.Copies.{take_writes, copy_writes, prefix_writes}
use Rattle.kpn_streams.proofs.Arithmetic.{add_writes, scale_writes}
use Rattle.kpn_streams.proofs.Weaving.{weave_writes, weave_takes_turns}
use Rattle.kpn_streams.proofs.Merging.{merge_writes}
use Rattle.kpn_streams.proofs.Union.{merge_is_union}
use Rattle.kpn_streams.proofs.Flags.{divides_writes, switch_writes, select_writes}
use Rattle.kpn_streams.proofs.functions.standard_functions.Goals as goal

pub returns-clause-count : goal.returns-clause-count
returns-clause-count c = count_writes

pub returns-clause-sink : goal.returns-clause-sink
returns-clause-sink c = sink_writes

pub returns-clause-take : goal.returns-clause-take
returns-clause-take c = take_writes

pub returns-clause-copy : goal.returns-clause-copy
returns-clause-copy c = copy_writes

pub returns-clause-prefix : goal.returns-clause-prefix
returns-clause-prefix c = prefix_writes

pub returns-clause-add : goal.returns-clause-add
returns-clause-add c = add_writes

pub returns-clause-scale : goal.returns-clause-scale
returns-clause-scale c = scale_writes

pub returns-clause-weave : goal.returns-clause-weave
returns-clause-weave c = weave_writes

pub returns-clause-merge : goal.returns-clause-merge
returns-clause-merge c = merge_writes

pub returns-clause-divides : goal.returns-clause-divides
returns-clause-divides c = divides_writes

pub returns-clause-switch : goal.returns-clause-switch
returns-clause-switch c = switch_writes

pub returns-clause-select : goal.returns-clause-select
returns-clause-select c = select_writes

pub returns-clause-turns : goal.returns-clause-turns
returns-clause-turns c = weave_takes_turns

pub returns-clause-union : goal.returns-clause-union
returns-clause-union c = merge_is_union
