-- What the kinds for signals write.
use Rattle.kpn_streams.proofs.Shapes.{steps_scan, joins_scan}
use Rattle.kpn_streams.proofs.SignalKinds.{shift_writes, left_writes, clip_writes, abs_writes, offset_writes, gain_writes, delay_writes, low_pass_writes, sum_writes, difference_writes, average_writes, sub_writes, mul_writes, min_writes, max_writes, div_writes, mod_writes, less_writes, equal_writes, hold_writes, gate_writes, copy_flags_writes, counter_writes, edge_writes}
use Rattle.kpn_streams.proofs.signals.signal_functions.Goals as goal

pub returns-clause-steps : goal.returns-clause-steps
returns-clause-steps c = steps_scan

pub returns-clause-joins : goal.returns-clause-joins
returns-clause-joins c = joins_scan

pub returns-clause-shift : goal.returns-clause-shift
returns-clause-shift c = shift_writes

pub returns-clause-left : goal.returns-clause-left
returns-clause-left c = left_writes

pub returns-clause-clip : goal.returns-clause-clip
returns-clause-clip c = clip_writes

pub returns-clause-abs : goal.returns-clause-abs
returns-clause-abs c = abs_writes

pub returns-clause-offset : goal.returns-clause-offset
returns-clause-offset c = offset_writes

pub returns-clause-gain : goal.returns-clause-gain
returns-clause-gain c = gain_writes

pub returns-clause-delay : goal.returns-clause-delay
returns-clause-delay c = delay_writes

pub returns-clause-low_pass : goal.returns-clause-low_pass
returns-clause-low_pass c = low_pass_writes

pub returns-clause-sum : goal.returns-clause-sum
returns-clause-sum c = sum_writes

pub returns-clause-difference : goal.returns-clause-difference
returns-clause-difference c = difference_writes

pub returns-clause-average : goal.returns-clause-average
returns-clause-average c = average_writes

pub returns-clause-sub : goal.returns-clause-sub
returns-clause-sub c = sub_writes

pub returns-clause-mul : goal.returns-clause-mul
returns-clause-mul c = mul_writes

pub returns-clause-min : goal.returns-clause-min
returns-clause-min c = min_writes

pub returns-clause-max : goal.returns-clause-max
returns-clause-max c = max_writes

pub returns-clause-div : goal.returns-clause-div
returns-clause-div c = div_writes

pub returns-clause-modulo : goal.returns-clause-modulo
returns-clause-modulo c = mod_writes

pub returns-clause-less : goal.returns-clause-less
returns-clause-less c = less_writes

pub returns-clause-equal : goal.returns-clause-equal
returns-clause-equal c = equal_writes

pub returns-clause-hold : goal.returns-clause-hold
returns-clause-hold c = hold_writes

pub returns-clause-gate : goal.returns-clause-gate
returns-clause-gate c = gate_writes

pub returns-clause-copy_flags : goal.returns-clause-copy_flags
returns-clause-copy_flags c = copy_flags_writes

pub returns-clause-counter : goal.returns-clause-counter
returns-clause-counter c = counter_writes

pub returns-clause-edge : goal.returns-clause-edge
returns-clause-edge c = edge_writes
