-- The sketch is that of the text, as it is meant.
use Rattle.std.proofs.Common.{rules, refl, arith}
use Rattle.kpn_sketch.specs.declared.fault.NetFault.TheVariants.{Input, Memory}
use Rattle.hox_handle.proofs.Opened.{opens_between, unopened, unread}
use Rattle.hox_handle.proofs.opening.open_between.Goals as goal

pub returns-in-Ok-clause-ok : goal.returns-in-Ok-clause-ok
returns-in-Ok-clause-ok c =
    rw c.into_parts-flow.ensures.flow (opens_between c.args.text.now c.args.fed.now c.args.drained.now c.in-Some.sketch c.in-Some.ensures c.in-Ok.opened c.in-Ok.ensures.ok)

pub returns-in-Err-open_stream-clause-fault : goal.returns-in-Err-open_stream-clause-fault
returns-in-Err-open_stream-clause-fault c =
    unopened c.args.text.now c.args.fed.now c.args.drained.now c.in-Some.sketch c.in-Some.ensures c.in-Err-open_stream.fault (refl, omega (arith, c.if-text-gt-LONGEST_TEXT.false)) c.in-Err-open_stream.ensures.fault

pub returns-then-text-gt-LONGEST_TEXT-clause-fault : goal.returns-then-text-gt-LONGEST_TEXT-clause-fault
returns-then-text-gt-LONGEST_TEXT-clause-fault c = unread c.args.text.now c.args.fed.now c.args.drained.now Input (search rules)

pub returns-in_default-sketch_by_ports-clause-fault : goal.returns-in_default-sketch_by_ports-clause-fault
returns-in_default-sketch_by_ports-clause-fault c = unread c.args.text.now c.args.fed.now c.args.drained.now Memory (search rules)

pub returns-in-Err-clause-fault : goal.returns-in-Err-clause-fault
returns-in-Err-clause-fault c = unread c.args.text.now c.args.fed.now c.args.drained.now c.in-Err.fault (search rules)
