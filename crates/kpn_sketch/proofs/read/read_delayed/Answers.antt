use Rattle.kpn_sketch.proofs.read.read_delayed.Goals as goal

pub returns-in-Err-clause-fault : goal.returns-in-Err-clause-fault
returns-in-Err-clause-fault c = c.fault_of.ensures.delayed _ c.in-Err.ensures.refused
