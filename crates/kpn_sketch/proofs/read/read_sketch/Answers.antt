use Rattle.kpn_sketch.proofs.read.read_sketch.Goals as goal

pub returns-in-Err-clause-fault : goal.returns-in-Err-clause-fault
returns-in-Err-clause-fault c = c.fault_of.ensures.plain _ c.in-Err.ensures.refused
