-- A format is none, or memory was refused.
use Rattle.hox_files.proofs.pairs.pairs_in.Goals as goal

pub returns-clause-fault : goal.returns-clause-fault
returns-clause-fault c = λ texts _. c.pairs_for.ensures.fault c.args.option.now texts
