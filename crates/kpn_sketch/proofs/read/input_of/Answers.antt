use Rattle.kpn_sketch.proofs.read.input_of.Goals as goal

pub returns : goal.returns
returns c = c.optional.ensures
