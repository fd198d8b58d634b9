use Rattle.hox_files.proofs.Apart.{Below}
use Rattle.hox_files.proofs.uses.clash_among.Given as goal

abbrev pub invariant-loop-k : goal.invariant-loop-k
invariant-loop-k g l = Below (g.S.FileSystem.clash l.files) l.uses l.k
