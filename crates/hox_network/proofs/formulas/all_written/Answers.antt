-- One more process was written out.
use Rattle.std.proofs.Common.{rules, ◌≡◌, ◌++◌, ◌∷◌, []}
use Rattle.hox_network.specs.Formulas.{IsWritten}
use Rattle.hox_network.proofs.Writing.{zip_more}
use Rattle.hox_network.proofs.formulas.all_written.Goals as goal

pub loop-process-preserved : goal.loop-process-preserved
loop-process-preserved c =
    let pushed : c.push.new.self.items ≡ c.loop-process.all.items ++ c.in_ok-written.field-0 ∷ [] = search rules in
    zip_more IsWritten _ _ _ _ _ c.loop-process.invariant c.in_ok-written.ensures pushed
