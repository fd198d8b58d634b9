use Rattle.std.proofs.Common.{◌≤◌, ◌++◌, ◌-◌, length, rules, take, arith}
use Rattle.std.proofs.lemmas.Grind.{common_steps}
use Rattle.std.proofs.KnownBytes.{Consumes-trans}
use Rattle.std.proofs.lemmas.List.{length-append}
use Rattle.hox_network.specs.declared.reading.TheConstants.{LONGEST_FILE}
use Rattle.hox_network.proofs.reading.read_whole.Goals as goal

-- the bytes of the turn in which memory was refused have been consumed too
pub returns-then-is_err-clause-taken : goal.returns-then-is_err-clause-taken
returns-then-is_err-clause-taken g c =
    let text = c.loop-chunk.text.items in
    let read = take c.in-Ok.n c.read.new.buf in
    let short : length text ≤ LONGEST_FILE = search rules in
    let room : c.in-Ok.n ≤ (67108865 - length text) = search rules in
    let few : length read ≤ c.in-Ok.n = search rules in
    let both = length-append text read in
    (text ++ read, Consumes-trans _ _ _ text read c.loop-chunk.invariant.bytes c.in-Ok.ensures.bytes.0, omega arith)

pub returns-in-Err-clause-unfailed : goal.returns-in-Err-clause-unfailed
returns-in-Err-clause-unfailed g c = search rules

pub loop-chunk-preserved : goal.loop-chunk-preserved
loop-chunk-preserved g c = grind (arith, common_steps)

pub returns-in-Ok-eq0-clause-ok : goal.returns-in-Ok-eq0-clause-ok
returns-in-Ok-eq0-clause-ok g c = grind (arith, common_steps)
