use Rattle.std.proofs.Common.{◌≤◌, ◌++◌, ◌-◌, length, rules, take, arith}
use Rattle.std.proofs.KnownBytes.{Consumes-trans}
use Rattle.std.proofs.lemmas.List.{length-append}
use Rattle.kpn_model.specs.declared.limits.TheConstants.{LONGEST_TEXT}
use Rattle.kpn_front.proofs.loading.read_text.Goals as goal

-- the bytes of the turn in which memory was refused have been consumed too
pub returns-then-is_err-clause-source : goal.returns-then-is_err-clause-source
returns-then-is_err-clause-source g c =
    let text = c.loop-chunk.text.items in
    let read = take c.in-Ok.n c.read.new.buf in
    let short : length text ≤ LONGEST_TEXT = search rules in
    let room : c.in-Ok.n ≤ (1048577 - length text) = search rules in
    let few : length read ≤ c.in-Ok.n = search rules in
    let both = length-append text read in
    record { steady = search rules; taken = (text ++ read, Consumes-trans _ _ _ text read c.loop-chunk.invariant.bytes c.in-Ok.ensures.bytes.0, omega arith) }
