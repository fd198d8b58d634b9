-- Found without an answer too, after a longer search.
use Rattle.std.proofs.Common.{arith}
use Rattle.std.proofs.lemmas.Option.{gets}
use Rattle.kpn_message.proofs.location.channel_has_fault.Goals as goal

pub returns-in_default : goal.returns-in_default
returns-in_default g c = grind (arith, gets)

pub returns-in-NoEnd : goal.returns-in-NoEnd
returns-in-NoEnd g c = grind (arith, gets)

pub returns-in-Sorts : goal.returns-in-Sorts
returns-in-Sorts g c = grind (arith, gets)

pub returns-in-Capacity : goal.returns-in-Capacity
returns-in-Capacity g c = grind (arith, gets)

pub returns-in-Tokens : goal.returns-in-Tokens
returns-in-Tokens g c = grind (arith, gets)
