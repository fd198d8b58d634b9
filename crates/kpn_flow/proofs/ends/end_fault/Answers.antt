-- Found without an answer too; with it a wrong body is refused at once.
use Rattle.std.proofs.Common.{rules}
use Rattle.kpn_flow.proofs.ends.end_fault.Goals as goal

pub returns-then-any_live_writer : goal.returns-then-any_live_writer
returns-then-any_live_writer g c = search rules

pub returns-then-any_live_reader : goal.returns-then-any_live_reader
returns-then-any_live_reader g c = search rules

pub returns : goal.returns
returns g c = search rules
