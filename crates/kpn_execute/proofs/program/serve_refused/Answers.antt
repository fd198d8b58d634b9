-- A fault that says all has no message.
use Rattle.std.proofs.Common.{◌≡◌, inl, inr, rules}
use Rattle.kpn_sketch.specs.declared.fault.NetFault.TheVariants.{Memory, Input}
use Rattle.kpn_execute.proofs.program.serve_refused.Goals as goal

pub returns-clause-memory : goal.returns-clause-memory
returns-clause-memory g c = λ e. let is : c.args.refused.now.fault ≡ Memory = cc in c.message_of.ensures.plain (inl is)

pub returns-clause-input : goal.returns-clause-input
returns-clause-input g c = λ e. let is : c.args.refused.now.fault ≡ Input = cc in c.message_of.ensures.plain (inr is)

pub returns-clause-says : goal.returns-clause-says
returns-clause-says g c = search rules

pub returns-clause-fault : goal.returns-clause-fault
returns-clause-fault g c = search rules
