-- Nothing else keeps the flow from being opened.
use Rattle.std.proofs.Common.{⊎_elim, inl, inr}
use Rattle.kpn_model.specs.Network.{family_of}
use Rattle.hox_stream.proofs.Started.{few_faults, start_fault_of}
use Rattle.hox_stream.proofs.starting.start.Goals as goal

pub fault_of-requires : goal.fault_of-requires
fault_of-requires g c =
    ⊎_elim (λ x. inl x.0) (λ x. inr x)
    (few_faults (family_of g.F.Kinds.start g.F.Kinds.answer_of) c.args.net c.args.inputs.items c.args.outputs.items c.requires.inputs c.requires.outputs c.requires.fed c.requires.drained _ c.requires.cards c.in-Err.refused.fault (rw (c.as_slice.ensures.value, c.as_slice-2.ensures.value) at c.in-Err.ensures.fault))

pub returns-in-Err-clause-fault : goal.returns-in-Err-clause-fault
returns-in-Err-clause-fault g c =
    start_fault_of (family_of g.F.Kinds.start g.F.Kinds.answer_of) c.args.net c.args.inputs.items c.args.outputs.items c.requires.inputs c.requires.outputs c.requires.fed c.requires.drained _ c.requires.cards c.in-Err.refused.fault (rw (c.as_slice.ensures.value, c.as_slice-2.ensures.value) at c.in-Err.ensures.fault) _ c.fault_of.ensures.twice c.fault_of.ensures.memory
