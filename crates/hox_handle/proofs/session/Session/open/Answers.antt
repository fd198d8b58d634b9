-- The names are those of the texts.
use Rattle.std.proofs.Common.{inl, inr}
use Rattle.hox_handle.proofs.Opened.{session_fault, unnamed}
use Rattle.hox_handle.proofs.session.Session.open.Goals as goal

pub returns-in-Err-clause-fault : goal.returns-in-Err-clause-fault
returns-in-Err-clause-fault c = unnamed c.args.text.now c.args.inputs.now c.args.outputs.now c.in-Err.fault (inl c.in-Err.ensures.fault)

pub returns-in-Err-names_in-clause-fault : goal.returns-in-Err-names_in-clause-fault
returns-in-Err-names_in-clause-fault c = unnamed c.args.text.now c.args.inputs.now c.args.outputs.now c.in-Err-names_in.fault (inr c.in-Err-names_in.ensures.fault)

pub returns-in-Ok-open_between-clause-ok : goal.returns-in-Ok-open_between-clause-ok
returns-in-Ok-open_between-clause-ok c = record {
  fed = c.in-Ok.fed.items;
  drained = c.in-Ok-names_in.drained.items;
  fed_are = c.in-Ok.ensures.ok;
  drained_are = c.in-Ok-names_in.ensures.ok;
  between = rw (c.as_slice.ensures.value, c.as_slice-2.ensures.value) at c.in-Ok-open_between.ensures.ok;
}

pub returns-clause-fault : goal.returns-clause-fault
returns-clause-fault c =
    session_fault c.args.text.now c.args.inputs.now c.args.outputs.now c.in-Ok.fed.items c.in-Ok-names_in.drained.items c.in-Err-open_between.fault c.in-Ok.ensures.ok c.in-Ok-names_in.ensures.ok
    (rw (c.as_slice.ensures.value, c.as_slice-2.ensures.value) at c.in-Err-open_between.ensures.fault)
