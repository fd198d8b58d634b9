-- First the sinks, and then the tables behind them.
use Rattle.std.proofs.Common.{◌∙◌, sym, rules}
use Rattle.kpn_model.specs.Network.{family_of}
use Rattle.hox_stream.proofs.Paired.{written_back}
use Rattle.hox_stream.proofs.Streamed.{streams_both}
use Rattle.hox_stream.proofs.telling.Outs.tell_all.Goals as goal

pub returns-in-Err : goal.returns-in-Err
returns-in-Err g c = record {
  streams = λ ins.
      let x = c.tell_sinks.ensures.streams ins c.self.inside.tables.items in
      rw (← c.self.view_is, written_back _ c.tell_sinks.new.outlets _ (sym (x.as_many_outlets ∙ c.as_mut_slice.ensures.len))) (rw c.as_mut_slice.ensures.value at x);
  same = c.tell_sinks.ensures.same;
  none = λ e. cc;
  finish = λ ins.
      let x = c.tell_sinks.ensures.streams ins c.self.inside.tables.items in
      rw (written_back _ c.tell_sinks.new.outlets _ (sym (x.as_many_outlets ∙ c.as_mut_slice.ensures.len))) (c.in-Err.ensures.finish ins c.self.inside.tables.items);
}

pub returns-in-Err-tell_tables : goal.returns-in-Err-tell_tables
returns-in-Err-tell_tables g c =
    let before = c.tell_sinks.ensures.same in
    let after = c.tell_tables.ensures.same in
    record {
      streams = λ ins.
          let kinds = family_of g.B.Kinds.Kinds.start g.B.Kinds.Kinds.answer_of in
          let sinks = c.tell_sinks.new.outlets in
          let x = c.tell_sinks.ensures.streams ins c.self.inside.tables.items in
          let y = c.tell_tables.ensures.streams ins sinks in
          let many = sym (x.as_many_outlets ∙ c.as_mut_slice.ensures.len) in
          let much = sym (y.as_many_tables ∙ c.as_mut_slice-2.ensures.len) in
          rw (← c.self.view_is, written_back _ sinks _ many, written_back _ c.tell_tables.new.tables _ much)
          (streams_both kinds _ _ _ ins ins ins _ _ _ (rw c.as_mut_slice.ensures.value at x) (rw c.as_mut_slice-2.ensures.value at y));
      same = record { network = after.network ∙ before.network; inputs = after.inputs ∙ before.inputs; unended = after.unended ∙ before.unended; outputs = after.outputs ∙ before.outputs };
      none = λ e. cc;
      finish = λ ins.
          let sinks = c.tell_sinks.new.outlets in
          let x = c.tell_sinks.ensures.streams ins c.self.inside.tables.items in
          let y = c.tell_tables.ensures.streams ins sinks in
          let many = sym (x.as_many_outlets ∙ c.as_mut_slice.ensures.len) in
          let much = sym (y.as_many_tables ∙ c.as_mut_slice-2.ensures.len) in
          rw (written_back _ sinks _ many, written_back _ c.tell_tables.new.tables _ much) (c.in-Err-tell_tables.ensures.finish ins sinks (x.as_many_outlets ∙ c.as_mut_slice.ensures.len ∙ sym c.len-first.ensures));
    }

pub returns : goal.returns
returns g c =
    let before = c.tell_sinks.ensures.same in
    let after = c.tell_tables.ensures.same in
    record {
      streams = λ ins.
          let kinds = family_of g.B.Kinds.Kinds.start g.B.Kinds.Kinds.answer_of in
          let sinks = c.tell_sinks.new.outlets in
          let x = c.tell_sinks.ensures.streams ins c.self.inside.tables.items in
          let y = c.tell_tables.ensures.streams ins sinks in
          let many = sym (x.as_many_outlets ∙ c.as_mut_slice.ensures.len) in
          let much = sym (y.as_many_tables ∙ c.as_mut_slice-2.ensures.len) in
          rw (← c.self.view_is, written_back _ sinks _ many, written_back _ c.tell_tables.new.tables _ much)
          (streams_both kinds _ _ _ ins ins ins _ _ _ (rw c.as_mut_slice.ensures.value at x) (rw c.as_mut_slice-2.ensures.value at y));
      same = record { network = after.network ∙ before.network; inputs = after.inputs ∙ before.inputs; unended = after.unended ∙ before.unended; outputs = after.outputs ∙ before.outputs };
      none = λ e. search rules;
      finish = tt;
    }
