-- One table after another is written.
use Rattle.std.proofs.Common.{◌≡◌, ◌<◌, false, [], length, length-set, set, refl, sym, subst, ◌∙◌, arith}
use Rattle.std.proofs.lemmas.Grind.{common_steps}
use Rattle.std.proofs.lemmas.List.{get_or_default, get_or-set_same}
use Rattle.kpn_model.specs.Network.{family_of}
use Rattle.hox_stream.specs.Streams.{table_at}
use Rattle.hox_stream.specs.Tables.{IsTableFault}
use Rattle.hox_stream.specs.Views.{TableView, no_table}
use Rattle.hox_stream.proofs.Streamed.{streams_both, streams_none}
use Rattle.hox_stream.proofs.tabling.tell_tables.Goals as goal
use Rattle.hox_stream.proofs.tabling.tell_tables.Goals.{then-has_moved, else-has_moved}

pub loop-k-init : goal.loop-k-init
loop-k-init g c = record {
  streams = λ ins sinks. streams_none (family_of g.B.Kinds.Kinds.start g.B.Kinds.Kinds.answer_of) _ _ ins _ refl;
  same = record { network = refl; inputs = refl; unended = refl; outputs = refl };
  none = λ e. refl;
}

pub returns-in-Err : goal.returns-in-Err
returns-in-Err g c =
    let l = c.loop-k in
    let before = l.invariant.same in
    let after = c.tell_table.ensures.same in
    let long = (l.invariant.streams [] []).as_many_tables in
    let within : l.k < length l.tables = omega (arith, long, c.loop-k-test.true) in
    let at = get_or_default l.tables l.k c.index-tables-k.result no_table within in
    record {
      streams = λ ins sinks. streams_both (family_of g.B.Kinds.Kinds.start g.B.Kinds.Kinds.answer_of) _ _ _ _ _ _ _ _ _ (l.invariant.streams ins sinks) (c.tell_table.ensures.streams ins sinks l.tables l.k within (sym at));
      same = record { network = after.network ∙ before.network; inputs = after.inputs ∙ before.inputs; unended = after.unended ∙ before.unended; outputs = after.outputs ∙ before.outputs };
      none = λ e. cc;
      finish = λ ins sinks first.
          let tables = set l.tables l.k c.tell_table.new.table in
          let longer : l.k < length tables = subst (λ n. l.k < n) (sym (length-set l.tables l.k c.tell_table.new.table)) within in
          let here : table_at tables l.k ≡ c.tell_table.new.table = get_or-set_same l.tables l.k c.tell_table.new.table no_table within in
          c.finish_of.ensures (family_of g.B.Kinds.Kinds.start g.B.Kinds.Kinds.answer_of) c.tell_table.new.flow ins sinks tables first longer (subst (λ (t : TableView). IsTableFault t c.in-Err.fault) (sym here) c.in-Err.ensures.fault);
    }

pub offset_bounds-tables-k : goal.offset_bounds-tables-k
offset_bounds-tables-k g c =
    let long = (c.loop-k.invariant.streams [] []).as_many_tables in
    grind (arith, common_steps, long, c.loop-k-test.true)

pub loop-k-preserved : goal.loop-k-preserved
loop-k-preserved g c =
    let l = c.loop-k in
    let before = l.invariant.same in
    let after = c.tell_table.ensures.same in
    let long = (l.invariant.streams [] []).as_many_tables in
    let within : l.k < length l.tables = omega (arith, long, c.loop-k-test.true) in
    let at = get_or_default l.tables l.k c.index-tables-k.result no_table within in
    record {
      streams = λ ins sinks. streams_both (family_of g.B.Kinds.Kinds.start g.B.Kinds.Kinds.answer_of) _ _ _ _ _ _ _ _ _ (l.invariant.streams ins sinks) (c.tell_table.ensures.streams ins sinks l.tables l.k within (sym at));
      same = record { network = after.network ∙ before.network; inputs = after.inputs ∙ before.inputs; unended = after.unended ∙ before.unended; outputs = after.outputs ∙ before.outputs };
      none = λ e.
          elim c.if-has_moved.branch [
            | then-has_moved w ↦ cc
            | else-has_moved w ↦
                let moved : c.in-Ok.moved ≡ false = sym w.has_moved-is ∙ e in
                c.in-Ok.ensures.none (cc) ∙ c.loop-k.invariant.none w.if-has_moved.false
          ];
    }

pub returns : goal.returns
returns g c = record { streams = c.loop-k.invariant.streams; same = c.loop-k.invariant.same; none = λ e. c.loop-k.invariant.none (cc); finish = tt }
