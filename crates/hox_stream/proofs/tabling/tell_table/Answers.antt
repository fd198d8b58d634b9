-- One column after another is written.
use Rattle.std.proofs.Common.{◌≡◌, ◌<◌, ◌∙◌, false, length, refl, subst, sym, rules}
use Rattle.kpn_model.specs.Network.{family_of}
use Rattle.hox_stream.proofs.Streamed.{streams_table_more, streams_table_none}
use Rattle.hox_stream.proofs.Tabled.{as_many}
use Rattle.hox_stream.proofs.tabling.tell_table.Goals as goal
use Rattle.hox_stream.proofs.tabling.tell_table.Goals.{then-has_moved, else-has_moved}

pub loop-place-init : goal.loop-place-init
loop-place-init g c = record {
  streams = λ ins sinks tables k within at. streams_table_none (family_of g.B.Kinds.Kinds.start g.B.Kinds.Kinds.answer_of) ins sinks tables k _ _ at;
  same = record { network = refl; inputs = refl; unended = refl; outputs = refl };
  none = λ e. refl;
  width = refl;
}

pub returns-in-Err : goal.returns-in-Err
returns-in-Err g c =
    let l = c.loop-place in
    let before = l.invariant.same in
    let after = c.tell_lane.ensures.same in
    let inside : l.place < length l.table.lanes = subst (λ n. l.place < n) (c.width-place-end.ensures ∙ sym l.invariant.width) c.loop-place-test.true in
    record {
      streams = λ ins sinks tables k within at. streams_table_more (family_of g.B.Kinds.Kinds.start g.B.Kinds.Kinds.answer_of) ins sinks tables k _ _ _ l.place _ _ within inside (l.invariant.streams ins sinks tables k within at) c.tell_lane.ensures.tells;
      same = record { network = after.network ∙ before.network; inputs = after.inputs ∙ before.inputs; unended = after.unended ∙ before.unended; outputs = after.outputs ∙ before.outputs };
      none = λ e. cc;
      fault = c.in-Err.ensures.fault;
    }

pub loop-place-preserved : goal.loop-place-preserved
loop-place-preserved g c =
    let l = c.loop-place in
    let before = l.invariant.same in
    let after = c.tell_lane.ensures.same in
    let inside : l.place < length l.table.lanes = subst (λ n. l.place < n) (c.width-place-end.ensures ∙ sym l.invariant.width) c.loop-place-test.true in
    record {
      streams = λ ins sinks tables k within at. streams_table_more (family_of g.B.Kinds.Kinds.start g.B.Kinds.Kinds.answer_of) ins sinks tables k _ _ _ l.place _ _ within inside (l.invariant.streams ins sinks tables k within at) c.tell_lane.ensures.tells;
      same = record { network = after.network ∙ before.network; inputs = after.inputs ∙ before.inputs; unended = after.unended ∙ before.unended; outputs = after.outputs ∙ before.outputs };
      none = λ e.
          elim c.if-has_moved.branch [
            | then-has_moved w ↦ cc
            | else-has_moved w ↦
                let moved : c.in-Ok.moved ≡ false = sym w.has_moved-is ∙ e in
                c.in-Ok.ensures.none (cc) ∙ l.invariant.none w.if-has_moved.false
          ];
      width = as_many l.table c.tell_lane.new.table c.tell_lane.ensures.tells.writes.heads ∙ l.invariant.width;
    }

pub tell_lane-requires : goal.tell_lane-requires
tell_lane-requires g c =
    let inside : c.loop-place.place < length c.loop-place.table.lanes = subst (λ n. c.loop-place.place < n) (c.width-place-end.ensures ∙ sym c.loop-place.invariant.width) c.loop-place-test.true in
    search (rules, inside)

pub returns : goal.returns
returns g c = record { streams = c.loop-place.invariant.streams; same = c.loop-place.invariant.same; none = λ e. c.loop-place.invariant.none (cc); fault = tt }
