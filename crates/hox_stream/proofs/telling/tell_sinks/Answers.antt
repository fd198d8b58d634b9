-- One sink after another is written.
use Rattle.std.proofs.Common.{◌≡◌, ◌<◌, false, [], length, refl, sym, ◌∙◌, arith}
use Rattle.std.proofs.lemmas.Grind.{common_steps}
use Rattle.std.proofs.lemmas.List.{get_or_default}
use Rattle.kpn_model.specs.Network.{family_of}
use Rattle.hox_stream.specs.Views.{no_outlet}
use Rattle.hox_stream.proofs.Streamed.{streams_both, streams_none, streams_told}
use Rattle.hox_stream.proofs.telling.tell_sinks.Goals as goal
use Rattle.hox_stream.proofs.telling.tell_sinks.Goals.{then-has_moved, else-has_moved}

pub loop-k-init : goal.loop-k-init
loop-k-init g c = record {
  streams = λ ins tables. streams_none (family_of g.B.Kinds.Kinds.start g.B.Kinds.Kinds.answer_of) _ _ ins _ refl;
  same = record { network = refl; inputs = refl; unended = refl; outputs = refl };
  none = λ e. refl;
}

pub returns-in-Err-Failed : goal.returns-in-Err-Failed
returns-in-Err-Failed g c =
    let l = c.loop-k in
    let long = (l.invariant.streams [] []).as_many_outlets in
    let within : l.k < length l.outlets = omega (arith, long, c.loop-k-test.true) in
    let before = l.invariant.same in
    let after = c.tell.ensures.same in
    record {
      streams = λ ins tables.
          streams_both (family_of g.B.Kinds.Kinds.start g.B.Kinds.Kinds.answer_of) _ _ _ _ _ _ _ _ _ (l.invariant.streams ins tables)
          (streams_told (family_of g.B.Kinds.Kinds.start g.B.Kinds.Kinds.answer_of) _ _ ins l.outlets tables l.k _ c.tell.new.outlet within (get_or_default l.outlets l.k c.index-outlets-k.result no_outlet within) c.tell.ensures.tells);
      same = record { network = after.network ∙ before.network; inputs = after.inputs ∙ before.inputs; unended = after.unended ∙ before.unended; outputs = after.outputs ∙ before.outputs };
      none = λ e. cc;
      finish = λ ins tables. grind (arith, common_steps);
    }

pub returns-in-Err-Misfit : goal.returns-in-Err-Misfit
returns-in-Err-Misfit g c =
    let l = c.loop-k in
    let long = (l.invariant.streams [] []).as_many_outlets in
    let within : l.k < length l.outlets = omega (arith, long, c.loop-k-test.true) in
    let before = l.invariant.same in
    let after = c.tell.ensures.same in
    record {
      streams = λ ins tables.
          streams_both (family_of g.B.Kinds.Kinds.start g.B.Kinds.Kinds.answer_of) _ _ _ _ _ _ _ _ _ (l.invariant.streams ins tables)
          (streams_told (family_of g.B.Kinds.Kinds.start g.B.Kinds.Kinds.answer_of) _ _ ins l.outlets tables l.k _ c.tell.new.outlet within (get_or_default l.outlets l.k c.index-outlets-k.result no_outlet within) c.tell.ensures.tells);
      same = record { network = after.network ∙ before.network; inputs = after.inputs ∙ before.inputs; unended = after.unended ∙ before.unended; outputs = after.outputs ∙ before.outputs };
      none = λ e. cc;
      finish = λ ins tables. grind (arith, common_steps);
    }

pub returns-in-Err-Memory : goal.returns-in-Err-Memory
returns-in-Err-Memory g c =
    let l = c.loop-k in
    let long = (l.invariant.streams [] []).as_many_outlets in
    let within : l.k < length l.outlets = omega (arith, long, c.loop-k-test.true) in
    let before = l.invariant.same in
    let after = c.tell.ensures.same in
    record {
      streams = λ ins tables.
          streams_both (family_of g.B.Kinds.Kinds.start g.B.Kinds.Kinds.answer_of) _ _ _ _ _ _ _ _ _ (l.invariant.streams ins tables)
          (streams_told (family_of g.B.Kinds.Kinds.start g.B.Kinds.Kinds.answer_of) _ _ ins l.outlets tables l.k _ c.tell.new.outlet within (get_or_default l.outlets l.k c.index-outlets-k.result no_outlet within) c.tell.ensures.tells);
      same = record { network = after.network ∙ before.network; inputs = after.inputs ∙ before.inputs; unended = after.unended ∙ before.unended; outputs = after.outputs ∙ before.outputs };
      none = λ e. cc;
      finish = λ ins tables. tt;
    }

pub loop-k-preserved : goal.loop-k-preserved
loop-k-preserved g c =
    let l = c.loop-k in
    let long = (l.invariant.streams [] []).as_many_outlets in
    let within : l.k < length l.outlets = omega (arith, long, c.loop-k-test.true) in
    let before = l.invariant.same in
    let after = c.tell.ensures.same in
    record {
      streams = λ ins tables.
          streams_both (family_of g.B.Kinds.Kinds.start g.B.Kinds.Kinds.answer_of) _ _ _ _ _ _ _ _ _ (l.invariant.streams ins tables)
          (streams_told (family_of g.B.Kinds.Kinds.start g.B.Kinds.Kinds.answer_of) _ _ ins l.outlets tables l.k _ c.tell.new.outlet within (get_or_default l.outlets l.k c.index-outlets-k.result no_outlet within) c.tell.ensures.tells);
      same = record { network = after.network ∙ before.network; inputs = after.inputs ∙ before.inputs; unended = after.unended ∙ before.unended; outputs = after.outputs ∙ before.outputs };
      none = λ e.
          elim c.if-has_moved.branch [
            | then-has_moved w ↦ cc
            | else-has_moved w ↦
                let moved : c.in-Ok.moved ≡ false = sym w.has_moved-is ∙ e in
                c.in-Ok.ensures.none (cc) ∙ l.invariant.none w.if-has_moved.false
          ];
    }

pub returns : goal.returns
returns g c = record { streams = c.loop-k.invariant.streams; same = c.loop-k.invariant.same; none = λ e. c.loop-k.invariant.none (cc); finish = tt }
