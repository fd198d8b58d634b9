-- The source in turn is poured, if there is one.
use Rattle.std.proofs.Common.{◌≡◌, true, get_or, refl, sym, subst, rules, arith}
use Rattle.std.proofs.lemmas.Bool.{and_parts}
use Rattle.std.proofs.lemmas.Grind.{common_steps}
use Rattle.std.proofs.lemmas.List.{get_or_default}
use Rattle.kpn_model.specs.Network.{family_of}
use Rattle.kpn_flow.specs.Flows.{is_among}
use Rattle.hox_stream.specs.Views.{InletView, no_inlet}
use Rattle.hox_stream.proofs.Reading.{not_read_same, only_there, others, read_there}
use Rattle.hox_stream.proofs.Streamed.{failed_there, other_sort_there, refused_there, streams_none, streams_poured}
use Rattle.hox_stream.proofs.pouring.pour_next.Goals as goal

pub returns-in_default-clause-poured : goal.returns-in_default-clause-poured
returns-in_default-clause-poured g c = record {
  streams = λ outs. streams_none (family_of g.B.Kinds.Kinds.start g.B.Kinds.Kinds.answer_of) _ _ _ outs refl;
  finish = λ outs. c.in_default.ensures.none;
  only_if_wanted = λ k within no. not_read_same _;
}

pub returns-in-Ok-clause-poured : goal.returns-in-Ok-clause-poured
returns-in-Ok-clause-poured g c = record {
  streams = λ outs.
      streams_poured (family_of g.B.Kinds.Kinds.start g.B.Kinds.Kinds.answer_of) _ _ c.args.inlets.now outs c.in-Some.k _ c.pour.new.inlet c.in-Some.ensures.turn.within (get_or_default c.args.inlets.now c.in-Some.k c.index-inlets-k.result no_inlet c.in-Some.ensures.turn.within) c.pour.ensures.pours;
  finish = tt;
  only_if_wanted = only_there c.args.inlets.now c.in-Some.k (get_or c.args.inlets.now c.in-Some.k c.index-inlets-k.result) c.pour.new.inlet c.in-Some.ensures.turn.within (get_or_default c.args.inlets.now c.in-Some.k c.index-inlets-k.result no_inlet c.in-Some.ensures.turn.within) c.pour.ensures.only_if_wanted;
}

pub returns-in-Err-Refused-clause-poured : goal.returns-in-Err-Refused-clause-poured
returns-in-Err-Refused-clause-poured g c = record {
  streams = λ outs.
      streams_poured (family_of g.B.Kinds.Kinds.start g.B.Kinds.Kinds.answer_of) _ _ c.args.inlets.now outs c.in-Some.k _ c.pour.new.inlet c.in-Some.ensures.turn.within (get_or_default c.args.inlets.now c.in-Some.k c.index-inlets-k.result no_inlet c.in-Some.ensures.turn.within) c.pour.ensures.pours;
  finish = λ outs.
      refused_there c.args.inlets.now c.in-Some.k c.pour.new.inlet c.in-Err-Refused.refusal c.in-Some.ensures.turn.within (c.in-Err-Refused.ensures.refused c.in-Err-Refused.refusal (cc));
  only_if_wanted = only_there c.args.inlets.now c.in-Some.k (get_or c.args.inlets.now c.in-Some.k c.index-inlets-k.result) c.pour.new.inlet c.in-Some.ensures.turn.within (get_or_default c.args.inlets.now c.in-Some.k c.index-inlets-k.result no_inlet c.in-Some.ensures.turn.within) c.pour.ensures.only_if_wanted;
}

pub returns-in-Err-Failed-clause-poured : goal.returns-in-Err-Failed-clause-poured
returns-in-Err-Failed-clause-poured g c = record {
  streams = λ outs.
      streams_poured (family_of g.B.Kinds.Kinds.start g.B.Kinds.Kinds.answer_of) _ _ c.args.inlets.now outs c.in-Some.k _ c.pour.new.inlet c.in-Some.ensures.turn.within (get_or_default c.args.inlets.now c.in-Some.k c.index-inlets-k.result no_inlet c.in-Some.ensures.turn.within) c.pour.ensures.pours;
  finish = λ outs. failed_there c.args.inlets.now c.in-Some.k c.pour.new.inlet c.in-Some.ensures.turn.within (c.in-Err-Failed.ensures.failed (cc));
  only_if_wanted = only_there c.args.inlets.now c.in-Some.k (get_or c.args.inlets.now c.in-Some.k c.index-inlets-k.result) c.pour.new.inlet c.in-Some.ensures.turn.within (get_or_default c.args.inlets.now c.in-Some.k c.index-inlets-k.result no_inlet c.in-Some.ensures.turn.within) c.pour.ensures.only_if_wanted;
}

pub returns-in-Err-OtherSort-clause-poured : goal.returns-in-Err-OtherSort-clause-poured
returns-in-Err-OtherSort-clause-poured g c = record {
  streams = λ outs.
      streams_poured (family_of g.B.Kinds.Kinds.start g.B.Kinds.Kinds.answer_of) _ _ c.args.inlets.now outs c.in-Some.k _ c.pour.new.inlet c.in-Some.ensures.turn.within (get_or_default c.args.inlets.now c.in-Some.k c.index-inlets-k.result no_inlet c.in-Some.ensures.turn.within) c.pour.ensures.pours;
  finish = λ outs. other_sort_there c.pour.new.flow.network c.args.inlets.now c.in-Some.k c.pour.new.inlet c.in-Some.ensures.turn.within (c.in-Err-OtherSort.ensures.other_sort (cc));
  only_if_wanted = only_there c.args.inlets.now c.in-Some.k (get_or c.args.inlets.now c.in-Some.k c.index-inlets-k.result) c.pour.new.inlet c.in-Some.ensures.turn.within (get_or_default c.args.inlets.now c.in-Some.k c.index-inlets-k.result no_inlet c.in-Some.ensures.turn.within) c.pour.ensures.only_if_wanted;
}

pub returns-in-Err-Memory-clause-poured : goal.returns-in-Err-Memory-clause-poured
returns-in-Err-Memory-clause-poured g c = record {
  streams = λ outs.
      streams_poured (family_of g.B.Kinds.Kinds.start g.B.Kinds.Kinds.answer_of) _ _ c.args.inlets.now outs c.in-Some.k _ c.pour.new.inlet c.in-Some.ensures.turn.within (get_or_default c.args.inlets.now c.in-Some.k c.index-inlets-k.result no_inlet c.in-Some.ensures.turn.within) c.pour.ensures.pours;
  finish = λ outs. tt;
  only_if_wanted = only_there c.args.inlets.now c.in-Some.k (get_or c.args.inlets.now c.in-Some.k c.index-inlets-k.result) c.pour.new.inlet c.in-Some.ensures.turn.within (get_or_default c.args.inlets.now c.in-Some.k c.index-inlets-k.result no_inlet c.in-Some.ensures.turn.within) c.pour.ensures.only_if_wanted;
}

pub pour-requires : goal.pour-requires
pour-requires g c =
    let waited : is_among c.args.flow.now.unended (get_or c.args.inlets.now c.in-Some.k c.index-inlets-k.result).channel ≡ true =
    subst (λ (p : InletView). is_among c.args.flow.now.unended p.channel ≡ true) (sym (get_or_default c.args.inlets.now c.in-Some.k c.index-inlets-k.result no_inlet c.in-Some.ensures.turn.within)) ((and_parts _ _ c.in-Some.ensures.turn.waited).0) in
    search (rules, waited)

pub offset_bounds-inlets-k : goal.offset_bounds-inlets-k
offset_bounds-inlets-k g c = grind (arith, common_steps)

pub returns-in-Ok-clause-takes_turn : goal.returns-in-Ok-clause-takes_turn
returns-in-Ok-clause-takes_turn g c =
    let k = c.in-Some.k in
    let within = c.in-Some.ensures.turn.within in
    let p = get_or c.args.inlets.now k c.index-inlets-k.result in
    let at = get_or_default c.args.inlets.now k c.index-inlets-k.result no_inlet within in
    record {
      place = k;
      turn = c.in-Some.ensures.turn;
      read = read_there c.args.inlets.now k p c.pour.new.inlet within at c.in-Ok.ensures.read;
      others = others c.args.inlets.now k p c.pour.new.inlet within at;
      behind = refl;
    }
