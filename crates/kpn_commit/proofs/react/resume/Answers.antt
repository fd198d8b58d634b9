-- After the deed of a parked process it has no mark at its channel, which is no candidate any more.
use Rattle.kpn_model.specs.Network.{family_of}
use Rattle.kpn_laws.proofs.Transitions.{capacity_after}
use Rattle.kpn_commit.proofs.Waits.{took_waiting, put_waiting, stopped_waiting}
use Rattle.kpn_commit.proofs.react.resume.Goals as goal

pub returns-in-Put-clause-resumes : goal.returns-in-Put-clause-resumes
returns-in-Put-clause-resumes g c =
    let kinds = family_of g.K.Kinds.start g.K.Kinds.answer_of in
    let e = c.in-Some-advance.ensures in
    let size = capacity_after kinds c.args.net.now c.args.core.now.store.state c.args.process c.in-Put.channel c.in-Some.wanted.next c.in-Some-advance.deed in
    λ _.
    record {
      wanted = c.in-Some.wanted;
      parked = rw c.as_slice.ensures.value at c.in-Some.ensures.some;
      deed = c.in-Some-advance.deed;
      is_deed = e.is_deed;
      entry = e.entry;
      moves = e.standing;
      keeps = e.keeps;
      waiting =
          rw (e.entry, e.standing, c.in-Put.is, c.unlist.ensures.marks)
          (put_waiting kinds c.requires.coherent.waiting c.args.process c.in-Some.wanted (rw c.as_slice.ensures.value at c.in-Some.ensures.within) (rw c.as_slice.ensures.value at c.in-Some.ensures.some) c.in-Put.channel c.in-Put.token c.unlist.new.waiting.candidates (rw c.in-Put.is at e.is_deed)
          (rw (c.tokens_and_capacity-capacity.ensures.capacity, e.entry, size) at c.unlist.ensures.candidates.pairs) (rw (c.tokens_and_capacity-capacity.ensures.capacity, e.entry, size) at c.unlist.ensures.candidates.many) c.unlist.ensures.candidates.limit);
    }

pub returns-in-Took-clause-resumes : goal.returns-in-Took-clause-resumes
returns-in-Took-clause-resumes g c =
    let e = c.in-Some-advance.ensures in
    λ _.
    record {
      wanted = c.in-Some.wanted;
      parked = rw c.as_slice.ensures.value at c.in-Some.ensures.some;
      deed = c.in-Some-advance.deed;
      is_deed = e.is_deed;
      entry = e.entry;
      moves = e.standing;
      keeps = e.keeps;
      waiting =
          rw (e.entry, e.standing, c.in-Took.is, c.note_reader.ensures)
          (took_waiting (family_of g.K.Kinds.start g.K.Kinds.answer_of) c.requires.coherent.waiting c.args.process c.in-Some.wanted (rw c.as_slice.ensures.value at c.in-Some.ensures.within) (rw c.as_slice.ensures.value at c.in-Some.ensures.some) c.in-Took.channel c.in-Took.token
          (rw c.in-Took.is at e.is_deed));
    }

pub returns-in-Stopped-clause-resumes : goal.returns-in-Stopped-clause-resumes
returns-in-Stopped-clause-resumes g c =
    let e = c.in-Some-advance.ensures in
    λ _.
    record {
      wanted = c.in-Some.wanted;
      parked = rw c.as_slice.ensures.value at c.in-Some.ensures.some;
      deed = c.in-Some-advance.deed;
      is_deed = e.is_deed;
      entry = e.entry;
      moves = e.standing;
      keeps = e.keeps;
      waiting =
          rw (e.entry, e.standing, c.in-Stopped.is)
          (stopped_waiting (family_of g.K.Kinds.start g.K.Kinds.answer_of) c.requires.coherent.waiting c.args.process c.in-Some.wanted (rw c.as_slice.ensures.value at c.in-Some.ensures.within) (rw c.as_slice.ensures.value at c.in-Some.ensures.some) (rw c.in-Stopped.is at e.is_deed));
    }
