-- If no process is ready or out after the reaction, there is room for a growth and a put.
use Rattle.kpn_model.specs.Families.{family}
use Rattle.kpn_commit.specs.Answering.{ReactsTo}
use Rattle.kpn_commit.proofs.Working.{reaction_room}
use Rattle.kpn_commit.proofs.work.work.Goals as goal
use Rattle.kpn_commit.proofs.work.work.Goals.{in-Read, in-Write, in-Stop}

pub settle-resolution-requires-clause-room : goal.settle-resolution-requires-clause-room
settle-resolution-requires-clause-room g c κs within =
    let did : ReactsTo (family g.K.Kinds) g.K.Kinds.admits c.args.net.now c.args.core.now c.args.process c.args.answer c.match-answer.reaction c.match-answer.core =
    elim c.match-answer.branch [
      | in-Read w ↦ rw (w.reaction-is, w.core-is) (rw (← w.in-Read.is) at w.react-reaction.ensures)
      | in-Write w ↦ rw (w.reaction-is, w.core-is) (rw (← w.in-Write.is) at w.react-reaction-in-Write.ensures)
      | in-Stop w ↦ rw (w.reaction-is, w.core-is) (rw (← w.in-Stop.is) at w.react-reaction-in-Stop.ensures)
    ] in
    λ idle. reaction_room _ _ _ _ _ _ c.match-answer.reaction _ _ c.requires.process c.requires.room did.reacts idle

pub returns : goal.returns
returns g c =
    let did : ReactsTo (family g.K.Kinds) g.K.Kinds.admits c.args.net.now c.args.core.now c.args.process c.args.answer c.match-answer.reaction c.match-answer.core =
    elim c.match-answer.branch [
      | in-Read w ↦ rw (w.reaction-is, w.core-is) (rw (← w.in-Read.is) at w.react-reaction.ensures)
      | in-Write w ↦ rw (w.reaction-is, w.core-is) (rw (← w.in-Write.is) at w.react-reaction-in-Write.ensures)
      | in-Stop w ↦ rw (w.reaction-is, w.core-is) (rw (← w.in-Stop.is) at w.react-reaction-in-Stop.ensures)
    ] in
    record {
      works = record {
        reaction = c.match-answer.reaction;
        between = c.match-answer.core.store;
        standings_between = c.match-answer.core.standings;
        reacts = did.reacts;
        resolution = c.settle-resolution.result.0;
        resolves = c.settle-resolution.ensures.resolves;
        outcome_is = c.outcome_of.ensures;
        end_is = c.settle-resolution.ensures.ended;
      };
      coherent = c.settle-resolution.ensures.coherent;
    }
