-- The channel at which a process waits is marked; one to which it waits to write becomes a candidate.
use Rattle.std.proofs.Common.{◌≡◌, Some, None, arith}
use Rattle.kpn_state.specs.declared.standing.Standing.TheVariants.{Parked}
use Rattle.kpn_state.specs.Standings.{standing}
use Rattle.kpn_commit.specs.Candidates.{awaited_by}
use Rattle.kpn_commit.specs.Waiting.{expected_by}
use Rattle.kpn_commit.proofs.Waits.{busy_waits_not, room_to_list, waits_nowhere, waits_reading, waits_writing}
use Rattle.kpn_commit.proofs.parking.park.Goals as goal
use Rattle.kpn_commit.proofs.parking.park.Goals.{in-Read+in-Some, in-Read+in_default, in-Write+in-Some-out_of, in-Write+in_default-out_of, in-Stop}

pub note_reader-requires : goal.note_reader-requires
note_reader-requires g c = let l = c.requires.waiting.marks.each_reader in omega (arith, l, c.in-Some.ensures.within)

pub insert-requires : goal.insert-requires
insert-requires g c = room_to_list c.requires.waiting c.args.process (Parked c.args.answer) c.requires.process (busy_waits_not c.args.net.now c.args.process (standing c.args.core.now.standings c.args.process) c.requires.busy) c.args.answer (rw c.in-Write.is)

pub note_writer-requires : goal.note_writer-requires
note_writer-requires g c = let l = c.requires.waiting.marks.each_writer in omega (arith, l, c.in-Some-out_of.ensures.within)

pub returns-clause-waiting : goal.returns-clause-waiting
returns-clause-waiting g c =
    let net = c.args.net.now in
    let p = c.args.process in
    let k = c.requires.waiting in
    let x = Parked c.args.answer in
    let idle = busy_waits_not net p (standing c.args.core.now.standings p) c.requires.busy in
    rw c.update.ensures
    (elim c.match-answer.branch [
      | in-Read+in-Some w ↦
          let reads : expected_by net p x ≡ Some w.in-Some.channel = rw (w.in-Read.is, ← w.from.ensures, ← w.in_of.ensures.is) w.in-Some.is in
          let no_write : awaited_by net p x ≡ None = rw w.in-Read.is in
          rw (w.core-is, w.note_reader.ensures) (waits_reading k p x c.requires.process idle w.in-Some.channel w.in-Some.ensures.within no_write reads)
      | in-Read+in_default w ↦
          let no_read : expected_by net p x ≡ None = rw (w.in-Read.is, ← w.from.ensures, ← w.in_of.ensures.is) w.in_default.is in
          let no_write : awaited_by net p x ≡ None = rw w.in-Read.is in
          rw w.core-is (waits_nowhere k p x c.requires.process idle no_write no_read)
      | in-Write+in-Some-out_of w ↦
          let writes : awaited_by net p x ≡ Some w.in-Some-out_of.channel = rw (w.in-Write.is, ← w.from-in-Write.ensures, ← w.out_of.ensures.is) w.in-Some-out_of.is in
          let no_read : expected_by net p x ≡ None = rw w.in-Write.is in
          rw (w.core-is, w.note_writer.ensures)
          (waits_writing k p x c.requires.process idle w.in-Some-out_of.channel w.insert.new.self w.in-Some-out_of.ensures.within writes no_read
          (rw w.tokens_and_capacity-capacity.ensures.capacity at w.insert.ensures.pairs) w.insert.ensures.many w.insert.ensures.limit)
      | in-Write+in_default-out_of w ↦
          let no_write : awaited_by net p x ≡ None = rw (w.in-Write.is, ← w.from-in-Write.ensures, ← w.out_of.ensures.is) w.in_default-out_of.is in
          let no_read : expected_by net p x ≡ None = rw w.in-Write.is in
          rw w.core-is (waits_nowhere k p x c.requires.process idle no_write no_read)
      | in-Stop w ↦
          rw w.core-is (waits_nowhere k p x c.requires.process idle (rw w.in-Stop.is) (rw w.in-Stop.is))
    ])
