-- A parked process that can go on is made ready: its mark goes, and so does its channel from the candidates.
use Rattle.std.proofs.Common.{◌≡◌, ◌<◌, Some, None, false, length, refl, arith}
use Rattle.kpn_state.specs.declared.standing.Standing.TheVariants.{Parked, Ready}
use Rattle.kpn_state.specs.Standings.{standing}
use Rattle.kpn_state.proofs.Contradictions.{none_some}
use Rattle.kpn_commit.specs.Candidates.{awaited_by, waits_to_write}
use Rattle.kpn_commit.specs.Waiting.{expected_by}
use Rattle.kpn_commit.proofs.Keeping.{keeps_unparked, keeps_unable, keeps_woken, none_sent}
use Rattle.kpn_commit.proofs.Waits.{busy_waits_not, waits_nowhere, done_reading, done_writing}
use Rattle.kpn_commit.proofs.outside.wake.Goals as goal
use Rattle.kpn_commit.proofs.outside.wake.Goals.{in-Read+in-Some-in_of, in-Read+in_default-in_of, in-Write+in-Some-out_of, in-Write+in_default-out_of, in-Stop}

pub returns-in_default : goal.returns-in_default
returns-in_default g c =
    record {
      store = refl;
      coherent =
          record {
            keeps = keeps_unparked c.requires.coherent.keeps (rw c.as_slice.ensures.value at c.in_default.ensures.none);
            waiting = c.requires.coherent.waiting;
          };
      none_sent = λ p out. out;
    }

pub returns-then-not-can_do : goal.returns-then-not-can_do
returns-then-not-can_do g c =
    record {
      store = refl;
      coherent =
          record {
            keeps = keeps_unable c.requires.coherent.keeps c.in-Some.answer (rw c.as_slice.ensures.value at c.in-Some.ensures.some) (c.can_do.ensures.cannot c.if-not-can_do.true);
            waiting = c.requires.coherent.waiting;
          };
      none_sent = λ p out. out;
    }

pub note_reader-requires : goal.note_reader-requires
note_reader-requires g c = let l = c.requires.coherent.waiting.marks.each_reader in omega (arith, l, c.in-Some-in_of.ensures.within)

pub unlist-requires : goal.unlist-requires
unlist-requires g c = let l = c.requires.coherent.waiting.marks.each_writer in omega (arith, l, c.in-Some-out_of.ensures.within)

pub returns : goal.returns
returns g c =
    let net = c.args.net.now in
    let p = c.args.process in
    let k = c.requires.coherent.waiting in
    let l = c.args.core.now.standings in
    let was = standing l p in
    let parked : was ≡ Parked c.in-Some.answer = rw c.as_slice.ensures.value at c.in-Some.ensures.some in
    let there : p < length l = rw c.as_slice.ensures.value at c.in-Some.ensures.within in
    let possible = c.can_do.ensures.can c.if-not-can_do.false in
    let idle = busy_waits_not net p Ready refl in
    let store : c.match-answer.core.store ≡ c.args.core.now.store =
    elim c.match-answer.branch [
      | in-Read+in-Some-in_of w ↦ rw w.core-is refl
      | in-Read+in_default-in_of w ↦ rw w.core-is refl
      | in-Write+in-Some-out_of w ↦ rw w.core-is refl
      | in-Write+in_default-out_of w ↦ rw w.core-is refl
      | in-Stop w ↦ rw w.core-is refl
    ] in
    let standings : c.match-answer.core.standings ≡ l =
    elim c.match-answer.branch [
      | in-Read+in-Some-in_of w ↦ rw w.core-is refl
      | in-Read+in_default-in_of w ↦ rw w.core-is refl
      | in-Write+in-Some-out_of w ↦ rw w.core-is refl
      | in-Write+in_default-out_of w ↦ rw w.core-is refl
      | in-Stop w ↦ rw w.core-is refl
    ] in
    record {
      store = store;
      coherent =
          record {
            keeps = rw (c.update.ensures, standings, store) (keeps_woken c.requires.coherent.keeps c.in-Some.answer parked there);
            waiting =
                rw c.update.ensures
                (elim c.match-answer.branch [
                  | in-Read+in-Some-in_of w ↦
                      let read : expected_by net p was ≡ Some w.in-Some-in_of.read = rw (parked, w.in-Read.is, ← w.from.ensures, ← w.in_of.ensures.is) w.in-Some-in_of.is in
                      let no_write : awaited_by net p was ≡ None = rw (parked, w.in-Read.is) in
                      let not_counted : waits_to_write was ≡ false = rw (parked, w.in-Read.is) in
                      rw (w.core-is, w.note_reader.ensures) (done_reading k p Ready there idle w.in-Some-in_of.read w.in-Some-in_of.ensures.within no_write not_counted read)
                  | in-Read+in_default-in_of w ↦ absurd (none_some _ (rw (← w.from.ensures, ← w.in_of.ensures.is, w.in_default-in_of.is) at (rw w.in-Read.is at possible).1))
                  | in-Write+in-Some-out_of w ↦
                      let written : awaited_by net p was ≡ Some w.in-Some-out_of.written = rw (parked, w.in-Write.is, ← w.from-in-Write.ensures, ← w.out_of.ensures.is) w.in-Some-out_of.is in
                      let no_read : expected_by net p was ≡ None = rw (parked, w.in-Write.is) in
                      rw (w.core-is, w.unlist.ensures.marks)
                      (done_writing k p Ready there idle _ w.in-Some-out_of.written w.unlist.new.waiting.candidates (λ d _. refl) written no_read
                      (rw w.tokens_and_capacity-capacity.ensures.capacity at w.unlist.ensures.candidates.pairs) (rw w.tokens_and_capacity-capacity.ensures.capacity at w.unlist.ensures.candidates.many) w.unlist.ensures.candidates.limit)
                  | in-Write+in_default-out_of w ↦ absurd (none_some _ (rw (← w.from-in-Write.ensures, ← w.out_of.ensures.is, w.in_default-out_of.is) at (rw w.in-Write.is at possible).1))
                  | in-Stop w ↦
                      let no_write : awaited_by net p was ≡ None = rw (parked, w.in-Stop.is) in
                      let no_read : expected_by net p was ≡ None = rw (parked, w.in-Stop.is) in
                      let not_counted : waits_to_write was ≡ false = rw (parked, w.in-Stop.is) in
                      rw w.core-is (waits_nowhere k p Ready there (record { no_write = no_write; no_read = no_read; not_counted = not_counted }) refl refl)
                ]);
          };
      none_sent = rw (c.update.ensures, standings) (none_sent l p there);
    }
