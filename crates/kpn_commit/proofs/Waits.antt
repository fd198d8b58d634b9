-- Who waits at the channels, as one process after the other is parked or goes on: the candidates for a growth, and the marks.
use Rattle.std.proofs.Common.{◌≡◌, ◌≢◌, ◌↔◌, ◌⊎◌, inl, inr, ⊎_elim, List, [], ◌∷◌, ◌++◌, length, length-set, length-append, drop, ap, refl, ◌∙◌, arith, ℕ, ◌+◌, ◌<◌, ◌≤◌, Bool, true, false, cond, Some, None, Option, set}
use Rattle.std.specs.List.{Contains, count_by}
use Rattle.std.proofs.lemmas.List.Sums.{sum_by-set, count_by-le-length}
use Rattle.kpn_model.specs.declared.token.Token.{Token}
use Rattle.kpn_model.specs.declared.kinds.Act.{Act}
use Rattle.kpn_model.specs.declared.kinds.Act.TheVariants.{Read, Write, Stop}
use Rattle.kpn_model.specs.declared.kinds.Answer.{Answer}
use Rattle.kpn_model.specs.declared.history.Deed.{Deed}
use Rattle.kpn_model.specs.declared.history.Deed.TheVariants.{Took, Put, Stopped as DidStop}
use Rattle.kpn_model.specs.Network.{Family, Network, channel_of, in_of, out_of, Admits}
use Rattle.kpn_model.specs.Semantics.{State, tokens, capacity, with_channel, IsDeed, after_deed, IsPossible}
use Rattle.kpn_model.specs.Valid.{IsOfSort}
use Rattle.kpn_laws.proofs.States.{in_of-reader, out_of-writer}
use Rattle.kpn_laws.proofs.Transitions.{capacity_after, took_read, put_write, stopped_stop}
use Rattle.kpn_state.specs.declared.standing.Standing.{Standing}
use Rattle.kpn_state.specs.declared.standing.Standing.TheVariants.{Ready, Parked, Stopped}
use Rattle.kpn_state.specs.declared.waiting.Waiting.{Waiting}
use Rattle.kpn_state.specs.Standings.{standing, standing_after, is_busy, HasChannel, StandingsFit}
use Rattle.kpn_state.specs.Candidates.{CandidateList}
use Rattle.kpn_state.specs.Marks.{MarkLists, mark_lists, is_marked}
use Rattle.kpn_state.proofs.Placed.{standing_set_same, standing_set_other}
use Rattle.kpn_commit.specs.Candidates.{awaited_by, is_write, waits_to_write, AreCandidates, awaited}
use Rattle.kpn_commit.specs.Waiting.{expected_by, StandFor, AreMarks, AreWaiting, expected, partner_marked, HasMark}
use Rattle.kpn_commit.proofs.Keeping.{each_set, still_parked, possible_changed, keeps_all, keeps_fed, keeps_drained}
use Rattle.kpn_commit.proofs.Deeds.{Touches, IsOn, possible_off}

-- a process that is parked with a write to the channel
pub record WaitsToWrite (net : Network) (p c : ℕ) (x : Standing) : Type 0 where
  pub answer : Answer
  pub parked : x ≡ Parked answer
  pub port : ℕ
  pub token : Token
  pub act : answer.act ≡ Write port token
  pub at : out_of net p port ≡ Some c

pub waiting_writer : (net : Network) (p c : ℕ) (x : Standing) → awaited_by net p x ≡ Some c → WaitsToWrite net p c x
waiting_writer net p c x e = grind arith

-- who waits to write to a channel is its writer, and the channel exists
pub is_writer : (net : Network) (p c : ℕ) (x : Standing) → awaited_by net p x ≡ Some c → (c < length net.channels) × ((channel_of net c).writer ≡ p)
is_writer net p c x e = let w = waiting_writer net p c x e in out_of-writer net p w.port c w.at

-- and one that is parked with a read from it
pub record WaitsToRead (net : Network) (p c : ℕ) (x : Standing) : Type 0 where
  pub answer : Answer
  pub parked : x ≡ Parked answer
  pub port : ℕ
  pub act : answer.act ≡ Read port
  pub at : in_of net p port ≡ Some c

pub waiting_reader : (net : Network) (p c : ℕ) (x : Standing) → expected_by net p x ≡ Some c → WaitsToRead net p c x
waiting_reader net p c x e = grind arith

-- who waits to read from a channel is its reader
pub is_reader : (net : Network) (p c : ℕ) (x : Standing) → expected_by net p x ≡ Some c → (c < length net.channels) × ((channel_of net c).reader ≡ p)
is_reader net p c x e = let r = waiting_reader net p c x e in in_of-reader net p r.port c r.at

-- a process that waits at no channel, and is not counted among those that wait to write
pub record WaitsNowhere (net : Network) (p : ℕ) (x : Standing) : Type 0 where
  pub no_write : awaited_by net p x ≡ None
  pub no_read : expected_by net p x ≡ None
  pub not_counted : waits_to_write x ≡ false

-- so does one that is ready or out
pub busy_waits_not : (net : Network) (p : ℕ) (x : Standing) → is_busy x ≡ true → WaitsNowhere net p x
busy_waits_not net p x e = grind arith

-- and one that has done its deed
pub acted_waits_not : (net : Network) (p : ℕ) (d : Deed) → WaitsNowhere net p (standing_after d)
acted_waits_not net p d = grind arith

-- who waits at a channel after the move of one process, where `by` tells the channel at which a process so standing waits
module _ (by : ℕ → Standing → Option ℕ) (l : List Standing) (p : ℕ) (x : Standing) (within : p < length l) where
  abbrev Before : ℕ → Type 0
  Before d = (q : ℕ) × (by q (standing l q) ≡ Some d)

  abbrev After : ℕ → Type 0
  After d = (q : ℕ) × (by q (standing (set l p x) q) ≡ Some d)

  same_wait : by p (standing l p) ≡ None → by p x ≡ None → (d : ℕ) → After d ↔ Before d
  same_wait before after d = (
    λ h. each_set (λ q (y : Standing). by q y ≡ Some d → Before d) l p x Stopped within (λ e. cc) (λ q o e. (q, e)) h.0 h.1,
    λ h. (h.0, let s = standing_set_other l p h.0 x (λ e. cc) in cc),
  )

  one_more_waits : (c : ℕ) → by p (standing l p) ≡ None → by p x ≡ Some c → (d : ℕ) → After d ↔ ((d ≡ c) ⊎ Before d)
  one_more_waits c before after d = (
    λ h. each_set (λ q (y : Standing). by q y ≡ Some d → (d ≡ c) ⊎ Before d) l p x Stopped within (λ e. inl (cc)) (λ q o e. inr (q, e)) h.0 h.1,
    λ h. ⊎_elim (λ (e : d ≡ c). (p, let s = standing_set_same l p x within in cc)) (λ w. (w.0, let s = standing_set_other l p w.0 x (λ e. cc) in cc)) h,
  )

  one_fewer_waits : (c : ℕ) → by p (standing l p) ≡ Some c → by p x ≡ None → ((q : ℕ) → by q (standing l q) ≡ Some c → q ≡ p) → (d : ℕ) → After d ↔ ((d ≢ c) × Before d)
  one_fewer_waits c before after alone d = (
    λ h. each_set (λ q (y : Standing). by q y ≡ Some d → (d ≢ c) × Before d) l p x Stopped within (λ e. cc) (λ q o e. (λ f. o (alone q (cc)), (q, e))) h.0 h.1,
    λ h. (h.1.0, let s = standing_set_other l p h.1.0 x (λ e. h.0 (cc)) in cc),
  )

-- the marks of those that wait, one at each channel
record Marked (by : ℕ → Standing → Option ℕ) (n : ℕ) (l : List Standing) (marks : List Bool) : Type 0 where
  stand : StandFor marks (λ q. by q (standing l q))
  each : length marks ≡ n

module _ {by : ℕ → Standing → Option ℕ} {n : ℕ} {l : List Standing} {marks : List Bool} (k : Marked by n l marks) (p : ℕ) (x : Standing) (within : p < length l) where
  same_marks : by p (standing l p) ≡ None → by p x ≡ None → Marked by n (set l p x) marks
  same_marks before after =
      let w = same_wait by l p x within before after in
      record { stand = λ d. (λ m. (w d).1 ((k.stand d).0 m), λ h. (k.stand d).1 ((w d).0 h)); each = k.each }

  marked : (c : ℕ) → c < n → by p (standing l p) ≡ None → by p x ≡ Some c → Marked by n (set l p x) (set marks c true)
  marked c there before after =
      let w = one_more_waits by l p x within c before after in
      record {
        stand = each_set (λ d (b : Bool). (b ≡ true) ↔ After by l p x within d) marks c true false (let many = k.each in omega arith) (λ _. (w c).1 (inl refl), λ _. refl)
            (λ d o. (λ m. (w d).1 (inr ((k.stand d).0 m)), λ h. (k.stand d).1 (⊎_elim (λ e. absurd (o e)) (λ b. b) ((w d).0 h))));
        each = length-set marks c true ∙ k.each;
      }

  unmarked : (c : ℕ) → c < n → by p (standing l p) ≡ Some c → by p x ≡ None → ((q : ℕ) → by q (standing l q) ≡ Some c → q ≡ p) → Marked by n (set l p x) (set marks c false)
  unmarked c there before after alone =
      let w = one_fewer_waits by l p x within c before after alone in
      record {
        stand = each_set (λ d (b : Bool). (b ≡ true) ↔ After by l p x within d) marks c false false (let many = k.each in omega arith) (λ m. cc, λ h. absurd (((w c).0 h).0 refl))
            (λ d o. (λ m. (w d).1 (o, (k.stand d).0 m), λ h. (k.stand d).1 ((w d).0 h).1));
        each = length-set marks c false ∙ k.each;
      }

pair_is : (y : ℕ × ℕ) (a c : ℕ) → y.0 ≡ a → y.1 ≡ c → y ≡ (a, c)
pair_is y a c e f = rw (← e, ← f)

-- 1 for a process that waits to write
abbrev weight : Standing → ℕ
weight x = cond (waits_to_write x) 1 0

counted : (l : List Standing) (p : ℕ) (x : Standing) → p < length l → count_by waits_to_write (set l p x) + weight (standing l p) ≡ count_by waits_to_write l + weight x
counted l p x within = sum_by-set weight l p x Stopped within

write_counts : (net : Network) (p c : ℕ) (x : Standing) → awaited_by net p x ≡ Some c → weight x ≡ 1
write_counts net p c x e = let w = waiting_writer net p c x e in rw (w.parked, w.act)

abbrev pub waiting_with : CandidateList → MarkLists → Waiting
waiting_with candidates marks = record { candidates = candidates; marks = marks }

module _ {net : Network} {M : State} {l : List Standing} {w : Waiting} (k : AreWaiting net M l w) where
  -- a state with the same capacities changes nothing of who waits
  pub same_capacities : (N : State) → ((c : ℕ) → capacity N c ≡ capacity M c) → AreWaiting net N l w
  same_capacities N same = record {
    candidates = record {
      each = λ y. let s = same y.1 in (λ h. let b = (k.candidates.each y).0 h in (cc, b.1), λ h. (k.candidates.each y).1 (cc, h.1));
      few = k.candidates.few;
      room = k.candidates.room;
    };
    marks = k.marks;
  }

  module _ (p : ℕ) (x : Standing) (within : p < length l) where
    readers_are : Marked (expected_by net) (length net.channels) l w.marks.readers
    readers_are = record { stand = k.marks.readers; each = k.marks.each_reader }

    writers_are : Marked (awaited_by net) (length net.channels) l w.marks.writers
    writers_are = record { stand = k.marks.writers; each = k.marks.each_writer }

    marks_are : {readers writers : List Bool} → Marked (expected_by net) (length net.channels) (set l p x) readers → Marked (awaited_by net) (length net.channels) (set l p x) writers → AreMarks net (set l p x) (mark_lists readers writers)
    marks_are r v = record { readers = r.stand; writers = v.stand; each_reader = r.each; each_writer = v.each }

    -- the candidates stay if the process neither waits to write nor did
    same_candidates : awaited_by net p (standing l p) ≡ None → waits_to_write (standing l p) ≡ false → awaited_by net p x ≡ None → AreCandidates net M (set l p x) w.candidates
    same_candidates before not_before after =
        let s = same_wait (awaited_by net) l p x within before after in
        let n = counted l p x within in
        let z : weight (standing l p) ≡ 0 = cc in
        let c = k.candidates in
        let size = length-set l p x in
        record {
          each = λ y. (λ h. let b = (c.each y).0 h in (b.0, (s y.1).1 b.1), λ h. (c.each y).1 (h.0, (s y.1).0 h.1));
          few = omega arith;
          room = omega arith;
        }

    module _ (idle : WaitsNowhere net p (standing l p)) where
      -- there is room for a process that is parked with a write
      pub room_to_list : (a : Answer) → is_write a.act ≡ true → length w.candidates.pairs < w.candidates.limit
      room_to_list a writes =
          let n = counted l p (Parked a) within in
          let z : weight (standing l p) ≡ 0 = let f = idle.not_counted in cc in
          let o : weight (Parked a) ≡ 1 = cc in
          let most = count_by-le-length waits_to_write (set l p (Parked a)) in
          let size = length-set l p (Parked a) in
          let c = k.candidates in
          omega arith

      -- a process goes on to wait nowhere
      pub waits_nowhere : awaited_by net p x ≡ None → expected_by net p x ≡ None → AreWaiting net M (set l p x) w
      waits_nowhere no_write no_read = record {
        candidates = same_candidates idle.no_write idle.not_counted no_write;
        marks = marks_are (same_marks readers_are p x within idle.no_read no_read) (same_marks writers_are p x within idle.no_write no_write);
      }

      -- or to wait for a token
      pub waits_reading : (c : ℕ) → c < length net.channels → awaited_by net p x ≡ None → expected_by net p x ≡ Some c → AreWaiting net M (set l p x) (waiting_with w.candidates (mark_lists (set w.marks.readers c true) w.marks.writers))
      waits_reading c there no_write reads = record {
        candidates = same_candidates idle.no_write idle.not_counted no_write;
        marks = marks_are (marked readers_are p x within c there idle.no_read reads) (same_marks writers_are p x within idle.no_write no_write);
      }

      -- or for room, and the channel becomes a candidate
      pub waits_writing :
          (c : ℕ) (more : CandidateList) → c < length net.channels → awaited_by net p x ≡ Some c → expected_by net p x ≡ None → ((y : ℕ × ℕ) → Contains more.pairs y ↔ ((y ≡ (capacity M c, c)) ⊎ Contains w.candidates.pairs y))
          → length more.pairs ≤ length w.candidates.pairs + 1 → more.limit ≡ w.candidates.limit → AreWaiting net M (set l p x) (waiting_with more (mark_lists w.marks.readers (set w.marks.writers c true)))
      waits_writing c more there writes no_read put many limit =
          let s = one_more_waits (awaited_by net) l p x within c idle.no_write writes in
          let n = counted l p x within in
          let z : weight (standing l p) ≡ 0 = let f = idle.not_counted in cc in
          let o = write_counts net p c x writes in
          let b = k.candidates in
          let size = length-set l p x in
          record {
            candidates = record {
              each = λ y. (
                λ h. ⊎_elim (λ (e : y ≡ (capacity M c, c)). (cc, (s y.1).1 (inl (cc)))) (λ old. let v = (b.each y).0 old in (v.0, (s y.1).1 (inr v.1))) ((put y).0 h),
                λ h. (put y).1 (⊎_elim (λ (e : y.1 ≡ c). let f = h.0 in inl (pair_is y (capacity M c) c (cc) e)) (λ old. inr ((b.each y).1 (h.0, old))) ((s y.1).0 h.1)),
              );
              few = omega arith;
              room = omega arith;
            };
            marks = marks_are (same_marks readers_are p x within idle.no_read no_read) (marked writers_are p x within c there idle.no_write writes);
          }

    module _ (idle : WaitsNowhere net p x) where
      -- a process that waited for a token waits no more
      pub done_reading : (c : ℕ) → c < length net.channels → awaited_by net p (standing l p) ≡ None → waits_to_write (standing l p) ≡ false → expected_by net p (standing l p) ≡ Some c → AreWaiting net M (set l p x) (waiting_with w.candidates (mark_lists (set w.marks.readers c false) w.marks.writers))
      done_reading c there no_write not_counted read = record {
        candidates = same_candidates no_write not_counted idle.no_write;
        marks = marks_are (unmarked readers_are p x within c there read idle.no_read (λ q e. let u = is_reader net q c (standing l q) e in let v = is_reader net p c (standing l p) read in cc)) (same_marks writers_are p x within no_write idle.no_write);
      }

      -- nor does one that waited for room, and its channel is no candidate any more
      pub done_writing :
          (N : State) (c : ℕ) (fewer : CandidateList) → ((d : ℕ) → d ≢ c → capacity N d ≡ capacity M d) → awaited_by net p (standing l p) ≡ Some c → expected_by net p (standing l p) ≡ None → ((y : ℕ × ℕ) → Contains fewer.pairs y ↔ ((y ≢ (capacity M c, c)) × Contains w.candidates.pairs y))
          → (Contains w.candidates.pairs (capacity M c, c) → length fewer.pairs + 1 ≡ length w.candidates.pairs) → fewer.limit ≡ w.candidates.limit → AreWaiting net N (set l p x) (waiting_with fewer (mark_lists w.marks.readers (set w.marks.writers c false)))
      done_writing N c fewer same written no_read taken many limit =
          let alone : (q : ℕ) → awaited_by net q (standing l q) ≡ Some c → q ≡ p = λ q e. let u = is_writer net q c (standing l q) e in let v = is_writer net p c (standing l p) written in cc in
          let s = one_fewer_waits (awaited_by net) l p x within c written idle.no_write alone in
          let n = counted l p x within in
          let z : weight x ≡ 0 = let f = idle.not_counted in cc in
          let o = write_counts net p c (standing l p) written in
          let b = k.candidates in
          let one = many ((b.each (capacity M c, c)).1 (refl, (p, written))) in
          let size = length-set l p x in
          record {
            candidates = record {
              each = λ y. (
                λ h.
                    let t = (taken y).0 h in
                    let v = (b.each y).0 t.1 in
                    let other : y.1 ≢ c = λ e. let f = v.0 in t.0 (pair_is y (capacity M c) c (cc) e) in
                    let size = same y.1 other in
                    (cc, (s y.1).1 (other, v.1)),
                λ h. let v = (s y.1).0 h.1 in let size = same y.1 v.0 in (taken y).1 (λ e. v.0 (cc), (b.each y).1 (cc, v.1)),
              );
              few = omega arith;
              room = omega arith;
            };
            marks = marks_are (same_marks readers_are p x within no_read idle.no_read) (unmarked writers_are p x within c (is_writer net p c (standing l p) written).0 written idle.no_write alone);
          }

-- the deed of a process that was ready or out changes nothing of who waits
pub acted_waiting :
    (kinds : Family) {net : Network} {M : State} {l : List Standing} {w : Waiting} → AreWaiting net M l w → (p : ℕ) (next : List ℕ) (d : Deed) → p < length l → is_busy (standing l p) ≡ true
    → AreWaiting net (after_deed kinds net M p next d) (set l p (standing_after d)) w
acted_waiting kinds {net = net} {M = M} {l = l} k p next d within busy =
    let idle = acted_waits_not net p d in
    same_capacities (waits_nowhere k p (standing_after d) within (busy_waits_not net p (standing l p) busy) idle.no_write idle.no_read) (after_deed kinds net M p next d) (λ c. capacity_after kinds net M p c next d)

-- a process that is ready or out, and stays so, changes nothing of who waits
pub busy_waiting : {net : Network} {M : State} {l : List Standing} {w : Waiting} → AreWaiting net M l w → (p : ℕ) (x : Standing) → p < length l → is_busy (standing l p) ≡ true → is_busy x ≡ true → AreWaiting net M (set l p x) w
busy_waiting {net = net} {l = l} k p x within before after =
    let idle = busy_waits_not net p x after in
    waits_nowhere k p x within (busy_waits_not net p (standing l p) before) idle.no_write idle.no_read

-- the deed of a process that was ready or out changes no capacity
pub deed_waiting : (kinds : Family) {net : Network} {M : State} {l : List Standing} {w : Waiting} → AreWaiting net M l w → (p : ℕ) (next : List ℕ) (d : Deed) → AreWaiting net (after_deed kinds net M p next d) l w
deed_waiting kinds {net = net} {M = M} k p next d = same_capacities k (after_deed kinds net M p next d) (λ c. capacity_after kinds net M p c next d)

-- the deed of a process that was parked
module _ (kinds : Family) {net : Network} {M : State} {l : List Standing} {w : Waiting} (k : AreWaiting net M l w) (p : ℕ) (a : Answer) (within : p < length l) (parked : standing l p ≡ Parked a) where
  -- a read
  pub took_waiting : (c : ℕ) (t : Token) → IsDeed kinds net M p a.act (Took c t) → AreWaiting net (after_deed kinds net M p a.next (Took c t)) (set l p Ready) (waiting_with w.candidates (mark_lists (set w.marks.readers c false) w.marks.writers))
  took_waiting c t is =
      let r = took_read kinds net M p c t a.act is in
      let read : expected_by net p (standing l p) ≡ Some c = rw (parked, r.1) r.2 in
      let no_write : awaited_by net p (standing l p) ≡ None = rw (parked, r.1) in
      let not_counted : waits_to_write (standing l p) ≡ false = rw (parked, r.1) in
      same_capacities (done_reading k p Ready within (acted_waits_not net p (Took c t)) c (is_reader net p c (standing l p) read).0 no_write not_counted read) (after_deed kinds net M p a.next (Took c t)) (λ d. capacity_after kinds net M p d a.next (Took c t))

  -- a write: the channel is no candidate any more
  pub put_waiting :
      (c : ℕ) (t : Token) (fewer : CandidateList) → IsDeed kinds net M p a.act (Put c t) → ((y : ℕ × ℕ) → Contains fewer.pairs y ↔ ((y ≢ (capacity M c, c)) × Contains w.candidates.pairs y))
      → (Contains w.candidates.pairs (capacity M c, c) → length fewer.pairs + 1 ≡ length w.candidates.pairs) → fewer.limit ≡ w.candidates.limit
      → AreWaiting net (after_deed kinds net M p a.next (Put c t)) (set l p Ready) (waiting_with fewer (mark_lists w.marks.readers (set w.marks.writers c false)))
  put_waiting c t fewer is taken many limit =
      let r = put_write kinds net M p c t a.act is in
      let written : awaited_by net p (standing l p) ≡ Some c = rw (parked, r.1) r.2 in
      let no_read : expected_by net p (standing l p) ≡ None = rw (parked, r.1) in
      done_writing k p Ready within (acted_waits_not net p (Put c t)) (after_deed kinds net M p a.next (Put c t)) c fewer (λ d _. capacity_after kinds net M p d a.next (Put c t)) written no_read taken many limit

  -- a stop
  pub stopped_waiting : IsDeed kinds net M p a.act DidStop → AreWaiting net (after_deed kinds net M p a.next DidStop) (set l p Stopped) w
  stopped_waiting is =
      let stop = stopped_stop kinds net M p a.act is in
      let no_write : awaited_by net p (standing l p) ≡ None = rw (parked, stop) in
      let no_read : expected_by net p (standing l p) ≡ None = rw (parked, stop) in
      let not_counted : waits_to_write (standing l p) ≡ false = rw (parked, stop) in
      same_capacities (waits_nowhere k p Stopped within (record { no_write = no_write; no_read = no_read; not_counted = not_counted }) refl refl) (after_deed kinds net M p a.next DidStop) (λ d. refl)

module _ {net : Network} {l : List Standing} {marks : MarkLists} (k : AreMarks net l marks) where
  -- a channel of the network may be marked
  pub has_mark : (d : Deed) → HasChannel net d → HasMark marks d
  has_mark (Took c t) h = omega arith
  has_mark (Put c t) h = omega arith
  has_mark DidStop h = tt

  -- where the deed's channel has no mark for the other end, no parked process can go on after the deed
  pub others_blocked :
      {kinds : Family} {admits : Admits} {M : State} {p : ℕ} → StandingsFit kinds admits net (Some p) M l → (a : Answer) (d : Deed) → p < length l → IsDeed kinds net M p a.act d → partner_marked marks d ≡ false
      → (q : ℕ) (b : Answer) → standing (set l p (standing_after d)) q ≡ Parked b → IsPossible kinds net (after_deed kinds net M p a.next d) q b.act → ⊥
  others_blocked {kinds = kinds} {M = M} {p = p} fit a d within is none q b parked can =
      fit.blocked q b (λ f. before.0 (cc)) before.1 (possible_off kinds net M p a.next d q b.act (λ c at on. apart b.act d c refl is none at on) can)
    where
      before : (q ≢ p) × (standing l q ≡ Parked b)
      before = still_parked l p d b within q parked

      apart : (x : Act) (d : Deed) (c : ℕ) → b.act ≡ x → IsDeed kinds net M p a.act d → partner_marked marks d ≡ false → IsOn net q x c → Touches d c → ⊥
      apart (Read i) (Took e t) c act is none at on = let r = took_read kinds net M p e t a.act is in let f = in_of-reader net p r.0 e r.2 in let g = in_of-reader net q i c at in before.0 (cc)
      apart (Write i u) (Put e t) c act is none at on = let r = put_write kinds net M p e t a.act is in let f = out_of-writer net p r.0 e r.2 in let g = out_of-writer net q i c at in before.0 (cc)
      apart (Read i) (Put e t) c act is none at on = let here = before.1 in let waits : expected net l q ≡ Some c = cc in let mark = (k.readers c).1 (q, waits) in cc
      apart (Write i u) (Took e t) c act is none at on = let here = before.1 in let waits : awaited net l q ≡ Some c = cc in let mark = (k.writers c).1 (q, waits) in cc
      apart Stop d c act is none at on = absurd at
      apart x DidStop c act is none at on = absurd on

-- a token comes into a channel at which nobody is parked to read, or goes out of one at which nobody is parked to write
module _ {kinds : Family} {admits : Admits} {net : Network} {M : State} {l : List Standing} {marks : MarkLists} (k : StandingsFit kinds admits net None M l) (w : AreMarks net l marks) (c : ℕ) (within : c < length M.channels) where
  pub fed_unawaited : (t : Token) → IsOfSort (channel_of net c).sort t → is_marked marks.readers c ≡ false → StandingsFit kinds admits net None (with_channel M c (tokens M c ++ t ∷ []) (capacity M c)) l
  fed_unawaited t sort none =
      keeps_all (keeps_fed k c within t sort)
      (λ q a e at can.
      k.blocked q a (λ f. cc) at
      (possible_changed k c within _ _ q a.act
      (λ i act from some. let waits : expected net l q ≡ Some c = rw (at, act) from in let mark = (w.readers c).1 (q, waits) in absurd (cc))
      (λ i u act to room. let more = length-append (tokens M c) (t ∷ []) in omega arith) can))

  pub drained_unawaited : is_marked marks.writers c ≡ false → StandingsFit kinds admits net None (with_channel M c (drop 1 (tokens M c)) (capacity M c)) l
  drained_unawaited none =
      keeps_all (keeps_drained k c within)
      (λ q a e at can.
      k.blocked q a (λ f. cc) at
      (possible_changed k c within _ _ q a.act (λ i act from some e. some (ap (λ (ts : List Token). drop 1 ts) e))
      (λ i u act to room. let waits : awaited net l q ≡ Some c = rw (at, act) to in let mark = (w.writers c).1 (q, waits) in absurd (cc)) can))
