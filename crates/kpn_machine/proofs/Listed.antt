-- Who waits at the channels while processes go out and come back.
use Rattle.std.proofs.Common.{◌≡◌, ⊎_elim, List, [], length, replicate, refl, arith, ℕ, zero, suc, true, false, None, Option, set, get_or}
use Rattle.std.proofs.lemmas.Bool.{cases_lt}
use Rattle.std.proofs.lemmas.List.{length-replicate}
use Rattle.kpn_model.specs.Network.{Network}
use Rattle.kpn_model.specs.Semantics.{State}
use Rattle.kpn_state.specs.declared.standing.Standing.{Standing}
use Rattle.kpn_state.specs.declared.standing.Standing.TheVariants.{Ready, Stopped}
use Rattle.kpn_state.specs.declared.waiting.Waiting.{Waiting}
use Rattle.kpn_state.specs.Standings.{standing, is_busy}
use Rattle.kpn_state.specs.Candidates.{candidate_list}
use Rattle.kpn_state.specs.Marks.{mark_lists}
use Rattle.kpn_state.proofs.Placed.{standing_within}
use Rattle.kpn_commit.specs.Candidates.{awaited_by}
use Rattle.kpn_commit.specs.Waiting.{expected_by, StandFor, AreWaiting}
use Rattle.kpn_commit.proofs.Waits.{busy_waits_not, waits_nowhere}
use Rattle.kpn_machine.proofs.Opened.{ready_at, ended_past}

-- a process that is ready or out, and stays so, waits at no channel
pub waiting_moved : {net : Network} {M : State} {l : List Standing} {w : Waiting} → AreWaiting net M l w → (p : ℕ) (x : Standing) → is_busy (standing l p) ≡ true → is_busy x ≡ true → AreWaiting net M (set l p x) w
waiting_moved {net = net} {l = l} k p x before after =
    let idle = busy_waits_not net p x after in
    waits_nowhere k p x (standing_within l p (λ e. cc)) (busy_waits_not net p (standing l p) before) idle.no_write idle.no_read

-- if all processes are ready nobody waits
pub waiting_none :
    (net : Network) (M : State) (n : ℕ) (waiting : Waiting) → waiting.candidates ≡ candidate_list [] n → waiting.marks ≡ mark_lists (replicate (length net.channels) false) (replicate (length net.channels) false)
    → AreWaiting net M (replicate n Ready) waiting
waiting_none net M n waiting empty unmarked =
    record {
      candidates = rw empty (record {
        each = λ x. (λ h. let there = h.1 in absurd (omega arith), λ h. let none = waits (awaited_by net) h.1.0 (λ p. refl) (λ p. refl) in cc);
        few = omega arith;
        room = let l = length-replicate n Ready in omega arith;
      });
      marks = rw unmarked (record {
        readers = stand (expected_by net) (λ p. refl) (λ p. refl);
        writers = stand (awaited_by net) (λ p. refl) (λ p. refl);
        each_reader = length-replicate (length net.channels) false;
        each_writer = length-replicate (length net.channels) false;
      });
    }
  where
    waits : (by : ℕ → Standing → Option ℕ) (p : ℕ) → ((q : ℕ) → by q Ready ≡ None) → ((q : ℕ) → by q Stopped ≡ None) → by p (standing (replicate n Ready) p) ≡ None
    waits by p ready past = ⊎_elim (λ l. rw (ready_at n p l) (ready p)) (λ o. rw (ended_past n p o) (past p)) (cases_lt p n)

    no_mark : (k c : ℕ) → get_or (replicate k false) c false ≡ false
    no_mark zero c = refl
    no_mark (suc k) zero = refl
    no_mark (suc k) (suc c) = no_mark k c

    stand : (by : ℕ → Standing → Option ℕ) → ((q : ℕ) → by q Ready ≡ None) → ((q : ℕ) → by q Stopped ≡ None) → StandFor (replicate (length net.channels) false) (λ p. by p (standing (replicate n Ready) p))
    stand by ready past c = (λ m. let none = no_mark (length net.channels) c in cc, λ w. let none = waits by w.0 ready past in let some = w.1 in cc)
