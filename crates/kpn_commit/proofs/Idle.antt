-- If no process is ready or out, the parked ones decide how the run goes on.
use Rattle.std.proofs.Common.{◌≡◌, ◌≢◌, ⊎_elim, List, length, arith, ℕ, true, false, Some, None}
use Rattle.std.proofs.lemmas.Bool.{cases_lt, true_from_ne_false}
use Rattle.std.specs.List.{list_any, list_all}
use Rattle.kpn_model.specs.declared.kinds.Answer.{Answer}
use Rattle.kpn_model.specs.declared.history.Status.TheVariants.{Done}
use Rattle.kpn_model.specs.Network.{Network, Family, Admits}
use Rattle.kpn_model.specs.Semantics.{State, status, tokens, capacity, wants, IsEnabled, IsQuiet, IsBlocked, IsArtificial, IsChosen}
use Rattle.kpn_state.specs.declared.standing.Standing.{Standing}
use Rattle.kpn_state.specs.declared.standing.Standing.TheVariants.{Parked}
use Rattle.kpn_state.specs.Standings.{standing, is_busy, has_stopped, StandingsFit}
use Rattle.kpn_commit.specs.Candidates.{awaited, IsSmallest}
use Rattle.kpn_commit.proofs.Waits.{waiting_writer}
use Rattle.kpn_state.proofs.Placed.{idle_at, stopped_at, one_live}

module _ {kinds : Family} {admits : Admits} {net : Network} {M : State} {l : List Standing} (k : StandingsFit kinds admits net None M l) where
  -- a process that wants something and is neither ready nor out is parked with it
  pub wants_parked : (p : ℕ) (a : Answer) → is_busy (standing l p) ≡ false → wants kinds net M p ≡ Some a → standing l p ≡ Parked a
  wants_parked p a idle w = grind (arith, k.wanted p, k.stopped p)

  -- a process that can go on is ready or out
  pub enabled_busy : (p : ℕ) → IsEnabled kinds net M p → is_busy (standing l p) ≡ true
  enabled_busy p e = true_from_ne_false (is_busy (standing l p)) (λ h. k.blocked p e.answer (λ f. cc) (wants_parked p e.answer h e.wanted) e.possible)

  -- a process that awaits a channel is a blocked writer
  pub awaits_blocked : (p c : ℕ) → awaited net l p ≡ Some c → IsBlocked kinds net M p c
  awaits_blocked p c e =
      let w = waiting_writer net p c (standing l p) e in
      record {
        answer = w.answer;
        wanted = k.wanted p w.answer w.parked;
        port = w.port;
        token = w.token;
        act = w.act;
        at = w.at;
        full = ⊎_elim (λ room. absurd (k.blocked p w.answer (λ f. cc) w.parked (rw w.act (c, w.at, room)))) (λ full. full) (cases_lt (length (tokens M c)) (capacity M c));
      }

  module _ (idle : list_any is_busy l ≡ false) where
    -- no process can go on
    pub idle_quiet : IsQuiet kinds net M
    idle_quiet p e = let busy = enabled_busy p e in let not = idle_at l p idle in cc

    -- a blocked writer awaits its channel
    pub blocked_awaits : (p c : ℕ) → IsBlocked kinds net M p c → awaited net l p ≡ Some c
    blocked_awaits p c b = let parked = wants_parked p b.answer (idle_at l p idle) b.wanted in cc

    -- the smallest awaited channel is the chosen one
    pub smallest_chosen : (c w : ℕ) → IsSmallest net M l (Some (c, w)) → IsChosen kinds net M c
    smallest_chosen c w best =
        record {
          writer = w;
          blocked = awaits_blocked w c best.0;
          no_smaller = λ q d b. ⊎_elim (λ less. omega arith) (λ same. let e = same.0 in omega arith) (best.1 q d (blocked_awaits q d b));
          no_earlier = λ q d b e. ⊎_elim (λ less. absurd (omega arith)) (λ same. same.1) (best.1 q d (blocked_awaits q d b));
        }

    -- and a channel has to grow
    pub smallest_artificial : (c w : ℕ) → IsSmallest net M l (Some (c, w)) → IsArtificial kinds net M
    smallest_artificial c w best = record { quiet = idle_quiet; writer = w; channel = c; blocked = awaits_blocked w c best.0 }

    -- if no process waits to write, none is blocked on a write
    pub none_blocked : IsSmallest net M l None → (p c : ℕ) → IsBlocked kinds net M p c → ⊥
    none_blocked none p c b = let waits = blocked_awaits p c b in let not = none p in cc

  -- if not all have stopped, some process is live
  pub some_live : list_all has_stopped l ≡ false → (p : ℕ) × (status M p ≢ Done)
  some_live h = let one = one_live l h in (one.0, λ e. one.1 (k.done one.0 e))

  -- if all have, none is
  pub all_done : list_all has_stopped l ≡ true → (p : ℕ) → status M p ≡ Done
  all_done h p = k.stopped p (stopped_at l p h)
