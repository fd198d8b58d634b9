-- A machine that was just opened is fresh, and meets its invariant.
use Rattle.std.proofs.Common.{◌≡◌, ◌≢◌, ⊎_elim, List, [], ◌∷◌, length, map, replicate, true, refl, ap, ◌∙◌, arith, ℕ, zero, suc, ◌+◌, ◌<◌, ◌≤◌, None, Option, get_or}
use Rattle.std.specs.List.{list_all}
use Rattle.std.proofs.lemmas.Bool.{cases_lt}
use Rattle.std.proofs.lemmas.List.{get_or_past, get_or-replicate, length-map, length-replicate}
use Rattle.kpn_model.specs.declared.kinds.Card.{Card}
use Rattle.kpn_model.specs.declared.kinds.Signature.{Signature}
use Rattle.kpn_model.specs.declared.history.Status.TheVariants.{Live, Done}
use Rattle.kpn_model.specs.declared.parts.Process.{Process}
use Rattle.kpn_model.specs.declared.parts.Channel.{Channel}
use Rattle.kpn_model.specs.Network.{Network, Family, no_channel, card_of, Admits}
use Rattle.kpn_model.specs.Semantics.{State, nothing_held, start}
use Rattle.kpn_model.specs.Valid.{IsValid}
use Rattle.kpn_laws.proofs.WellTypedDeeds.{sorted_start}
use Rattle.kpn_state.specs.declared.standing.Standing.TheVariants.{Ready, Stopped}
use Rattle.kpn_state.specs.Standings.{standing, is_ready, StandingsFit}
use Rattle.kpn_state.proofs.Placed.{busy_at}
use Rattle.kpn_machine.specs.Opening.{cards_of, AreSeated}
use Rattle.kpn_machine.specs.MachineView.{MachineView, machine_view, IsSound, IsFresh}
use Rattle.kpn_machine.proofs.Seats.{card_at}

-- each process is ready
pub ready_at : (n p : ℕ) → p < n → standing (replicate n Ready) p ≡ Ready
ready_at n p h = get_or-replicate n p Ready Stopped h

-- and there is no other
pub ended_past : (n p : ℕ) → n ≤ p → standing (replicate n Ready) p ≡ Stopped
ended_past n p h = let many = length-replicate n Ready in get_or_past (replicate n Ready) p Stopped (omega arith)

all_ready : (n : ℕ) → list_all is_ready (replicate n Ready) ≡ true
all_ready zero = refl
all_ready (suc n) = all_ready n

pub opened_fresh : (s : MachineView) (net : Network) (M : State) (n : ℕ) → s ≡ machine_view net M [] (replicate n Ready) None 0 → IsFresh s
opened_fresh s net M n is = rw is (record { no_entry = refl; no_commit = refl; no_end = refl; all_ready = all_ready n })

-- each process is live at the start
live_start : (kinds : Family) (ps : List Process) (p : ℕ) → p < length ps → get_or (map (λ (x : Process). Live (kinds.start x.card) None) ps) p Done ≢ Done
live_start kinds [] p h e = absurd (omega arith)
live_start kinds (x ∷ xs) zero h e = cc
live_start kinds (x ∷ xs) (suc p) h e = live_start kinds xs p (omega arith) e

-- a channel's capacity at the start is the network's
pub capacity_start : (ls : List Channel) (c : ℕ) → (get_or (map (λ (l : Channel). record { tokens = l.tokens; capacity = l.capacity }) ls) c nothing_held).capacity ≡ (get_or ls c no_channel).capacity
capacity_start [] c = refl
capacity_start (l ∷ ls) zero = refl
capacity_start (l ∷ ls) (suc c) = capacity_start ls c

module _ (signature : Card → Option Signature) (admits : Admits) (kinds : Family) (net : Network) (valid : IsValid signature net) (starts : (p : ℕ) → p < length net.processes → admits (card_of net p) (kinds.start (card_of net p)) None) where
  pub keeps_start : StandingsFit kinds admits net None (start kinds net) (replicate (length net.processes) Ready)
  keeps_start =
      let n = length net.processes in
      let many = length-map net.processes (λ (x : Process). Live (kinds.start x.card) None) in
      record {
        processes = many;
        channels = length-map net.channels _;
        one_each = length-replicate n Ready;
        well_typed = sorted_start signature admits kinds net valid starts;
        smallest = λ c h. rw (capacity_start net.channels c) (valid.capacities c no_channel h).0;
        greatest = λ c. rw (capacity_start net.channels c) (⊎_elim (λ h. (valid.capacities c no_channel h).1) (λ past. rw (get_or_past net.channels c no_channel past) (omega arith)) (cases_lt c (length net.channels)));
        stopped = λ p e. ⊎_elim (λ within. let ready = ready_at n p within in cc) (λ past. get_or_past (start kinds net).processes p Done (omega arith)) (cases_lt p n);
        done = λ p e. ⊎_elim (λ within. absurd (live_start kinds net.processes p within e)) (λ past. ended_past n p past) (cases_lt p n);
        wanted = λ p a e. ⊎_elim (λ within. let ready = ready_at n p within in cc) (λ past. let ended = ended_past n p past in cc) (cases_lt p n);
        blocked = λ p a ne e can. ⊎_elim (λ within. let ready = ready_at n p within in cc) (λ past. let ended = ended_past n p past in cc) (cases_lt p n);
      }

  pub sound_opened :
      (cards : List Card) (bodies : List (Option Card)) → cards ≡ cards_of net.processes → AreSeated cards bodies → length bodies ≡ length net.processes
      → IsSound kinds admits (machine_view net (start kinds net) [] (replicate (length net.processes) Ready) None 0) (net.budget + 2) bodies
  sound_opened cards bodies same seated many =
      let all = length-map net.processes (λ (p : Process). p.card) in
      let long : length cards ≡ length net.processes = ap length same ∙ all in
      let some = valid.some_budget in
      record {
        run = refl;
        keeps = keeps_start;
        limit_is = refl;
        many_bodies = many;
        has_bodies = λ p within n. rw (seated p (omega arith), same, card_at net.processes p);
        few = omega arith;
        ends = omega arith;
        busy = λ e. busy_at (replicate (length net.processes) Ready) 0 (rw (ready_at (length net.processes) 0 valid.some_process));
        idle = λ end e not. cc;
        asked = λ e. omega arith;
        laid = omega arith;
      }
