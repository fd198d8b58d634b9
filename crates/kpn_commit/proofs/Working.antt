-- What the work of a commit does, appends and leaves.
use Rattle.std.proofs.Common.{◌≡◌, ◌≢◌, ◌↔◌, List, [], ◌∷◌, length, length-append, refl, arith, ℕ, ◌+◌, ◌<◌, ◌≤◌, true, false, Some, None, set}
use Rattle.std.specs.List.{list_any}
use Rattle.kpn_model.specs.declared.kinds.Answer.{Answer}
use Rattle.kpn_model.specs.declared.history.Deed.{Deed}
use Rattle.kpn_model.specs.declared.history.Entry.TheVariants.{Did}
use Rattle.kpn_model.specs.declared.history.End.{End}
use Rattle.kpn_model.specs.declared.history.End.TheVariants.{Terminated, Deadlock, Ceiling, Budget, Memory}
use Rattle.kpn_model.specs.Network.{Network, Family}
use Rattle.kpn_model.specs.Semantics.{wants, IsDeed, after_deed}
use Rattle.kpn_model.specs.Endings.{CanGrow, NothingGoesOn}
use Rattle.kpn_laws.proofs.Causes.{over_grows_not}
use Rattle.kpn_state.specs.StateAndHistory.{StateAndHistory, more}
use Rattle.kpn_state.specs.declared.standing.Standing.{Standing}
use Rattle.kpn_state.specs.declared.standing.Standing.TheVariants.{Ready}
use Rattle.kpn_state.specs.Standings.{standing, is_busy, standing_after, partner}
use Rattle.kpn_state.proofs.Placed.{standing_set_same, standing_set_other, acted_not_parked, busy_at}
use Rattle.kpn_commit.specs.declared.react.Reaction.{Reaction}
use Rattle.kpn_commit.specs.declared.react.Reaction.TheVariants.{Waits, Acts, HandsOn}
use Rattle.kpn_commit.specs.declared.resolution.Resolution.{Resolution}
use Rattle.kpn_commit.specs.declared.resolution.Resolution.TheVariants.{Busy, Ended, Enlarged}
use Rattle.kpn_commit.specs.Reactions.{Acted, Handed, Reacts}
use Rattle.kpn_commit.specs.Resolving.{Resolves}
use Rattle.kpn_commit.specs.Works.{end_after}

-- a process whose deed has a process at its other end is ready afterwards
pub partner_ready : (net : Network) (d : Deed) (q : ℕ) → partner net d ≡ Some q → standing_after d ≡ Ready
partner_ready net d q e = grind arith

module _ {kinds : Family} {net : Network} where
  -- a deed of what a process wants is a step of that process
  pub acted :
      (s : StateAndHistory) (l : List Standing) (p : ℕ) (a : Answer) (d : Deed) {t : StateAndHistory} {moved : List Standing} → wants kinds net s.state p ≡ Some a → IsDeed kinds net s.state p a.act d
      → t ≡ more s (after_deed kinds net s.state p a.next d) (Did p d) → moved ≡ set l p (standing_after d) → Acted kinds net s l p d t moved
  acted s l p a d w is entry moves = rw (entry, moves) (record { does = record { answer = a; wanted = w; is_deed = is; leaves = refl }; entry = refl; moves = refl })

  -- the process that handed on is ready
  pub handed_busy : {s : StateAndHistory} {l : List Standing} {p : ℕ} {t : StateAndHistory} {moved : List Standing} → p < length l → Handed kinds net s l p t moved → list_any is_busy moved ≡ true
  handed_busy {l = l} {p = p} {moved = moved} within h =
      let first = h.first.moves in
      let second = h.second.moves in
      let parked = h.parked in
      let here = standing_set_same l p (standing_after h.deed) within in
      let other : p ≢ h.other = λ e. acted_not_parked h.deed h.wanted (cc) in
      let still = standing_set_other h.standings_between h.other p (standing_after h.handed) other in
      let ready = partner_ready net h.deed h.other h.at_other_end in
      let now : standing moved p ≡ Ready = cc in
      busy_at moved p (cc)

module _ (kinds : Family) (net : Network) (s : StateAndHistory) (l : List Standing) where
  -- if no process is ready or out after a reaction, the reaction appended at most one entry
  pub reaction_room :
      (p : ℕ) (a : Answer) (r : Reaction) (t : StateAndHistory) (moved : List Standing) → p < length l → length s.history + 3 ≤ s.limit → Reacts kinds net s l p a r t moved → list_any is_busy moved ≡ false
      → length t.history + 2 ≤ t.limit
  reaction_room p a Waits t moved within room h idle = rw h.1 (omega arith)
  reaction_room p a Acts t moved within room h idle = let n = length-append s.history (Did p h.0 ∷ []) in rw h.1.entry (omega arith)
  reaction_room p a HandsOn t moved within room h idle = let busy = handed_busy within h in cc

  -- a growth follows exactly when it is due, unless its memory is refused
  pub grows_exactly :
      (x : Resolution) (t : StateAndHistory) (moved : List Standing) (budget entries : ℕ) → Resolves kinds net s l x t moved → end_after x budget entries ≢ Some Memory → (x ≡ Enlarged) ↔ ((list_any is_busy l ≡ false) × CanGrow kinds net s.state)
  grows_exactly Busy t moved budget entries h not = (λ e. cc, λ due. let busy = h.0 in let idle = due.0 in cc)
  grows_exactly (Ended end) t moved budget entries h not = (λ e. cc, λ due. over end h.3 not due.1)
    where
      over : (end : End) → NothingGoesOn kinds net s.state end → Some end ≢ Some Memory → CanGrow kinds net s.state → Ended end ≡ Enlarged
      over Budget h not can = absurd h
      over Memory h not can = absurd (not refl)
      over Terminated h not can = absurd (over_grows_not kinds net s.state Terminated can.channel can.to can.next h can.grows)
      over Deadlock h not can = absurd (over_grows_not kinds net s.state Deadlock can.channel can.to can.next h can.grows)
      over Ceiling h not can = absurd (over_grows_not kinds net s.state Ceiling can.channel can.to can.next h can.grows)
  grows_exactly Enlarged t moved budget entries h not = (λ _. (h.0, record { channel = h.1.channel; to = h.1.to; next = h.1.grown; grows = h.1.grows }), λ _. refl)

-- at most two entries more don't spend the budget
pub not_spent : (budget n more : ℕ) → more ≤ n + 2 → n + 2 < budget → None ≡ end_after Busy budget more
not_spent budget n more few left = grind arith

module _ (kinds : Family) (net : Network) (s : StateAndHistory) (l : List Standing) where
  -- a reaction appends at most two entries
  pub reaction_few : (p : ℕ) (a : Answer) (r : Reaction) (t : StateAndHistory) (moved : List Standing) → Reacts kinds net s l p a r t moved → length t.history ≤ length s.history + 2
  reaction_few p a Waits t moved h = rw h.1 (omega arith)
  reaction_few p a Acts t moved h = let n = length-append s.history (Did p h.0 ∷ []) in rw h.1.entry (omega arith)
  reaction_few p a HandsOn t moved h =
      let n = length-append s.history (Did p h.deed ∷ []) in
      let m = length-append h.between.history (Did h.other h.handed ∷ []) in
      let between : length h.between.history ≡ length s.history + 1 = rw h.first.entry (omega arith) in
      rw h.second.entry (omega arith)
