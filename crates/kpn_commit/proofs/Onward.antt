-- A process that is left as it stands, where its deed makes it ready.
use Rattle.std.proofs.Common.{◌≡◌, ◌≢◌, List, length, length-set, arith, ℕ, ◌<◌, Option, Some, refl, subst, sym, true, set}
use Rattle.std.proofs.lemmas.List.{set-set, set-get_or, set_comm}
use Rattle.kpn_model.specs.declared.kinds.Answer.{Answer}
use Rattle.kpn_model.specs.declared.kinds.Act.{Act}
use Rattle.kpn_model.specs.declared.kinds.Act.TheVariants.{Read, Write, Stop}
use Rattle.kpn_model.specs.declared.history.Deed.{Deed}
use Rattle.kpn_model.specs.declared.history.Deed.TheVariants.{Took, Put, Stopped as DidStop}
use Rattle.kpn_model.specs.Network.{Network, Family, Admits}
use Rattle.kpn_model.specs.Semantics.{State, wants, IsDeed, IsPossible}
use Rattle.kpn_state.specs.StateAndHistory.{StateAndHistory}
use Rattle.kpn_state.specs.declared.standing.Standing.{Standing}
use Rattle.kpn_state.specs.declared.standing.Standing.TheVariants.{Ready, Parked, Stopped}
use Rattle.kpn_state.specs.Standings.{standing, standing_after, is_busy, StandingsFit}
use Rattle.kpn_state.proofs.Placed.{standing_set_same, standing_set_other}
use Rattle.kpn_commit.specs.declared.react.Reaction.{Reaction}
use Rattle.kpn_commit.specs.declared.react.Reaction.TheVariants.{Waits, Acts, HandsOn}
use Rattle.kpn_commit.specs.Reactions.{Acted, Reacts}
use Rattle.kpn_commit.proofs.Keeping.{keeps_still}
use Rattle.kpn_commit.proofs.Working.{partner_ready}

module _ {l : List Standing} {p : ℕ} (within : p < length l) (busy : is_busy (standing l p) ≡ true) where
  -- what holds once it is ready holds as it stands
  pub keeps_left : {kinds : Family} {admits : Admits} {net : Network} {r : Option ℕ} {N : State} → StandingsFit kinds admits net r N (set l p Ready) → StandingsFit kinds admits net r N l
  keeps_left k =
      let here = standing_set_same l p Ready within in
      let long = length-set l p Ready in
      rw (set-set, set-get_or l p Stopped) at (keeps_still k p (standing l p) (omega (arith, long, within)) (rw here refl) busy)

-- a parked process is not one that is ready or out
pub apart : (l : List Standing) (p : ℕ) → is_busy (standing l p) ≡ true → (q : ℕ) (a : Answer) → standing l q ≡ Parked a → q ≢ p
apart l p busy q a parked e =
    let here : standing l p ≡ Parked a = cc in
    let no : is_busy (Parked a) ≡ true = rw here at busy in
    cc

-- the standing of one process is another's no matter
pub stays : (l : List Standing) (p q : ℕ) (x : Standing) → q ≢ p → standing (set l q x) p ≡ standing l p
stays l p q x other = standing_set_other l q p x (λ e. other (sym e))

pub swapped : (l : List Standing) (p q : ℕ) (x : Standing) → q ≢ p → set (set l q x) p Ready ≡ set (set l p Ready) q x
swapped l p q x other = set_comm l q p x Ready other

module _ (kinds : Family) (net : Network) (s : StateAndHistory) (p : ℕ) where
  -- the deed of an act that can't be done unless it is a stop is a stop
  stops : (act : Act) (d : Deed) → (act ≢ Stop → IsPossible kinds net s.state p act → ⊥) → IsDeed kinds net s.state p act d → standing_after d ≡ Stopped
  stops Stop DidStop blocked is = refl
  stops (Read k) (Took c t) blocked is = absurd (blocked (λ e. cc) (c, is.0, λ e. let held = is.1.1 in cc))
  stops (Write k w) (Put c t) blocked is = absurd (blocked (λ e. cc) (c, is.0, is.2))
  stops Stop (Took c t) blocked is = absurd is
  stops Stop (Put c t) blocked is = absurd is
  stops (Read k) (Put c t) blocked is = absurd is
  stops (Read k) DidStop blocked is = absurd is
  stops (Write k w) (Took c t) blocked is = absurd is
  stops (Write k w) DidStop blocked is = absurd is

  module _ (l : List Standing) (a : Answer) (wanted : wants kinds net s.state p ≡ Some a) (blocked : a.act ≢ Stop → IsPossible kinds net s.state p a.act → ⊥) where
    -- who acts though it can't go on has stopped
    acted_stops : (d : Deed) (t : StateAndHistory) (moved : List Standing) → Acted kinds net s l p d t moved → standing_after d ≡ Stopped
    acted_stops d t moved h =
        let same : h.does.answer ≡ a = let own = h.does.wanted in cc in
        stops a.act d blocked (subst (λ (x : Answer). IsDeed kinds net s.state p x.act d) same h.does.is_deed)

    -- a process that can't go on, or stops, is not ready after its reaction
    pub left_unready : (r : Reaction) (t : StateAndHistory) (moved : List Standing) → p < length l → Reacts kinds net s l p a r t moved → standing moved p ≢ Ready
    left_unready Waits t moved within h ready =
        let moves = h.2 in
        let here = standing_set_same l p (Parked a) within in
        cc
    left_unready Acts t moved within h ready =
        let moves = h.1.moves in
        let stopped = acted_stops h.0 t moved h.1 in
        let here = standing_set_same l p (standing_after h.0) within in
        cc
    left_unready HandsOn t moved within h ready =
        let stopped = acted_stops h.deed h.between h.standings_between h.first in
        let on = partner_ready net h.deed h.other h.at_other_end in
        cc
