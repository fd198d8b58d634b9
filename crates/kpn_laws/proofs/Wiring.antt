-- Networks with the same channels at the same ports: the steps of one are those of the other.
use Rattle.std.proofs.Common.{◌≡◌, List, [], ◌∷◌, refl, sym, ap, ◌∙◌, ℕ, ◌<◌, Some, Option, None, subst, min, ◌+◌}
use Rattle.kpn_model.specs.declared.history.Deed.{Deed}
use Rattle.kpn_model.specs.declared.history.Deed.TheVariants.{Took, Put, Stopped}
use Rattle.kpn_model.specs.declared.history.Entry.{Entry}
use Rattle.kpn_model.specs.declared.history.Entry.TheVariants.{Did, Grew}
use Rattle.kpn_model.specs.Network.{Network, in_of, out_of, Family, card_of}
use Rattle.kpn_model.specs.declared.history.Status.{Status}
use Rattle.kpn_model.specs.declared.history.Status.TheVariants.{Done, Live}
use Rattle.kpn_model.specs.Semantics.{State, status, capacity, answered, IsDeed, Transition, Run, IsBlocked, IsPossible, IsEnabled, IsQuiet, IsChosen, IsArtificial}
use Rattle.kpn_model.specs.Endings.{IsOver}
use Rattle.kpn_model.specs.declared.kinds.Act.{Act}
use Rattle.kpn_model.specs.declared.kinds.Act.TheVariants.{Read, Write, Stop}
use Rattle.kpn_model.specs.declared.kinds.Answer.{Answer}
use Rattle.kpn_model.specs.declared.history.End.{End}
use Rattle.kpn_model.specs.declared.history.End.TheVariants.{Terminated, Deadlock, Ceiling, Budget, Memory}
use Rattle.kpn_model.specs.History.{place_of, place_of_act, reads, writes}
use Rattle.kpn_model.specs.declared.kinds.Card.{Card}

-- the same processes, with the same channels at their ports
pub record AreWiredAlike (a b : Network) : Type 0 where
  pub cards : (p : ℕ) → card_of a p ≡ card_of b p
  pub ins : (p k : ℕ) → in_of a p k ≡ in_of b p k
  pub outs : (p k : ℕ) → out_of a p k ≡ out_of b p k
  pub steps : a.step ≡ b.step
  pub ceilings : a.ceiling ≡ b.ceiling

-- wired alike goes both ways
pub wired_sym : (a b : Network) → AreWiredAlike a b → AreWiredAlike b a
wired_sym a b w = record { cards = λ p. sym (w.cards p); ins = λ p k. sym (w.ins p k); outs = λ p k. sym (w.outs p k); steps = sym w.steps; ceilings = sym w.ceilings }

module _ (kinds : Family) where
  -- each process wants the same in both
  pub answered_alike : (a b : Network) → AreWiredAlike a b → (p : ℕ) (s : Status) → answered kinds a p s ≡ answered kinds b p s
  answered_alike a b w p (Live local last) = ap (λ (x : Card). Some (kinds.answer x local last)) (w.cards p)
  answered_alike a b w p Done = refl

  -- the same can be done in both
  possible_alike : (a b : Network) → AreWiredAlike a b → (M : State) (p : ℕ) (x : Act) → IsPossible kinds a M p x → IsPossible kinds b M p x
  possible_alike a b w M p Stop h = h
  possible_alike a b w M p (Read k) h = (h.0, sym (w.ins p k) ∙ h.1, h.2)
  possible_alike a b w M p (Write k t) h = (h.0, sym (w.outs p k) ∙ h.1, h.2)

  -- a process that can go on in one can in the other
  enabled_alike : (a b : Network) → AreWiredAlike a b → (M : State) (p : ℕ) → IsEnabled kinds a M p → IsEnabled kinds b M p
  enabled_alike a b w M p e =
      record { answer = e.answer; wanted = sym (answered_alike a b w p (status M p)) ∙ e.wanted; possible = possible_alike a b w M p e.answer.act e.possible }

  -- none can go on in one if none can in the other
  quiet_alike : (a b : Network) → AreWiredAlike a b → (M : State) → IsQuiet kinds a M → IsQuiet kinds b M
  quiet_alike a b w M q p e = q p (enabled_alike b a (wired_sym a b w) M p e)

  -- the same writers are blocked in both
  blocked_alike : (a b : Network) → AreWiredAlike a b → (M : State) (p c : ℕ) → IsBlocked kinds a M p c → IsBlocked kinds b M p c
  blocked_alike a b w M p c x =
      record { answer = x.answer; wanted = sym (answered_alike a b w p (status M p)) ∙ x.wanted; port = x.port; token = x.token; act = x.act; at = sym (w.outs p x.port) ∙ x.at; full = x.full }

  -- an artificial deadlock is one in both
  artificial_alike : (a b : Network) → AreWiredAlike a b → (M : State) → IsArtificial kinds a M → IsArtificial kinds b M
  artificial_alike a b w M x = record { quiet = quiet_alike a b w M x.quiet; writer = x.writer; channel = x.channel; blocked = blocked_alike a b w M x.writer x.channel x.blocked }

  -- the same channel is chosen in both
  chosen_alike : (a b : Network) → AreWiredAlike a b → (M : State) (c : ℕ) → IsChosen kinds a M c → IsChosen kinds b M c
  chosen_alike a b w M c x =
      let back = wired_sym a b w in
      record {
        writer = x.writer;
        blocked = blocked_alike a b w M x.writer c x.blocked;
        no_smaller = λ q d y. x.no_smaller q d (blocked_alike b a back M q d y);
        no_earlier = λ q d y. x.no_earlier q d (blocked_alike b a back M q d y);
      }

  -- an act comes to the same deed in both
  deed_alike : (a b : Network) → AreWiredAlike a b → (M : State) (p : ℕ) (x : Act) (d : Deed) → IsDeed kinds a M p x d → IsDeed kinds b M p x d
  deed_alike a b w M p Stop Stopped h = h
  deed_alike a b w M p (Read k) (Took c t) h = (sym (w.ins p k) ∙ h.0, h.1)
  deed_alike a b w M p (Write k u) (Put c t) h = (sym (w.outs p k) ∙ h.0, h.1, h.2)
  deed_alike a b w M p x d h = absurd h

  -- a step of one is a step of the other
  step_alike : (a b : Network) → AreWiredAlike a b → (M : State) (e : Entry) (N : State) → Transition kinds a M e N → Transition kinds b M e N
  step_alike a b w M (Did p d) N s =
      record { answer = s.answer; wanted = sym (answered_alike a b w p (status M p)) ∙ s.wanted; is_deed = deed_alike a b w M p s.answer.act d s.is_deed; leaves = s.leaves }
  step_alike a b w M (Grew c to) N s =
      record { artificial = artificial_alike a b w M s.artificial; chosen = chosen_alike a b w M c s.chosen; below = subst (λ n. capacity M c < n) w.ceilings s.below; to_is = s.to_is ∙ ap (λ n. min (capacity M c + n) a.ceiling) w.steps ∙ ap (λ n. min (capacity M c + b.step) n) w.ceilings; leaves = s.leaves }

  -- a run of one is a run of the other, from the same state
  pub run_alike : (a b : Network) → AreWiredAlike a b → (M : State) (E : List Entry) (N : State) → Run kinds a M E N → Run kinds b M E N
  run_alike a b w M [] N r = r
  run_alike a b w M (e ∷ E) N r = (r.0, step_alike a b w M e r.0 r.1, run_alike a b w r.0 E N r.2)

  -- what is over in one is over in the other
  pub over_alike : (a b : Network) → AreWiredAlike a b → (M : State) (x : End) → IsOver kinds a M x → IsOver kinds b M x
  over_alike a b w M Terminated o = (quiet_alike a b w M o.0, o.1)
  over_alike a b w M Deadlock o = (quiet_alike a b w M o.0, o.1, λ p c y. o.2 p c (blocked_alike b a (wired_sym a b w) M p c y))
  over_alike a b w M Ceiling o = (artificial_alike a b w M o.0, (o.1.0, chosen_alike a b w M o.1.0 o.1.1, o.1.2 ∙ w.ceilings))
  over_alike a b w M Budget o = o
  over_alike a b w M Memory o = o

  -- a process has the same place in both
  pub place_alike : (a b : Network) → AreWiredAlike a b → (p : ℕ) (o : Option Answer) → place_of a p o ≡ place_of b p o
  place_alike a b w p None = refl
  place_alike a b w p (Some x) = place_act x.act
    where
      place_act : (x : Act) → place_of_act a p x ≡ place_of_act b p x
      place_act Stop = refl
      place_act (Read k) = ap reads (w.ins p k)
      place_act (Write k t) = ap writes (w.outs p k)
