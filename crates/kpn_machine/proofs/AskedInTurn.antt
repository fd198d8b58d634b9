-- Ready processes that are asked, one after the other.
use Rattle.std.proofs.Common.{◌≡◌, List, [], ◌∷◌, ◌++◌, length, refl, subst, ℕ, ◌<◌, Option, Some}
use Rattle.kpn_model.specs.declared.kinds.Card.{Card}
use Rattle.kpn_model.specs.Network.{Network, Family, Admits}
use Rattle.kpn_state.specs.StateAndHistory.{StateAndHistory}
use Rattle.kpn_state.specs.declared.standing.Standing.{Standing}
use Rattle.kpn_state.proofs.Placed.{standing_within}
use Rattle.kpn_commit.specs.declared.react.Reaction.{Reaction}
use Rattle.kpn_commit.specs.Works.{acted_entries}
use Rattle.kpn_machine.specs.MachineView.{HasBodies}
use Rattle.kpn_machine.specs.Asking.{IsAsked, AreAsked}
use Rattle.kpn_machine.proofs.Moves.{Moves, reacts}

module _ {kinds : Family} {admits : Admits} {net : Network} where
  -- who is asked is one of the processes
  pub asked_within : {s t : StateAndHistory} {l m : List Standing} {r : Reaction} (h : IsAsked kinds admits net s l r t m) → h.process < length l
  asked_within {l = l} h = let ready = h.ready in standing_within l h.process (λ e. cc)

  -- its steps
  pub asked_moves : {s t : StateAndHistory} {l m : List Standing} {r : Reaction} (h : IsAsked kinds admits net s l r t m) → Moves kinds net s l (Some h.process) (acted_entries r) t m
  asked_moves {s = s} {t = t} {l = l} {m = m} {r = r} h = reacts kinds net s l h.process h.answer r t m (asked_within h) h.reacts

  -- who was out stays out, so that each process that is not out has its body as before
  pub bodies_stay : {s t : StateAndHistory} {l m : List Standing} {r : Reaction} (bodies : List (Option Card)) → IsAsked kinds admits net s l r t m → HasBodies net l bodies → HasBodies net m bodies
  bodies_stay {l = l} bodies h has q below not =
      has q below (λ out. not ((asked_moves h).stay q (λ e. let same : h.process ≡ q = cc in let ready = h.ready in cc) out))

  -- one more is asked
  pub asked_more :
      (until : ℕ) (rs : List Reaction) (r : Reaction) (s t u : StateAndHistory) (l m k : List Standing) → AreAsked kinds admits net until s l rs t m → length t.history < until → IsAsked kinds admits net t m r u k
      → AreAsked kinds admits net until s l (rs ++ r ∷ []) u k
  asked_more until [] r s t u l m k h less is = (
    subst (λ (x : StateAndHistory). length x.history < until) h.0 less,
    u,
    k,
    subst (λ (x : StateAndHistory). IsAsked kinds admits net x l r u k) h.0 (subst (λ (x : List Standing). IsAsked kinds admits net t x r u k) h.1 is),
    (refl, refl),
  )
  asked_more until (q ∷ rs) r s t u l m k h less is = (h.0, h.1, h.2, h.3, asked_more until rs r h.1 t u h.2 m k h.4 less is)
