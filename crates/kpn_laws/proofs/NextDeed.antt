-- What a process does next in a run it can do, if it is not blocked.
use Rattle.std.proofs.Common.{◌≡◌, ◌≤◌, ⊎_elim, List, ◌∷◌, ◌++◌, length, refl, sym, ap, ◌∙◌, ℕ, ◌<◌, Some, subst}
use Rattle.std.proofs.lemmas.List.{append_cancel_left}
use Rattle.std.proofs.lemmas.Bool.{cases_lt}
use Rattle.kpn_model.specs.declared.history.Deed.{Deed}
use Rattle.kpn_model.specs.declared.history.Deed.TheVariants.{Took, Put, Stopped}
use Rattle.kpn_model.specs.declared.history.Entry.{Entry}
use Rattle.kpn_model.specs.declared.kinds.Answer.{Answer}
use Rattle.kpn_model.specs.History.{deeds}
use Rattle.kpn_model.specs.Network.{Network, Family}
use Rattle.kpn_model.specs.Semantics.{State, tokens, capacity, answered, wants, after_deed, IsDeed, IsBlocked, IsEnabled, Does}
use Rattle.kpn_laws.specs.Alone.{took}
use Rattle.kpn_laws.proofs.States.{in_of-reader}
use Rattle.kpn_laws.proofs.Follows.{Follows, wants_by}
use Rattle.kpn_laws.proofs.Kept.{Kept}
use Rattle.kpn_laws.proofs.EachMoment.{enabled_can_do}

module _ (kinds : Family) (net : Network) where
  -- a process that can do a deed is enabled
  pub does_enabled : (M : State) (p : ℕ) (d : Deed) (N : State) → Does kinds net M p d N → IsEnabled kinds net M p
  does_enabled M p d N s = (enabled_can_do kinds net M p).1 (d, (N, s))

  module _ (S : State) (G : List Entry) (N : State) (k : Kept kinds net S G N) where
    -- what p wants after its deeds it wants in the state to which the run leads
    wants_now : (p : ℕ) (a : Answer) → wants_by kinds net p (deeds G p) ≡ Some a → wants kinds net N p ≡ Some a
    wants_now p a w = ap (λ s. answered kinds net p s) (k.statuses p) ∙ w

    -- the deed that follows can be done, if p is not blocked
    pub follows_does : (p : ℕ) (d : Deed) → Follows kinds net (deeds G) p (deeds G p) d → ((c : ℕ) → IsBlocked kinds net N p c → ⊥) → (L : State) × Does kinds net N p d L
    follows_does p (Took c t) f free =
        let reader = (in_of-reader net p f.port c f.at).1 in
        let left : tokens N c ≡ t ∷ f.rest =
        append_cancel_left (took (deeds G p) c) _ _ (ap (λ q. took (deeds G q) c ++ tokens N c) (sym reader) ∙ sym (k.fifo c) ∙ f.next) in
        (after_deed kinds net N p f.answer.next (Took c t), record { answer = f.answer; wanted = wants_now p f.answer f.wanted; is_deed = subst (λ a. IsDeed kinds net N p a (Took c t)) (sym f.act) (f.at, (f.rest, left)); leaves = refl })
    follows_does p (Put c t) f free =
        let w = wants_now p f.answer f.wanted in
        ⊎_elim
        (λ (below : length (tokens N c) < capacity N c).
        (after_deed kinds net N p f.answer.next (Put c t), record { answer = f.answer; wanted = w; is_deed = subst (λ a. IsDeed kinds net N p a (Put c t)) (sym f.act) (f.at, refl, below); leaves = refl }))
        (λ (full : capacity N c ≤ length (tokens N c)).
        absurd (free c (record { answer = f.answer; wanted = w; port = f.port; token = t; act = f.act; at = f.at; full = full })))
        (cases_lt (length (tokens N c)) (capacity N c))
    follows_does p Stopped f free =
        (after_deed kinds net N p f.answer.next Stopped, record { answer = f.answer; wanted = wants_now p f.answer f.wanted; is_deed = subst (λ a. IsDeed kinds net N p a Stopped) (sym f.act) tt; leaves = refl })
