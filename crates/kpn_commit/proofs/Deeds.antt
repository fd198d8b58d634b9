-- A deed enables at most the process at the other end of its channel.
use Rattle.std.proofs.Common.{◌≡◌, ◌≢◌, ◌⊎◌, inl, inr, ⊎_elim, List, length, refl, ap, ◌∙◌, arith, ℕ, ◌<◌, Some, subst, get_or-set_other}
use Rattle.std.proofs.lemmas.Bool.{cases_eq}
use Rattle.kpn_model.specs.declared.token.Token.{Token}
use Rattle.kpn_model.specs.declared.kinds.Act.{Act}
use Rattle.kpn_model.specs.declared.kinds.Act.TheVariants.{Read, Write, Stop}
use Rattle.kpn_model.specs.declared.kinds.Answer.{Answer}
use Rattle.kpn_model.specs.declared.history.Deed.{Deed}
use Rattle.kpn_model.specs.declared.history.Deed.TheVariants.{Took, Put, Stopped}
use Rattle.kpn_model.specs.Network.{Network, Family, in_of, out_of}
use Rattle.kpn_model.specs.Semantics.{State, tokens, capacity, IsPossible, IsDeed, after_deed}
use Rattle.kpn_laws.proofs.States.{in_of-reader, out_of-writer}
use Rattle.kpn_laws.proofs.Transitions.{capacity_after}
use Rattle.kpn_laws.proofs.EachMoment.{deed_possible}
use Rattle.kpn_state.specs.Standings.{partner}

-- the deed is on channel c
abbrev pub Touches : Deed → ℕ → Type 0
Touches (Took b t) c = c ≡ b
Touches (Put b t) c = c ≡ b
Touches Stopped c = ⊥

touches_or_not : (d : Deed) (c : ℕ) → Touches d c ⊎ (Touches d c → ⊥)
touches_or_not (Took b t) c = cases_eq c b
touches_or_not (Put b t) c = cases_eq c b
touches_or_not Stopped c = inr (λ h. h)

-- q's act is on channel c
abbrev pub IsOn : Network → ℕ → Act → ℕ → Type 0
IsOn net q (Read k) c = in_of net q k ≡ Some c
IsOn net q (Write k t) c = out_of net q k ≡ Some c
IsOn net q Stop c = ⊥

is_on_one : (net : Network) (q : ℕ) (x : Act) (b c : ℕ) → IsOn net q x b → IsOn net q x c → b ≡ c
is_on_one net q x b c e f = grind arith

module _ (kinds : Family) (net : Network) where
  -- a channel that the deed is not on keeps its tokens
  untouched : (M : State) (p : ℕ) (next : List ℕ) (d : Deed) (c : ℕ) → (Touches d c → ⊥) → tokens (after_deed kinds net M p next d) c ≡ tokens M c
  untouched M p next d c h = grind (arith, get_or-set_other)

  -- an act on another channel than the deed's that is possible after the deed was possible before
  pub possible_off :
      (M : State) (p : ℕ) (next : List ℕ) (d : Deed) (q : ℕ) (x : Act) → ((c : ℕ) → IsOn net q x c → Touches d c → ⊥) → IsPossible kinds net (after_deed kinds net M p next d) q x
      → IsPossible kinds net M q x
  possible_off M p next d q Stop off can = tt
  possible_off M p next d q (Read k) off can = (can.0, can.1, λ e. can.2 (untouched M p next d can.0 (off can.0 can.1) ∙ e))
  possible_off M p next d q (Write k t) off can =
      let same = ap (λ (l : List Token). length l) (untouched M p next d can.0 (off can.0 can.1)) in
      let size = capacity_after kinds net M p can.0 next d in
      let short : length (tokens (after_deed kinds net M p next d) can.0) < capacity (after_deed kinds net M p next d) can.0 = can.2 in
      (can.0, can.1, omega arith)

  -- what comes to a deed is on its channel
  deed_on : (M : State) (p : ℕ) (x : Act) (d : Deed) (c : ℕ) → IsDeed kinds net M p x d → Touches d c → IsOn net p x c
  deed_on M p x d c h on = grind arith

  -- a process whose act is on the deed's channel is that of the deed or its partner
  pub at_an_end : (M : State) (p : ℕ) (a : Act) (d : Deed) (q c : ℕ) (x : Act) → IsDeed kinds net M p a d → IsOn net q x c → Touches d c → (q ≡ p) ⊎ (partner net d ≡ Some q)
  at_an_end M p (Read i) (Took b t) q c (Read k) is at on = let f = in_of-reader net p i b is.0 in let g = in_of-reader net q k c at in inl (cc)
  at_an_end M p (Read i) (Took b t) q c (Write k u) is at on = let g = out_of-writer net q k c at in inr (cc)
  at_an_end M p (Write i v) (Put b t) q c (Read k) is at on = let g = in_of-reader net q k c at in inr (cc)
  at_an_end M p (Write i v) (Put b t) q c (Write k u) is at on = let f = out_of-writer net p i b is.0 in let g = out_of-writer net q k c at in inl (cc)
  at_an_end M p Stop Stopped q c x is at on = absurd on
  at_an_end M p a d q c Stop is at on = absurd at
  at_an_end M p a d q c x is at on = absurd is

  -- what a third process can do after a deed, it could do before
  pub possible_before :
      (M : State) (p : ℕ) (a : Answer) (d : Deed) (q : ℕ) (x : Act) → IsDeed kinds net M p a.act d → q ≢ p → partner net d ≢ Some q
      → IsPossible kinds net (after_deed kinds net M p a.next d) q x → IsPossible kinds net M q x
  possible_before M p a d q x is ne np can = possible_off M p a.next d q x (λ c at on. ⊎_elim ne np (at_an_end M p a.act d q c x is at on)) can

  -- the partner of a process that a deed enabled is the doer of that deed
  pub partner_back :
      (M : State) (p : ℕ) (a : Answer) (d : Deed) (q : ℕ) (x : Act) (e : Deed) (r : ℕ) → IsDeed kinds net M p a.act d → q ≢ p → (IsPossible kinds net M q x → ⊥)
      → IsDeed kinds net (after_deed kinds net M p a.next d) q x e → partner net e ≡ Some r → r ≡ p
  partner_back M p a d q x e r is ne cant ie pe = by_deed e ie pe
    where
      on_channel : (e : Deed) (c : ℕ) → IsDeed kinds net (after_deed kinds net M p a.next d) q x e → partner net e ≡ Some r → Touches e c → r ≡ p
      on_channel e c ie pe at =
          ⊎_elim
          (λ on. ⊎_elim (λ (s : p ≡ q). absurd (ne (cc))) (λ (s : partner net e ≡ Some p). cc) (at_an_end (after_deed kinds net M p a.next d) q x e p c a.act ie (deed_on M p a.act d c is on) at))
          (λ off. absurd (cant (possible_off M p a.next d q x (λ b at_b on. off (subst (λ y. Touches d y) (is_on_one net q x b c at_b (deed_on (after_deed kinds net M p a.next d) q x e c ie at)) on)) (deed_possible kinds net (after_deed kinds net M p a.next d) q x e ie))))
          (touches_or_not d c)

      by_deed : (e : Deed) → IsDeed kinds net (after_deed kinds net M p a.next d) q x e → partner net e ≡ Some r → r ≡ p
      by_deed Stopped ie pe = cc
      by_deed (Took c t) ie pe = on_channel (Took c t) c ie pe refl
      by_deed (Put c t) ie pe = on_channel (Put c t) c ie pe refl
