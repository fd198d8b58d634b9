-- A process that stops at once neither reads nor writes.
use Rattle.std.proofs.Common.{◌≡◌, ◌⊎◌, inl, inr, ⊎_elim, List, [], ◌∷◌, map, refl, sym, ap, ◌∙◌, ℕ, zero, suc, Bool, true, false, Some, None, get_or, subst}
use Rattle.std.proofs.lemmas.Bool.{cases_eq}
use Rattle.kpn_model.specs.declared.token.Token.{Token}
use Rattle.kpn_model.specs.declared.kinds.Act.{Act}
use Rattle.kpn_model.specs.declared.kinds.Act.TheVariants.{Read, Write, Stop}
use Rattle.kpn_model.specs.declared.kinds.Answer.{Answer}
use Rattle.kpn_model.specs.declared.parts.Process.{Process}
use Rattle.kpn_model.specs.declared.history.Deed.{Deed}
use Rattle.kpn_model.specs.declared.history.Deed.TheVariants.{Took, Put, Stopped}
use Rattle.kpn_model.specs.declared.history.Entry.TheVariants.{Did, Grew}
use Rattle.kpn_model.specs.declared.history.Status.TheVariants.{Live, Done}
use Rattle.kpn_model.specs.Network.{Network, Family, no_process, card_of, channel_of}
use Rattle.kpn_model.specs.Semantics.{State, status, answered, wants, IsDeed, after_deed, Does, start}
use Rattle.kpn_laws.proofs.States.{in_of-reader, out_of-writer}
use Rattle.kpn_laws.proofs.Transitions.{after, done_wants_none, live_within, status_after_same, status_after_other, took_read, put_write}
use Rattle.kpn_flow.specs.Events.{Event, Went, Fed, Drained, Flows}
use Rattle.kpn_flow.specs.Preloaded.{StopsAtOnce, IsAtEnds}
use Rattle.kpn_flow.proofs.Ahead.{Respects}

write_stop : (k : ℕ) (t : Token) → Write k t ≡ Stop → ⊥
write_stop k t e = cc

pub read_stop : (k : ℕ) → Read k ≡ Stop → ⊥
read_stop k e = cc

some_answer : (a b : Answer) → Some a ≡ Some b → a ≡ b
some_answer a b e = cc

module _ (kinds : Family) (net : Network) where
  -- it stands at its start or has stopped
  abbrev pub IsStill : State → ℕ → Type 0
  IsStill M p = (status M p ≡ Live (kinds.start (card_of net p)) None) ⊎ (status M p ≡ Done)

  abbrev pub AreStill : State → Type 0
  AreStill M = (p : ℕ) → StopsAtOnce kinds net p → IsStill M p

  at_start : (ps : List Process) (p : ℕ) → (get_or (map (λ (x : Process). Live (kinds.start x.card) None) ps) p Done ≡ Live (kinds.start (get_or ps p no_process).card) None) ⊎ (get_or (map (λ (x : Process). Live (kinds.start x.card) None) ps) p Done ≡ Done)
  at_start [] p = inr refl
  at_start (x ∷ xs) zero = inl refl
  at_start (x ∷ xs) (suc p) = at_start xs p

  pub still_start : AreStill (start kinds net)
  still_start p stops = at_start net.processes p

  -- it wants nothing but to stop
  pub still_wants : (M : State) (p : ℕ) (a : Answer) → StopsAtOnce kinds net p → IsStill M p → wants kinds net M p ≡ Some a → a.act ≡ Stop
  still_wants M p a stops still w =
      ⊎_elim
      (λ (e : status M p ≡ Live (kinds.start (card_of net p)) None). ap (λ (x : Answer). x.act) (sym (some_answer (kinds.answer (card_of net p) (kinds.start (card_of net p)) None) a (sym (ap (λ s. answered kinds net p s) e) ∙ w))) ∙ stops)
      (λ (e : status M p ≡ Done). absurd (done_wants_none kinds net p (status M p) a e w))
      still

  -- so its deed is a stop
  stop_stopped : (M : State) (p : ℕ) (a : Act) (d : Deed) → a ≡ Stop → IsDeed kinds net M p a d → d ≡ Stopped
  stop_stopped M p a d e is = by_deed d (subst (λ x. IsDeed kinds net M p x d) e is)
    where
      by_deed : (d : Deed) → IsDeed kinds net M p Stop d → d ≡ Stopped
      by_deed Stopped i = refl
      by_deed (Took c t) i = absurd i
      by_deed (Put c t) i = absurd i

  still_after : (M : State) (p : ℕ) (d : Deed) (mid : State) → Does kinds net M p d mid → AreStill M → AreStill mid
  still_after M p d mid s still q stops =
      let now : (x : ℕ) → status mid x ≡ status (after_deed kinds net M p s.answer.next d) x = λ x. ap (λ (m : State). status m x) s.leaves in
      ⊎_elim
      (λ (e : q ≡ p).
      let stops_too : StopsAtOnce kinds net p = subst (λ x. StopsAtOnce kinds net x) e stops in
      let is : d ≡ Stopped = stop_stopped M p s.answer.act d (still_wants M p s.answer stops_too (still p stops_too) s.wanted) s.is_deed in
      inr (now q ∙ ap (λ x. status (after_deed kinds net M p s.answer.next d) x) e ∙ status_after_same kinds net M p s.answer d (live_within kinds net M p s.answer s.wanted) ∙ ap (λ x. after (Some s.answer) x) is))
      (λ ne.
      let same : status mid q ≡ status M q = now q ∙ status_after_other kinds net M p q s.answer.next d ne in
      ⊎_elim (λ e. inl (same ∙ e)) (λ e. inr (same ∙ e)) (still q stops))
      (cases_eq q p)

  -- a state with the same processes
  still_same : (M N : State) → N.processes ≡ M.processes → AreStill M → AreStill N
  still_same M N e still p stops = ⊎_elim (λ x. inl (ap (λ ps. get_or ps p Done) e ∙ x)) (λ x. inr (ap (λ ps. get_or ps p Done) e ∙ x)) (still p stops)

  -- events lead to no deed of its own but the stop
  pub still_at_end : (xs : List Event) (M N : State) → Flows kinds net M xs N → AreStill M → AreStill N
  still_at_end [] M N f still = subst (λ (x : State). AreStill x) (sym f) still
  still_at_end (Went (Did p d) ∷ xs) M N f still = still_at_end xs f.0 N f.2 (still_after M p d f.0 f.1 still)
  still_at_end (Went (Grew b to) ∷ xs) M N f still = still_at_end xs f.0 N f.2 (still_same M f.0 (ap (λ (x : State). x.processes) f.1.leaves) still)
  still_at_end (Fed b t ∷ xs) M N f still = still_at_end xs f.0 N f.2 (still_same M f.0 (ap (λ (x : State). x.processes) f.1.2) still)
  still_at_end (Drained b t ∷ xs) M N f still = still_at_end xs f.0 N f.2 (still_same M f.0 (ap (λ (x : State). x.processes) f.1.1) still)

  module _ (ins outs : ℕ → Bool) (writers : (c : ℕ) → ins c ≡ true → StopsAtOnce kinds net (channel_of net c).writer) (readers : (c : ℕ) → outs c ≡ true → StopsAtOnce kinds net (channel_of net c).reader) where
    no_put : (M : State) (p c : ℕ) (t : Token) (mid : State) → Does kinds net M p (Put c t) mid → AreStill M → ins c ≡ false
    no_put M p c t mid s still = by_test (ins c) refl
      where
        by_test : (y : Bool) → ins c ≡ y → ins c ≡ false
        by_test false e = e
        by_test true e =
            let r = put_write kinds net M p c t s.answer.act s.is_deed in
            let stops : StopsAtOnce kinds net p = subst (λ x. StopsAtOnce kinds net x) (out_of-writer net p r.0 c r.2).1 (writers c e) in
            absurd (write_stop r.0 t (sym r.1 ∙ still_wants M p s.answer stops (still p stops) s.wanted))

    no_take : (M : State) (p c : ℕ) (t : Token) (mid : State) → Does kinds net M p (Took c t) mid → AreStill M → outs c ≡ false
    no_take M p c t mid s still = by_test (outs c) refl
      where
        by_test : (y : Bool) → outs c ≡ y → outs c ≡ false
        by_test false e = e
        by_test true e =
            let r = took_read kinds net M p c t s.answer.act s.is_deed in
            let stops : StopsAtOnce kinds net p = subst (λ x. StopsAtOnce kinds net x) (in_of-reader net p r.0 c r.2).1 (readers c e) in
            absurd (read_stop r.0 (sym r.1 ∙ still_wants M p s.answer stops (still p stops) s.wanted))

    pub respects : (xs : List Event) (M N : State) → Flows kinds net M xs N → AreStill M → IsAtEnds ins outs xs → Respects ins outs xs
    respects [] M N f still e = tt
    respects (Went (Did p (Put c t)) ∷ xs) M N f still e = (no_put M p c t f.0 f.1 still, respects xs f.0 N f.2 (still_after M p (Put c t) f.0 f.1 still) e)
    respects (Went (Did p (Took c t)) ∷ xs) M N f still e = (no_take M p c t f.0 f.1 still, respects xs f.0 N f.2 (still_after M p (Took c t) f.0 f.1 still) e)
    respects (Went (Did p Stopped) ∷ xs) M N f still e = respects xs f.0 N f.2 (still_after M p Stopped f.0 f.1 still) e
    respects (Went (Grew b to) ∷ xs) M N f still e = respects xs f.0 N f.2 (still_same M f.0 (ap (λ (x : State). x.processes) f.1.leaves) still) e
    respects (Fed b t ∷ xs) M N f still e = (e.0, respects xs f.0 N f.2 (still_same M f.0 (ap (λ (x : State). x.processes) f.1.2) still) e.1)
    respects (Drained b t ∷ xs) M N f still e = (e.0, respects xs f.0 N f.2 (still_same M f.0 (ap (λ (x : State). x.processes) f.1.1) still) e.1)
