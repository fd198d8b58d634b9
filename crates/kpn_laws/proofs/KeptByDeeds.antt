-- A deed keeps the invariant of every run.
use Rattle.std.proofs.Common.{◌≡◌, ⊎_elim, List, [], ◌∷◌, ◌++◌, length, refl, sym, ap, ◌∙◌, arith, append_assoc, ℕ, ◌<◌, Some, None, drop, subst, ne_eqb}
use Rattle.std.proofs.lemmas.Bool.{cases_eq}
use Rattle.kpn_model.specs.History.{IsPrefixOf, deeds, grown}
use Rattle.kpn_model.specs.declared.history.Deed.{Deed}
use Rattle.kpn_model.specs.declared.history.Deed.TheVariants.{Took, Put, Stopped}
use Rattle.kpn_model.specs.declared.history.Entry.{Entry}
use Rattle.kpn_model.specs.declared.history.Entry.TheVariants.{Did}
use Rattle.kpn_model.specs.Network.{Network, channel_of, Family}
use Rattle.kpn_model.specs.Semantics.{State, status, tokens, capacity, with_status, answered, wants, IsDeed, after_deed, start}
use Rattle.kpn_model.specs.declared.kinds.Answer.{Answer}
use Rattle.kpn_model.specs.declared.history.Status.TheVariants.{Live}
use Rattle.kpn_laws.proofs.Lists.{push_split}
use Rattle.kpn_laws.specs.Alone.{puts, took}
use Rattle.kpn_laws.proofs.Views.{deeds-append, deeds_push_same, deeds_push_other, growths_push_did, puts_push_none, took_push_none, puts_push_same, took_push_same, puts_one, took_one, puts_other, took_other}
use Rattle.kpn_laws.proofs.States.{in_of-reader, out_of-writer, holds_within, tokens_set_same, tokens_set_other}
use Rattle.kpn_laws.proofs.Transitions.{after, live_within, status_after_same, status_after_other, capacity_after, processes_after, channels_after, took_read, put_write, stopped_stop}
use Rattle.kpn_laws.proofs.Follows.{replay_push, status_by, wants_by, Follows, follows_more}
use Rattle.kpn_laws.proofs.Kept.{Kept}

module _ (kinds : Family) (net : Network) where
  -- a process's deeds after one more entry begin with those before it
  pub deeds_more : (H : List Entry) (e : Entry) (q : ℕ) → IsPrefixOf (deeds H q) (deeds (H ++ e ∷ []) q)
  deeds_more H e q = (deeds (e ∷ []) q, sym (deeds-append H (e ∷ []) q))

  module _ (S : State) (H : List Entry) (M : State) (k : Kept kinds net S H M) where
    -- each status is still that of the process's own deeds
    statuses_did :
        (p : ℕ) (d : Deed) (a : Answer) → wants kinds net M p ≡ Some a → (q : ℕ)
        → status (after_deed kinds net M p a.next d) q ≡ status_by kinds net q (deeds (H ++ Did p d ∷ []) q)
    statuses_did p d a w q =
        ⊎_elim
        (λ (e : q ≡ p).
        let by_status : after (wants kinds net M p) d ≡ after (wants_by kinds net p (deeds H p)) d = ap (λ s. after (answered kinds net p s) d) (k.statuses p) in
        let here : status (after_deed kinds net M p a.next d) p ≡ status_by kinds net p (deeds (H ++ Did p d ∷ []) p) =
        status_after_same kinds net M p a d (live_within kinds net M p a w) ∙ ap (λ o. after o d) (sym w) ∙ by_status
        ∙ sym (replay_push kinds net p (status (start kinds net) p) (deeds H p) d) ∙ ap (λ l. status_by kinds net p l) (sym (deeds_push_same H p d)) in
        subst (λ x. status (after_deed kinds net M p a.next d) x ≡ status_by kinds net x (deeds (H ++ Did p d ∷ []) x)) (sym e) here)
        (λ ne. status_after_other kinds net M p q a.next d ne ∙ k.statuses q ∙ ap (λ l. status_by kinds net q l) (sym (deeds_push_other H p q d (ne_eqb p q (λ e. ne (sym e))))))
        (cases_eq q p)

    -- the deed of a step follows from what was done and put before
    pub deed_follows :
        (p : ℕ) (d : Deed) (a : Answer) → wants kinds net M p ≡ Some a → IsDeed kinds net M p a.act d → Follows kinds net (deeds H) p (deeds H p) d
    deed_follows p (Took c t) a w is =
        let r = took_read kinds net M p c t a.act is in
        let reader = (in_of-reader net p r.0 c r.2).1 in
        record {
          answer = a;
          wanted = ap (λ s. answered kinds net p s) (sym (k.statuses p)) ∙ w;
          port = r.0;
          act = r.1;
          at = r.2;
          rest = r.3.0;
          next = k.fifo c ∙ ap (λ x. took (deeds H x) c ++ tokens M c) reader ∙ ap (λ l. took (deeds H p) c ++ l) r.3.1;
        }
    deed_follows p (Put c t) a w is =
        let r = put_write kinds net M p c t a.act is in
        record { answer = a; wanted = ap (λ s. answered kinds net p s) (sym (k.statuses p)) ∙ w; port = r.0; act = r.1; at = r.2 }
    deed_follows p Stopped a w is =
        record { answer = a; wanted = ap (λ s. answered kinds net p s) (sym (k.statuses p)) ∙ w; act = stopped_stop kinds net M p a.act is }

    -- each deed still follows
    follows_did :
        (p : ℕ) (d : Deed) (a : Answer) → wants kinds net M p ≡ Some a → IsDeed kinds net M p a.act d
        → (q : ℕ) (ds : List Deed) (e : Deed) (rest : List Deed) → deeds (H ++ Did p d ∷ []) q ≡ ds ++ e ∷ rest
        → Follows kinds net (deeds (H ++ Did p d ∷ [])) q ds e
    follows_did p d a w is q ds e rest h =
        let more = deeds_more H (Did p d) in
        let D = deeds H in
        let D' = deeds (H ++ Did p d ∷ []) in
        ⊎_elim
        (λ (x : q ≡ p).
        let h' : deeds H p ++ d ∷ [] ≡ ds ++ e ∷ rest = sym (deeds_push_same H p d) ∙ ap (λ y. D' y) (sym x) ∙ h in
        let here : Follows kinds net D p ds e = ⊎_elim
        (λ (s : (deeds H p ≡ ds) × (d ≡ e)). subst (λ y. Follows kinds net D p y e) s.0 (subst (λ y. Follows kinds net D p (deeds H p) y) s.1 (deed_follows p d a w is)))
        (λ (s : (ws : List Deed) × (deeds H p ≡ ds ++ e ∷ ws)). k.follows p ds e s.0 s.1)
        (push_split (deeds H p) ds rest d e h') in
        follows_more kinds net D D' q ds e more (subst (λ y. Follows kinds net D y ds e) (sym x) here))
        (λ ne. follows_more kinds net D D' q ds e more (k.follows q ds e rest (sym (deeds_push_other H p q d (ne_eqb p q (λ x. ne (sym x)))) ∙ h)))
        (cases_eq q p)

    -- what was put is still what was taken and what is left: a take and a put move one token
    fifo_did :
        (p : ℕ) (d : Deed) (a : Answer) → IsDeed kinds net M p a.act d → (c : ℕ)
        → (channel_of net c).tokens ++ puts (deeds (H ++ Did p d ∷ []) (channel_of net c).writer) c ≡ took (deeds (H ++ Did p d ∷ []) (channel_of net c).reader) c ++ tokens (after_deed kinds net M p a.next d) c
    fifo_did p Stopped a is c =
        ap (λ l. (channel_of net c).tokens ++ l) (puts_push_none H p (channel_of net c).writer Stopped c refl) ∙ k.fifo c
        ∙ ap (λ l. l ++ tokens M c) (sym (took_push_none H p (channel_of net c).reader Stopped c refl))
    fifo_did p (Took b t) a is c =
        let r = took_read kinds net M p b t a.act is in
        let M1 = with_status M p (Live a.next (Some t)) in
        let N = after_deed kinds net M p a.next (Took b t) in
        let H' = H ++ Did p (Took b t) ∷ [] in
        let put_same = ap (λ l. (channel_of net c).tokens ++ l) (puts_push_none H p (channel_of net c).writer (Took b t) c refl) in
        ⊎_elim
        (λ (e : c ≡ b).
        let reader : (channel_of net c).reader ≡ p = ap (λ x. (channel_of net x).reader) e ∙ (in_of-reader net p r.0 b r.2).1 in
        let took_more : took (deeds H' p) c ≡ took (deeds H p) c ++ t ∷ [] =
        took_push_same H p (Took b t) c ∙ ap (λ x. took (deeds H p) c ++ took (Took x t ∷ []) c) (sym e) ∙ ap (λ l. took (deeds H p) c ++ l) (took_one c t) in
        let left : tokens N c ≡ r.3.0 = ap (λ x. tokens N x) e ∙ tokens_set_same M1 b _ _ (holds_within M b t r.3.0 r.3.1) ∙ ap (λ l. drop 1 l) r.3.1 in
        let was : tokens M c ≡ t ∷ r.3.0 = ap (λ x. tokens M x) e ∙ r.3.1 in
        put_same ∙ k.fifo c ∙ ap (λ x. took (deeds H x) c ++ tokens M c) reader ∙ ap (λ l. took (deeds H p) c ++ l) was
        ∙ sym (append_assoc (took (deeds H p) c) (t ∷ []) r.3.0)
        ∙ ap (λ l. l ++ r.3.0) (sym took_more) ∙ ap (λ l. took (deeds H' p) c ++ l) (sym left)
        ∙ ap (λ x. took (deeds H' x) c ++ tokens N c) (sym reader))
        (λ (ne : c ≡ b → ⊥).
        put_same ∙ k.fifo c
        ∙ ap (λ l. l ++ tokens M c) (sym (took_push_none H p (channel_of net c).reader (Took b t) c (took_other b c t (ne_eqb b c (λ e. ne (sym e))))))
        ∙ ap (λ l. took (deeds H' (channel_of net c).reader) c ++ l) (sym (tokens_set_other M1 b c _ _ ne)))
        (cases_eq c b)
    fifo_did p (Put b t) a is c =
        let r = put_write kinds net M p b t a.act is in
        let M1 = with_status M p (Live a.next None) in
        let N = after_deed kinds net M p a.next (Put b t) in
        let H' = H ++ Did p (Put b t) ∷ [] in
        let took_same = took_push_none H p (channel_of net c).reader (Put b t) c refl in
        ⊎_elim
        (λ (e : c ≡ b).
        let at = out_of-writer net p r.0 b r.2 in
        let writer : (channel_of net c).writer ≡ p = ap (λ x. (channel_of net x).writer) e ∙ at.1 in
        let within : b < length M.channels = omega (arith, at.0, k.channels) in
        let put_more : puts (deeds H' p) c ≡ puts (deeds H p) c ++ t ∷ [] =
        puts_push_same H p (Put b t) c ∙ ap (λ x. puts (deeds H p) c ++ puts (Put x t ∷ []) c) (sym e) ∙ ap (λ l. puts (deeds H p) c ++ l) (puts_one c t) in
        let left : tokens N c ≡ tokens M c ++ t ∷ [] = ap (λ x. tokens N x) e ∙ tokens_set_same M1 b _ _ within ∙ ap (λ x. tokens M x ++ t ∷ []) (sym e) in
        ap (λ x. (channel_of net c).tokens ++ puts (deeds H' x) c) writer ∙ ap (λ l. (channel_of net c).tokens ++ l) put_more
        ∙ ap (λ x. (channel_of net c).tokens ++ (puts (deeds H x) c ++ t ∷ [])) (sym writer)
        ∙ sym (append_assoc (channel_of net c).tokens (puts (deeds H (channel_of net c).writer) c) (t ∷ [])) ∙ ap (λ l. l ++ t ∷ []) (k.fifo c)
        ∙ append_assoc (took (deeds H (channel_of net c).reader) c) (tokens M c) (t ∷ [])
        ∙ ap (λ l. took (deeds H (channel_of net c).reader) c ++ l) (sym left) ∙ ap (λ l. l ++ tokens N c) (sym took_same))
        (λ (ne : c ≡ b → ⊥).
        ap (λ l. (channel_of net c).tokens ++ l) (puts_push_none H p (channel_of net c).writer (Put b t) c (puts_other b c t (ne_eqb b c (λ e. ne (sym e))))) ∙ k.fifo c
        ∙ ap (λ l. l ++ tokens M c) (sym took_same)
        ∙ ap (λ l. took (deeds H' (channel_of net c).reader) c ++ l) (sym (tokens_set_other M1 b c _ _ ne)))
        (cases_eq c b)

    -- a deed keeps the whole invariant
    pub kept_after :
        (p : ℕ) (d : Deed) (a : Answer) → wants kinds net M p ≡ Some a → IsDeed kinds net M p a.act d
        → Kept kinds net S (H ++ Did p d ∷ []) (after_deed kinds net M p a.next d)
    kept_after p d a w is =
        record {
          statuses = statuses_did p d a w;
          fifo = fifo_did p d a is;
          follows = follows_did p d a w is;
          capacities = λ c. capacity_after kinds net M p c a.next d ∙ k.capacities c ∙ ap (λ gs. grown (capacity S c) gs c) (sym (growths_push_did H p d));
          rising = λ gs f c.
              let before = k.rising gs (subst (λ x. IsPrefixOf gs x) (growths_push_did H p d) f) c in
              let same = capacity_after kinds net M p c a.next d in
              omega arith;
          processes = processes_after kinds net M p a.next d ∙ k.processes;
          channels = channels_after kinds net M p a.next d ∙ k.channels;
        }
