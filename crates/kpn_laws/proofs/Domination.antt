-- A run to a quiet state dominates every other: each process did at least as much in it.
use Rattle.std.proofs.Common.{◌≡◌, ◌≤◌, inl, ⊎_elim, List, [], ◌∷◌, ◌++◌, length, refl, sym, ap, ◌∙◌, arith, append_assoc, length-append, ℕ, ◌≢◌, ◌<◌, Some, subst}
use Rattle.std.proofs.lemmas.List.{append_cancel_left}
use Rattle.std.proofs.lemmas.Bool.{cases_lt}
use Rattle.kpn_model.specs.History.{IsPrefixOf, deeds, growths}
use Rattle.kpn_model.specs.declared.token.Token.{Token}
use Rattle.kpn_model.specs.declared.history.Deed.{Deed}
use Rattle.kpn_model.specs.declared.history.Deed.TheVariants.{Took, Put, Stopped}
use Rattle.kpn_model.specs.declared.history.Entry.{Entry}
use Rattle.kpn_model.specs.declared.history.Entry.TheVariants.{Did, Grew}
use Rattle.kpn_model.specs.Network.{Network, channel_of, Family}
use Rattle.kpn_model.specs.Semantics.{State, tokens, capacity, answered, wants, IsDeed, Transition, Run, IsBlocked, IsPossible, IsEnabled, IsQuiet, Does}
use Rattle.kpn_model.specs.declared.kinds.Answer.{Answer}
use Rattle.kpn_laws.proofs.Lists.{prefix_trans, prefix_of_push, prefix-length, prefix_cases, prefix_to_push}
use Rattle.kpn_laws.specs.Alone.{puts, took}
use Rattle.kpn_laws.proofs.Views.{deeds_push_grew, growths_push_did, growths_push_grew, puts_prefix, took_prefix}
use Rattle.kpn_laws.proofs.States.{in_of-reader, out_of-writer}
use Rattle.kpn_laws.proofs.Transitions.{took_read, put_write, stopped_stop}
use Rattle.kpn_laws.proofs.Follows.{status_by, follows_same}
use Rattle.kpn_laws.proofs.Runs.{run_induction}
use Rattle.kpn_laws.proofs.Kept.{IsFresh, Kept}
use Rattle.kpn_laws.proofs.KeptByDeeds.{deed_follows}
use Rattle.kpn_laws.proofs.KeptByRuns.{kept_run}
use Rattle.kpn_laws.proofs.Comparable.{at_deeds_push}

module _ (kinds : Family) (net : Network) where
  module _ (S S' : State) (E : List Entry) (M : State) (k : Kept kinds net S E M) (H : List Entry) (K : State) (j : Kept kinds net S' H K) (front : (q : ℕ) → IsPrefixOf (deeds H q) (deeds E q)) where
    -- a process that has done the same in both wants the same in both
    same_wants : (p : ℕ) → deeds H p ≡ deeds E p → wants kinds net M p ≡ wants kinds net K p
    same_wants p same = ap (λ s. answered kinds net p s) (k.statuses p ∙ ap (λ l. status_by kinds net p l) (sym same) ∙ sym (j.statuses p))

    -- if the reader of a channel found a token in K, there is one in M, provided that at least as much was put in M and the same
    -- was taken
    tokens_left : (p c : ℕ) (t : Token) (rest : List Token) → deeds H p ≡ deeds E p → (channel_of net c).reader ≡ p → tokens K c ≡ t ∷ rest → tokens M c ≢ []
    tokens_left p c t rest same reader e none =
        let w = (channel_of net c).writer in
        let x = puts_prefix (deeds H w) (deeds E w) c (front w) in
        let a : (channel_of net c).tokens ++ puts (deeds E w) c ≡ took (deeds E p) c ++ tokens M c = k.fifo c ∙ ap (λ r. took (deeds E r) c ++ tokens M c) reader in
        let b : (channel_of net c).tokens ++ puts (deeds H w) c ≡ took (deeds E p) c ++ t ∷ rest = j.fifo c
        ∙ ap (λ r. took (deeds H r) c ++ tokens K c) reader ∙ ap (λ l. took l c ++ tokens K c) same ∙ ap (λ l. took (deeds E p) c ++ l) e in
        let both : took (deeds E p) c ++ tokens M c ≡ took (deeds E p) c ++ t ∷ (rest ++ x.0) = sym a
        ∙ ap (λ l. (channel_of net c).tokens ++ l) (sym x.1) ∙ sym (append_assoc (channel_of net c).tokens (puts (deeds H w) c) x.0)
        ∙ ap (λ l. l ++ x.0) b ∙ append_assoc (took (deeds E p) c) (t ∷ rest) x.0 in
        let left : tokens M c ≡ t ∷ (rest ++ x.0) = append_cancel_left (took (deeds E p) c) _ _ both in
        cc

    -- a channel has no more tokens in M than in K, if its writer has put the same in both and at least as much was taken in M
    fewer_tokens : (p c : ℕ) → deeds H p ≡ deeds E p → (channel_of net c).writer ≡ p → length (tokens M c) ≤ length (tokens K c)
    fewer_tokens p c same writer =
        let r = (channel_of net c).reader in
        let x = prefix-length _ _ (took_prefix (deeds H r) (deeds E r) c (front r)) in
        let a : (channel_of net c).tokens ++ puts (deeds E p) c ≡ took (deeds E r) c ++ tokens M c = ap (λ w. (channel_of net c).tokens ++ puts (deeds E w) c) (sym writer)
        ∙ k.fifo c in
        let b : (channel_of net c).tokens ++ puts (deeds E p) c ≡ took (deeds H r) c ++ tokens K c = ap (λ l. (channel_of net c).tokens ++ puts l c) (sym same)
        ∙ ap (λ w. (channel_of net c).tokens ++ puts (deeds H w) c) (sym writer) ∙ j.fifo c in
        let la = ap length a ∙ length-append (took (deeds E r) c) (tokens M c) in
        let lb = ap length b ∙ length-append (took (deeds H r) c) (tokens K c) in
        omega arith

    -- an act that could be done in K can be done in M, unless its channel is full in M with a lesser capacity
    possible_too :
        (p : ℕ) (d : Deed) (a : Answer) → deeds H p ≡ deeds E p → wants kinds net M p ≡ Some a → IsDeed kinds net K p a.act d
        → ((c : ℕ) → IsBlocked kinds net M p c → capacity K c ≤ capacity M c) → IsPossible kinds net M p a.act
    possible_too p Stopped a same w is room = subst (λ x. IsPossible kinds net M p x) (sym (stopped_stop kinds net K p a.act is)) tt
    possible_too p (Took c t) a same w is room =
        let r = took_read kinds net K p c t a.act is in
        subst (λ x. IsPossible kinds net M p x) (sym r.1) (c, r.2, tokens_left p c t r.3.0 same (in_of-reader net p r.0 c r.2).1 r.3.1)
    possible_too p (Put c t) a same w is room =
        let r = put_write kinds net K p c t a.act is in
        let fewer = fewer_tokens p c same (out_of-writer net p r.0 c r.2).1 in
        let below : length (tokens M c) < capacity M c =
        ⊎_elim (λ h. h)
        (λ (full : capacity M c ≤ length (tokens M c)).
        let more = room c (record { answer = a; wanted = w; port = r.0; token = t; act = r.1; at = r.2; full = full }) in
        let free = r.3 in
        omega arith)
        (cases_lt (length (tokens M c)) (capacity M c)) in
        subst (λ x. IsPossible kinds net M p x) (sym r.1) (c, r.2, below)

    -- so a process that could go on in K, and had done there all that it does in M, can go on in M
    pub enabled_too :
        (p : ℕ) (d : Deed) (L : State) → deeds H p ≡ deeds E p → Does kinds net K p d L
        → ((c : ℕ) → IsBlocked kinds net M p c → capacity K c ≤ capacity M c) → IsEnabled kinds net M p
    enabled_too p d L same s room =
        let w = same_wants p same ∙ s.wanted in
        record { answer = s.answer; wanted = w; possible = possible_too p d s.answer same w s.is_deed room }

  -- a run of which G holds does nothing that a run to a quiet state has not done, if G says that each channel with a blocked
  -- writer there has no more room in the other
  pub dominated :
      (G : List Entry → Type 0) → ((H : List Entry) (e : Entry) → G (H ++ e ∷ []) → G H) → (S S' : State) → IsFresh kinds net S → IsFresh kinds net S'
      → (E : List Entry) (M : State) → Run kinds net S E M → IsQuiet kinds net M
      → ((H : List Entry) (K : State) (p c : ℕ) → Run kinds net S' H K → G H → IsBlocked kinds net M p c → capacity K c ≤ capacity M c)
      → (F : List Entry) (N : State) → Run kinds net S' F N → G F → (p : ℕ) → IsPrefixOf (deeds F p) (deeds E p)
  dominated G down S S' fresh fresh' E M run quiet room =
      let k = kept_run kinds net S fresh E M run in
      run_induction kinds net (λ H _. G H → (q : ℕ) → IsPrefixOf (deeds H q) (deeds E q)) S' (λ g q. (deeds E q, refl))
      (λ H K e L before ih s g. let h = down H e g in step k H K e L (kept_run kinds net S' fresh' H K before) (λ p c b. room H K p c before h b) (ih h) s)
    where
      step :
          Kept kinds net S E M → (H : List Entry) (K : State) (e : Entry) (L : State) → Kept kinds net S' H K
          → ((p c : ℕ) → IsBlocked kinds net M p c → capacity K c ≤ capacity M c) → ((q : ℕ) → IsPrefixOf (deeds H q) (deeds E q))
          → Transition kinds net K e L → (q : ℕ) → IsPrefixOf (deeds (H ++ e ∷ []) q) (deeds E q)
      step k H K (Grew c to) L j rm ih s q = subst (λ l. IsPrefixOf l (deeds E q)) (sym (deeds_push_grew H c to q)) (ih q)
      step k H K (Did p d) L j rm ih s q =
          let now = deed_follows kinds net S' H K j p d s.answer s.wanted s.is_deed in
          at_deeds_push kinds net (λ x l. IsPrefixOf l (deeds E x)) H p d
          (⊎_elim
          (λ (same : deeds H p ≡ deeds E p). absurd (quiet p (enabled_too S S' E M k H K j ih p d L same s (λ c b. rm p c b))))
          (λ (m : (e : Deed) × ((rest : List Deed) × (deeds E p ≡ deeds H p ++ e ∷ rest))).
          prefix_to_push (deeds H p) (deeds E p) m.1.0 m.0 d m.1.1
          (follows_same kinds net (deeds H) (deeds E) p (deeds H p) d m.0 (λ x. inl (ih x)) now (k.follows p (deeds H p) m.0 m.1.0 m.1.1)))
          (prefix_cases (deeds H p) (deeds E p) (ih p)))
          ih q

  -- if the growths with one more entry are a prefix of those of E, so are the growths without it
  pub growths_down : (E H : List Entry) (e : Entry) → IsPrefixOf (growths (H ++ e ∷ [])) (growths E) → IsPrefixOf (growths H) (growths E)
  growths_down E H (Did p d) f = subst (λ g. IsPrefixOf g (growths E)) (growths_push_did H p d) f
  growths_down E H (Grew c to) f = prefix_trans _ _ _ (prefix_of_push (growths H) (c, to)) (subst (λ g. IsPrefixOf g (growths E)) (growths_push_grew H c to) f)

  -- a run whose growths are a prefix of those of a run to a quiet state does no more than that run
  pub dominated_by_growths :
      (S : State) → IsFresh kinds net S → (E : List Entry) (M : State) → Run kinds net S E M → IsQuiet kinds net M → (F : List Entry) (N : State)
      → Run kinds net S F N → IsPrefixOf (growths F) (growths E) → (p : ℕ) → IsPrefixOf (deeds F p) (deeds E p)
  dominated_by_growths S fresh E M run quiet =
      dominated (λ H. IsPrefixOf (growths H) (growths E)) (growths_down E) S S fresh fresh E M run quiet
      (λ H K p c before f b.
      let now = (kept_run kinds net S fresh H K before).capacities c in
      let later = (kept_run kinds net S fresh E M run).rising (growths H) f c in
      omega arith)
