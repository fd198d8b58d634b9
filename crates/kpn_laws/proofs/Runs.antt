-- Runs: one more step, a run split in two, and invariants of the steps.
use Rattle.std.proofs.Common.{◌≡◌, List, [], ◌∷◌, ◌++◌, refl, sym, ap, ◌∙◌, append_assoc, append-nil, Some, subst}
use Rattle.kpn_model.specs.declared.history.Entry.{Entry}
use Rattle.kpn_model.specs.declared.history.Entry.TheVariants.{Did, Grew}
use Rattle.kpn_model.specs.Network.{Network, Family}
use Rattle.kpn_model.specs.Semantics.{State, after_deed, Transition, Run}
use Rattle.kpn_model.specs.declared.kinds.Answer.{Answer}

module _ (kinds : Family) (net : Network) where
  -- a run with one more step
  pub run_push : (S M N : State) (E : List Entry) (e : Entry) → Run kinds net S E M → Transition kinds net M e N → Run kinds net S (E ++ e ∷ []) N
  run_push S M N [] e r s = (N, subst (λ x. Transition kinds net x e N) r s, refl)
  run_push S M N (f ∷ E) e r s = (r.0, r.1, run_push r.0 M N E e r.2 s)

  -- an invariant of the steps holds after further steps
  run_on :
      (P : List Entry → State → Type 0) (S : State)
      → ((H : List Entry) (M : State) (e : Entry) (N : State) → Run kinds net S H M → P H M → Transition kinds net M e N → P (H ++ e ∷ []) N)
      → (H E : List Entry) (M N : State) → Run kinds net S H M → P H M → Run kinds net M E N → P (H ++ E) N
  run_on P S step H [] M N before p r = subst (λ x. P (H ++ []) x) (sym r) (subst (λ l. P l M) (sym (append-nil H)) p)
  run_on P S step H (e ∷ E) M N before p r =
      subst (λ l. P l N) (append_assoc H (e ∷ []) E)
      (run_on P S step (H ++ e ∷ []) E r.0 N (run_push S M r.0 H e before r.1) (step H M e r.0 before p r.1) r.2)

  -- what holds at the start and is kept by each step holds after each run
  pub run_induction :
      (P : List Entry → State → Type 0) (S : State) → P [] S
      → ((H : List Entry) (M : State) (e : Entry) (N : State) → Run kinds net S H M → P H M → Transition kinds net M e N → P (H ++ e ∷ []) N)
      → (E : List Entry) (N : State) → Run kinds net S E N → P E N
  run_induction P S first step E N r = run_on P S step [] E S N refl first r

  -- an entry leads to one state
  step_one : (M : State) (e : Entry) (N N' : State) → Transition kinds net M e N → Transition kinds net M e N' → N ≡ N'
  step_one M (Did p d) N N' s t =
      let a : s.answer ≡ t.answer = same_answer s.answer t.answer (sym s.wanted ∙ t.wanted) in
      s.leaves ∙ ap (λ (x : Answer). after_deed kinds net M p x.next d) a ∙ sym t.leaves
    where
      same_answer : (x y : Answer) → Some x ≡ Some y → x ≡ y
      same_answer x y e = cc
  step_one M (Grew c to) N N' s t = s.leaves ∙ sym t.leaves

  -- and so does a history
  pub run_one : (E : List Entry) (S M N : State) → Run kinds net S E M → Run kinds net S E N → M ≡ N
  run_one [] S M N r q = r ∙ sym q
  run_one (e ∷ E) S M N r q =
      let same = step_one S e r.0 q.0 r.1 q.1 in
      run_one E q.0 M N (subst (λ x. Run kinds net x E M) same r.2) q.2

  -- a run is a run of its prefix and then one of the rest
  pub run_split : (E F : List Entry) (S N : State) → Run kinds net S (E ++ F) N → (M : State) × Run kinds net S E M × Run kinds net M F N
  run_split [] F S N r = (S, refl, r)
  run_split (e ∷ E) F S N r = let q = run_split E F r.0 N r.2 in (q.0, (r.0, r.1, q.1), q.2)
