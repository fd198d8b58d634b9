-- Approximations lead to the least solution (Kleene 1952), and tokens that solve the equations are a solution.
use Rattle.std.proofs.Common.{◌≡◌, ◌≤◌, ◌<◌, ◌+◌, ⊎_elim, ℕ, zero, suc, List, [], ◌∷◌, ◌++◌, length, refl, sym, ap, ◌∙◌, subst, arith, append-nil, Some, slice_get}
use Rattle.std.proofs.lemmas.Bool.{cases_lt}
use Rattle.kpn_model.specs.declared.token.Token.{Token}
use Rattle.kpn_model.specs.declared.history.Deed.{Deed}
use Rattle.kpn_model.specs.declared.history.Deed.TheVariants.{Took, Put, Stopped}
use Rattle.kpn_model.specs.Network.{Family, Network, channel_of}
use Rattle.kpn_model.specs.History.{IsPrefixOf}
use Rattle.kpn_laws.specs.Alone.{Streams, BeginsWith, took, IsDeedAlone, DoesAlone}
use Rattle.kpn_laws.specs.Equations.{written, Obeys}
use Rattle.kpn_laws.proofs.Lists.{prefix_trans}
use Rattle.kpn_laws.proofs.Sequences.{begins_get, get_begins, get_prefix, by_first_parts}
use Rattle.kpn_laws.proofs.Alone.{FollowsAlone, alone_follows, alone_push, alone_took, alone_put, alone_stopped}
use Rattle.kpn_laws.proofs.Continuity.{is_continuous}
use Rattle.kpn_streams.specs.Solving.{as_streams, Approximates, IsLimitOf, ApproximationsAreBelow, ApproximationsGrow, LimitIsLeast, SolvedIsSolution}
use Rattle.kpn_streams.proofs.SolvingEquations.{equation_written, equation_bounds, equation_rises, step_is_below, written_past, begins_as_streams}

-- the streams of each pre-fixed point begin with each approximation
pub approximations_are_below : (kinds : Family) → ApproximationsAreBelow kinds
approximations_are_below kinds net A U a obeys zero c = subst (λ l. BeginsWith (U c) l) (sym (a.begins c)) tt
approximations_are_below kinds net A U a obeys (suc n) c =
    ⊎_elim
    (λ (within : c < length net.channels). step_is_below kinds net (A n) U c (A (suc n) c) obeys (λ b. approximations_are_below kinds net A U a obeys n b) (a.next n c within))
    (λ (past : length net.channels ≤ c). subst (λ l. BeginsWith (U c) l) (sym (a.beyond (suc n) c past)) tt)
    (cases_lt c (length net.channels))

-- each approximation begins with the one before
pub approximations_grow : (kinds : Family) → ApproximationsGrow kinds
approximations_grow kinds net A a zero c = (A 1 c, ap (λ l. l ++ A 1 c) (a.begins c))
approximations_grow kinds net A a (suc n) c =
    ⊎_elim
    (λ (within : c < length net.channels).
    equation_rises kinds net (A n) (A (suc n)) c (A (suc n) c) (A (suc (suc n)) c) (λ b. approximations_grow kinds net A a n b) (a.next n c within) (a.next (suc n) c within))
    (λ (past : length net.channels ≤ c). (A (suc (suc n)) c, ap (λ l. l ++ A (suc (suc n)) c) (a.beyond (suc n) c past)))
    (cases_lt c (length net.channels))

module _ (kinds : Family) (net : Network) (A : ℕ → ℕ → List Token) (a : Approximates kinds net A) where
  -- and with each one before
  grows_to : (c n m k : ℕ) → k ≡ n + m → IsPrefixOf (A n c) (A k c)
  grows_to c n zero k e = let same : n ≡ k = omega arith in ([], append-nil (A n c) ∙ ap (λ x. A x c) same)
  grows_to c n (suc m) k e =
      let same : suc (n + m) ≡ k = omega arith in
      subst (λ x. IsPrefixOf (A n c) (A x c)) same
      (prefix_trans (A n c) (A (n + m) c) (A (suc (n + m)) c) (grows_to c n m (n + m) refl) (approximations_grow kinds net A a (n + m) c))

  -- some approximation has the streams for which p alone does these deeds
  abbrev DoesAtSome : ℕ → List Deed → Type 0
  DoesAtSome p ds = (n : ℕ) × DoesAlone kinds net (as_streams (A n)) p ds

  -- what p does for one approximation it does for a later one
  pub does_later : (p : ℕ) (ds : List Deed) (n m : ℕ) → DoesAlone kinds net (as_streams (A n)) p ds → DoesAlone kinds net (as_streams (A (n + m))) p ds
  does_later p ds n m g =
      let x = is_continuous kinds net (as_streams (A n)) p ds g in
      x.1 (as_streams (A (n + m)))
      (λ c. get_begins (as_streams (A (n + m)) c) (took ds c)
      (λ i t e. get_prefix (A n c) (A (n + m) c) i t (grows_to c n m (n + m) refl) (begins_get (as_streams (A n) c) (took ds c) i t (x.0 c) e)))

  -- what p does for the limit it does for some approximation
  does_at_some : (T : Streams) → IsLimitOf A T → (p : ℕ) (ds : List Deed) → DoesAlone kinds net T p ds → DoesAtSome p ds
  does_at_some T limit p ds g = by_first_parts (λ l. DoesAtSome p l) ds (0, tt) (λ es d rest e x. one_more es d (alone_follows kinds net T p ds g es d rest e) x)
    where
      one_more : (es : List Deed) (d : Deed) → FollowsAlone kinds net T p es d → DoesAtSome p es → DoesAtSome p (es ++ d ∷ [])
      one_more es (Took c t) f x =
          let r = alone_took kinds net T p es c t f.answer.act f.is_deed in
          let y = (limit c (length (took es c)) t).0 r.3 in
          let U = as_streams (A (x.0 + y.0)) in
          let turned : y.0 + x.0 ≡ x.0 + y.0 = omega arith in
          let at : U c (length (took es c)) ≡ Some t = get_prefix (A y.0 c) (A (x.0 + y.0) c) (length (took es c)) t (subst (λ n. IsPrefixOf (A y.0 c) (A n c)) turned (grows_to c y.0 x.0 (y.0 + x.0) refl)) y.1 in
          let follows : FollowsAlone kinds net U p es (Took c t) = record { answer = f.answer; wanted = f.wanted; is_deed = subst (λ z. IsDeedAlone kinds net U p es z (Took c t)) (sym r.1) (r.2, at) } in
          (x.0 + y.0, alone_push kinds net U p es (Took c t) (does_later p es x.0 y.0 x.1) follows)
      one_more es (Put c t) f x =
          let r = alone_put kinds net T p es c t f.answer.act f.is_deed in
          let U = as_streams (A x.0) in
          let follows : FollowsAlone kinds net U p es (Put c t) = record { answer = f.answer; wanted = f.wanted; is_deed = subst (λ z. IsDeedAlone kinds net U p es z (Put c t)) (sym r.1) (r.2, refl) } in
          (x.0, alone_push kinds net U p es (Put c t) x.1 follows)
      one_more es Stopped f x =
          let r = alone_stopped kinds net T p es f.answer.act f.is_deed in
          let U = as_streams (A x.0) in
          let follows : FollowsAlone kinds net U p es Stopped = record { answer = f.answer; wanted = f.wanted; is_deed = subst (λ z. IsDeedAlone kinds net U p es z Stopped) (sym r) tt } in
          (x.0, alone_push kinds net U p es Stopped x.1 follows)

  -- so the limit obeys the equations
  limit_obeys : (T : Streams) → IsLimitOf A T → Obeys kinds net T
  limit_obeys T limit c ds g =
      ⊎_elim
      (λ (within : c < length net.channels).
      let x = does_at_some T limit (channel_of net c).writer ds g in
      let front = equation_bounds kinds net (A x.0) (as_streams (A x.0)) c (A (suc x.0) c) (λ b n t h. h) (a.next x.0 c within) ds x.1 in
      get_begins (T c) (written net c ds) (λ n t e. (limit c n t).1 (suc x.0, get_prefix (written net c ds) (A (suc x.0) c) n t front e)))
      (λ (past : length net.channels ≤ c). subst (λ l. BeginsWith (T c) l) (sym (written_past kinds net T c past ds g)) tt)
      (cases_lt c (length net.channels))

  -- and has no more
  limit_has_no_more :
      (T : Streams) → IsLimitOf A T → (c k : ℕ) (t : Token) (n : ℕ) → slice_get (A n c) k ≡ Some t
      → (ds : List Deed) × DoesAlone kinds net T (channel_of net c).writer ds × (slice_get (written net c ds) k ≡ Some t)
  limit_has_no_more T limit c k t zero h = let none : slice_get [] k ≡ Some t = ap (λ l. slice_get l k) (sym (a.begins c)) ∙ h in absurd cc
  limit_has_no_more T limit c k t (suc n) h =
      ⊎_elim
      (λ (within : c < length net.channels).
      let r = equation_written kinds net (A n) T c (A (suc n) c) (λ k b at. get_begins (T b) (A n b) (λ i u e. (limit b i u).1 (n, e))) (a.next n c within) in
      (r.0, r.1, ap (λ l. slice_get l k) r.2 ∙ h))
      (λ (past : length net.channels ≤ c). let none : slice_get [] k ≡ Some t = ap (λ l. slice_get l k) (sym (a.beyond (suc n) c past)) ∙ h in absurd cc)
      (cases_lt c (length net.channels))

-- the limit is the least solution
pub limit_is_least : (kinds : Family) → LimitIsLeast kinds
limit_is_least kinds net A T a limit =
    record {
      solution = record {
        obeys = limit_obeys kinds net A a T limit;
        no_more = λ c k t e. let x = (limit c k t).0 e in limit_has_no_more kinds net A a T limit c k t x.0 x.1;
      };
      least = λ U obeys c k t e. let x = (limit c k t).0 e in begins_get (U c) (A x.0 c) k t (approximations_are_below kinds net A U a obeys x.0 c) x.1;
    }

-- tokens that solve the equations are a solution
pub solved_is_solution : (kinds : Family) → SolvedIsSolution kinds
solved_is_solution kinds net X s = record { obeys = obeys; no_more = no_more }
  where
    obeys : Obeys kinds net (as_streams X)
    obeys c ds g =
        ⊎_elim
        (λ (within : c < length net.channels).
        begins_as_streams X c (written net c ds) (equation_bounds kinds net X (as_streams X) c (X c) (λ b n t h. h) (s.equations c within) ds g))
        (λ (past : length net.channels ≤ c). subst (λ l. BeginsWith (as_streams X c) l) (sym (written_past kinds net (as_streams X) c past ds g)) tt)
        (cases_lt c (length net.channels))

    no_more : (c k : ℕ) (t : Token) → as_streams X c k ≡ Some t → (ds : List Deed) × DoesAlone kinds net (as_streams X) (channel_of net c).writer ds × (slice_get (written net c ds) k ≡ Some t)
    no_more c k t h =
        ⊎_elim
        (λ (within : c < length net.channels).
        let r = equation_written kinds net X (as_streams X) c (X c) (λ k b at. begins_as_streams X b (X b) ([], append-nil (X b))) (s.equations c within) in
        (r.0, r.1, ap (λ l. slice_get l k) r.2 ∙ h))
        (λ (past : length net.channels ≤ c). let none : slice_get [] k ≡ Some t = ap (λ l. slice_get l k) (sym (s.beyond c past)) ∙ h in absurd cc)
        (cases_lt c (length net.channels))
