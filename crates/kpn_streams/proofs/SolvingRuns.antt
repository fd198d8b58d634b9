-- The streams of runs, where approximations or the least solution are known.
use Rattle.std.proofs.Common.{◌≡◌, ◌≤◌, ◌<◌, ◌+◌, ⊎_elim, List, [], ◌∷◌, ◌++◌, ℕ, zero, suc, length, refl, sym, ap, ◌∙◌, subst, arith, append-nil, slice_get}
use Rattle.std.proofs.lemmas.Bool.{cases_lt, cases_eq}
use Rattle.std.proofs.lemmas.Option.{same_Some}
use Rattle.kpn_model.specs.declared.token.Token.{Token}
use Rattle.kpn_model.specs.declared.history.Deed.{Deed}
use Rattle.kpn_model.specs.declared.history.Entry.{Entry}
use Rattle.kpn_model.specs.declared.history.Entry.TheVariants.{Did, Grew}
use Rattle.kpn_model.specs.Network.{Family, Network, channel_of, resized}
use Rattle.kpn_model.specs.Semantics.{State, start, Transition, Run}
use Rattle.kpn_model.specs.History.{deeds, stream, IsPrefixOf}
use Rattle.kpn_laws.specs.Alone.{Streams, BeginsWith, DoesAlone}
use Rattle.kpn_laws.specs.Equations.{written, streams_of, Obeys, IsLeastSolution}
use Rattle.kpn_laws.proofs.Views.{deeds_push_grew}
use Rattle.kpn_laws.proofs.States.{in_of-reader}
use Rattle.kpn_laws.proofs.Sequences.{begins_get, get_prefix}
use Rattle.kpn_laws.proofs.Alone.{alone_push, run_to_alone}
use Rattle.kpn_laws.proofs.Runs.{run_induction}
use Rattle.kpn_laws.proofs.Kept.{IsFresh, Kept}
use Rattle.kpn_laws.proofs.KeptByDeeds.{deed_follows}
use Rattle.kpn_laws.proofs.KeptByRuns.{kept_run}
use Rattle.kpn_laws.proofs.Comparable.{at_deeds_push}
use Rattle.kpn_laws.proofs.Resized.{fresh_resized, run_resized}
use Rattle.kpn_laws.proofs.Solutions.{written_stream, streams_below, end_is_least_from_any}
use Rattle.kpn_laws.proofs.Limits.{one_least, same_option}
use Rattle.kpn_streams.specs.Solving.{as_streams, HasEquation, Approximates, HasStreams, RunIsApproximated, FixedIsComputed, SolutionSolves, SolvedIsComputed, OrderedIsComputed}
use Rattle.kpn_streams.proofs.SolvingEquations.{equation_written, equation_bounds, written_past, begins_as_streams}
use Rattle.kpn_streams.proofs.SolvingLimits.{approximations_are_below, does_later, solved_is_solution}

-- two lists with the same token at each place are one
same_tokens : (xs ys : List Token) → ((n : ℕ) → slice_get xs n ≡ slice_get ys n) → xs ≡ ys
same_tokens [] [] h = refl
same_tokens [] (y ∷ ys) h = let e = h 0 in absurd cc
same_tokens (x ∷ xs) [] h = let e = h 0 in absurd cc
same_tokens (x ∷ xs) (y ∷ ys) h =
    let first : x ≡ y = same_Some x y (h 0) in
    ap (λ l. x ∷ l) (same_tokens xs ys (λ n. h (suc n))) ∙ ap (λ t. t ∷ ys) first

-- the tokens of a solution solve the equations
pub solution_solves : (kinds : Family) → SolutionSolves kinds
solution_solves kinds net X c ts s e =
    let r = equation_written kinds net X (as_streams X) c ts (λ k b at. begins_as_streams X b (X b) ([], append-nil (X b))) e in
    let begins : BeginsWith (as_streams X c) ts = subst (λ l. BeginsWith (as_streams X c) l) r.2 (s.obeys c r.0 r.1) in
    same_tokens (X c) ts
    (λ n. same_option (slice_get (X c) n) (slice_get ts n)
    (λ t h.
    let m = s.no_more c n t h in
    get_prefix (written net c m.0) ts n t (equation_bounds kinds net X (as_streams X) c ts (λ b i u q. q) e m.0 m.1) m.2)
    (λ t h. begins_get (as_streams X c) ts n t begins h))

-- a list whose stream begins with another one begins with it
prefix_from_begins : (xs ys : List Token) → BeginsWith (λ n. slice_get ys n) xs → IsPrefixOf xs ys
prefix_from_begins [] ys b = (ys, refl)
prefix_from_begins (x ∷ xs) [] b = let e = b.0 in absurd cc
prefix_from_begins (x ∷ xs) (y ∷ ys) b =
    let r = prefix_from_begins xs ys b.1 in
    let first : y ≡ x = same_Some y x b.0 in
    (r.0, ap (λ l. x ∷ l) r.1 ∙ ap (λ t. t ∷ ys) (sym first))

module _ (kinds : Family) (net : Network) (A : ℕ → ℕ → List Token) (a : Approximates kinds net A) where
  -- what each process does for an approximation, the next one has of it what it writes
  approximation_has :
      (n : ℕ) (D : ℕ → List Deed) → ((p : ℕ) → DoesAlone kinds net (as_streams (A n)) p (D p)) → (c : ℕ)
      → IsPrefixOf (written net c (D (channel_of net c).writer)) (A (suc n) c)
  approximation_has n D does c =
      let w = (channel_of net c).writer in
      ⊎_elim
      (λ (within : c < length net.channels). equation_bounds kinds net (A n) (as_streams (A n)) c (A (suc n) c) (λ b i t h. h) (a.next n c within) (D w) (does w))
      (λ (past : length net.channels ≤ c). (A (suc n) c, ap (λ l. l ++ A (suc n) c) (written_past kinds net (as_streams (A n)) c past (D w) (does w))))
      (cases_lt c (length net.channels))

  -- in some approximation each process does alone what it does in the run
  run_at_some :
      (S : State) → IsFresh kinds net S → (E : List Entry) (M : State) → Run kinds net S E M → (n : ℕ) × ((p : ℕ) → DoesAlone kinds net (as_streams (A n)) p (deeds E p))
  run_at_some S fresh =
      run_induction kinds net (λ H _. (n : ℕ) × ((p : ℕ) → DoesAlone kinds net (as_streams (A n)) p (deeds H p))) S (0, λ p. tt)
      (λ H M e N run ih s. step H M e N (kept_run kinds net S fresh H M run) ih s)
    where
      step :
          (H : List Entry) (M : State) (e : Entry) (N : State) → Kept kinds net S H M → (n : ℕ) × ((p : ℕ) → DoesAlone kinds net (as_streams (A n)) p (deeds H p))
          → Transition kinds net M e N → (n : ℕ) × ((p : ℕ) → DoesAlone kinds net (as_streams (A n)) p (deeds (H ++ e ∷ []) p))
      step H M (Grew c to) N k ih s = (ih.0, λ q. subst (λ l. DoesAlone kinds net (as_streams (A ih.0)) q l) (sym (deeds_push_grew H c to q)) (ih.1 q))
      step H M (Did p d) N k ih s =
          let n = ih.0 in
          let U = as_streams (A (suc n)) in
          let one : n + 1 ≡ suc n = omega arith in
          let later : (q : ℕ) → DoesAlone kinds net U q (deeds H q) =
          λ q. subst (λ m. DoesAlone kinds net (as_streams (A m)) q (deeds H q)) one (does_later kinds net A a q (deeds H q) n 1 (ih.1 q)) in
          let now = deed_follows kinds net S H M k p d s.answer s.wanted s.is_deed in
          let alone = run_to_alone kinds net (deeds H) U p (deeds H p) d (λ c. begins_as_streams (A (suc n)) c (written net c (deeds H (channel_of net c).writer)) (approximation_has n (deeds H) ih.1 c)) now in
          (suc n, at_deeds_push kinds net (λ x l. DoesAlone kinds net U x l) H p d (alone_push kinds net U p (deeds H p) d (later p) alone) later)

-- some approximation begins with the streams of the run
pub run_is_approximated : (kinds : Family) → RunIsApproximated kinds
run_is_approximated kinds net A sizes E M a run =
    let S = start kinds (resized net sizes) in
    let run' = run_resized kinds net sizes E M run in
    let x = run_at_some kinds net A a S (fresh_resized kinds net sizes) E M run' in
    (suc x.0, λ c. subst (λ l. IsPrefixOf l (A (suc x.0) c)) (written_stream kinds net S E M run' c) (approximation_has kinds net A a x.0 (deeds E) x.1 c))

-- the least solution is what the network computes
pub has_streams : (kinds : Family) (net : Network) (X : ℕ → List Token) → IsLeastSolution kinds net (as_streams X) → HasStreams kinds net X
has_streams kinds net X least =
    record {
      least = least;
      at_end = λ sizes E M a final natural c.
          same_tokens (stream net E c) (X c)
          (λ n. one_least kinds net (streams_of net E) (as_streams X) (end_is_least_from_any kinds net sizes E M a final natural) least c n);
      in_run = λ sizes E M run c. prefix_from_begins (stream net E c) (X c) (streams_below kinds net sizes E M (as_streams X) run least.solution.obeys c);
    }

-- tokens that solve the equations are, if they are below each pre-fixed point
pub solved_is_computed : (kinds : Family) → SolvedIsComputed kinds
solved_is_computed kinds net X s below =
    has_streams kinds net X
    (record { solution = solved_is_solution kinds net X s; least = λ U obeys c k t e. begins_get (U c) (X c) k t (below U obeys c) e })

-- so is an approximation that is the one before again
pub fixed_is_computed : (kinds : Family) → FixedIsComputed kinds
fixed_is_computed kinds net A n a same =
    solved_is_computed kinds net (A n)
    (record {
      equations = λ c within. subst (λ l. HasEquation kinds net (A n) c l) (same c) (a.next n c within);
      beyond = λ c past. a.beyond n c past;
    })
    (λ U obeys c. approximations_are_below kinds net A U a obeys n c)

-- and if there is no loop
pub ordered_is_computed : (kinds : Family) → OrderedIsComputed kinds
ordered_is_computed kinds net X s order = solved_is_computed kinds net X s (λ U obeys c. below U obeys (suc c) c (omega arith))
  where
    last : (U : Streams) → Obeys kinds net U → (n : ℕ) → ((b : ℕ) → b < n → BeginsWith (U b) (X b)) → BeginsWith (U n) (X n)
    last U obeys n h =
        ⊎_elim
        (λ (within : n < length net.channels).
        let r = equation_written kinds net X U n (X n)
        (λ k b at. let x = in_of-reader net (channel_of net n).writer k b at in h b (order b n x.0 within x.1)) (s.equations n within) in
        subst (λ l. BeginsWith (U n) l) r.2 (obeys n r.0 r.1))
        (λ (past : length net.channels ≤ n). subst (λ l. BeginsWith (U n) l) (sym (s.beyond n past)) tt)
        (cases_lt n (length net.channels))

    below : (U : Streams) → Obeys kinds net U → (n b : ℕ) → b < n → BeginsWith (U b) (X b)
    below U obeys zero b h = absurd (omega arith)
    below U obeys (suc n) b h =
        ⊎_elim
        (λ (e : b ≡ n). subst (λ x. BeginsWith (U x) (X x)) (sym e) (last U obeys n (λ x y. below U obeys n x y)))
        (λ (ne : b ≡ n → ⊥). below U obeys n b (omega arith))
        (cases_eq b n)
