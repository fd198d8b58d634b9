-- What a process does alone, for streams that runs reach, it does in some run; so the limit of the streams of all runs is the
-- least solution of the network's equations.
use Rattle.std.proofs.Common.{◌≡◌, List, [], ◌∷◌, ◌++◌, length, refl, sym, ap, ◌∙◌, arith, ℕ, ◌+◌, Option, Some, None, slice_get, subst}
use Rattle.kpn_model.specs.declared.token.Token.{Token}
use Rattle.kpn_model.specs.declared.history.Deed.{Deed}
use Rattle.kpn_model.specs.declared.history.Deed.TheVariants.{Took, Put, Stopped}
use Rattle.kpn_model.specs.declared.history.Entry.{Entry}
use Rattle.kpn_model.specs.History.{deeds, stream}
use Rattle.kpn_model.specs.Network.{Network, channel_of, Family, resized}
use Rattle.kpn_model.specs.Semantics.{State, tokens, start, Run}
use Rattle.kpn_laws.specs.Alone.{Streams, BeginsWith, took, DoesAlone}
use Rattle.kpn_laws.specs.Equations.{written, IsLeastSolution, IsReached, IsDoneByRun, IsLimit, AllIsReached, LimitIsLeastSolution, TwoHaveCommonRun, OneLeastSolution}
use Rattle.kpn_laws.proofs.Lists.{prefix_trans}
use Rattle.kpn_laws.proofs.Sequences.{begins_get, get_begins, get_prefix, by_first_parts}
use Rattle.kpn_laws.proofs.Alone.{FollowsAlone, alone_follows, alone_to_run}
use Rattle.kpn_laws.proofs.Solutions.{written_stream, written_prefix, below_here, own_alone, taken_alone}
use Rattle.kpn_laws.proofs.Together.{roomy_sizes, roomy_start, advance, together, run_back}
use Rattle.kpn_laws.proofs.Kept.{IsFresh}
use Rattle.kpn_laws.proofs.KeptByRuns.{kept_run}
use Rattle.kpn_laws.proofs.Resized.{fresh_resized, run_resized}

module _ (kinds : Family) (net : Network) where
  -- if p has done these deeds in one run, and the token that it takes next alone is in another, then in a third it does that, too
  one_more :
      (T : Streams) (p : ℕ) (es : List Deed) (d : Deed) → FollowsAlone kinds net T p es d → (x : IsDoneByRun kinds net p es)
      → (S' : State) → IsFresh kinds net S' → (F : List Entry) (N : State) → Run kinds net S' F N
      → ((c : ℕ) (t : Token) → d ≡ Took c t → slice_get (written net c (deeds F (channel_of net c).writer)) (length (took es c)) ≡ Some t)
      → IsDoneByRun kinds net p (es ++ d ∷ [])
  one_more T p es d f x S' fresh' F N run' there =
      let S = start kinds (resized net x.sizes) in
      let run = run_resized kinds net x.sizes x.history x.state x.run in
      let n = length x.history + length F + 1 in
      let R = start kinds (resized net (roomy_sizes kinds net n)) in
      let fresh = fresh_resized kinds net (roomy_sizes kinds net n) in
      let a = together kinds net S S' (fresh_resized kinds net x.sizes) fresh' x.history F x.state N run run' in
      let few = a.few in
      let k = kept_run kinds net R fresh a.history a.state a.run in
      let front = prefix_trans es (deeds x.history p) (deeds a.history p) x.done (a.first p) in
      let now = alone_to_run kinds net (deeds a.history) (λ c. tokens a.state c) k.fifo T p es d front
      (λ c t e. let w = (channel_of net c).writer in get_prefix _ _ (length (took es c)) t (written_prefix kinds net c (deeds F w) (deeds a.history w) (a.second w)) (there c t e)) f in
      let b = advance kinds net R fresh n (roomy_start kinds net n) a.history a.state a.run (omega arith) p es d front now in
      record { sizes = roomy_sizes kinds net n; history = b.history; state = b.state; run = run_back kinds net (roomy_sizes kinds net n) b.history b.state b.run; done = b.done }

  -- what p does alone it does in a run
  all_reached_here :
      (T : Streams) → ((c n : ℕ) (t : Token) → T c n ≡ Some t → IsReached kinds net c n t) → (p : ℕ) (ds : List Deed) → DoesAlone kinds net T p ds
      → IsDoneByRun kinds net p ds
  all_reached_here T reach p ds g =
      by_first_parts (λ l. IsDoneByRun kinds net p l) ds
      (record { sizes = λ c. 0; history = []; state = start kinds (resized net (λ c. 0)); run = refl; done = ([], refl) })
      (λ es d rest e x. step es d (alone_follows kinds net T p ds g es d rest e) x)
    where
      step : (es : List Deed) (d : Deed) → FollowsAlone kinds net T p es d → IsDoneByRun kinds net p es → IsDoneByRun kinds net p (es ++ d ∷ [])
      step es (Took c t) f x =
          let y = reach c (length (took es c)) t (taken_alone kinds net T p es (Took c t) f c t refl) in
          let S' = start kinds (resized net y.sizes) in
          let run' = run_resized kinds net y.sizes y.history y.state y.run in
          one_more T p es (Took c t) f x S' (fresh_resized kinds net y.sizes) y.history y.state run'
          (λ b u e.
          let cb : c ≡ b = cc in
          let tu : t ≡ u = cc in
          subst (λ z. slice_get (written net z (deeds y.history (channel_of net z).writer)) (length (took es z)) ≡ Some u) cb
          (ap (λ l. slice_get l (length (took es c))) (written_stream kinds net S' y.history y.state run' c) ∙ y.at ∙ ap (λ v. Some v) tu))
      step es (Put c t) f x =
          one_more T p es (Put c t) f x (start kinds (resized net x.sizes)) (fresh_resized kinds net x.sizes) x.history x.state (run_resized kinds net x.sizes x.history x.state x.run) (λ b u e. cc)
      step es Stopped f x =
          one_more T p es Stopped f x (start kinds (resized net x.sizes)) (fresh_resized kinds net x.sizes) x.history x.state (run_resized kinds net x.sizes x.history x.state x.run) (λ b u e. cc)

  -- the limit of the streams of all runs is the least solution
  limit_is_least_here : (T : Streams) → IsLimit kinds net T → IsLeastSolution kinds net T
  limit_is_least_here T limit =
      record {
        solution = record {
          obeys = λ c ds g.
              let w = (channel_of net c).writer in
              let x = all_reached_here T (λ b n t e. (limit b n t).0 e) w ds g in
              let S = start kinds (resized net x.sizes) in
              let run = run_resized kinds net x.sizes x.history x.state x.run in
              get_begins (T c) (written net c ds)
              (λ n t e. (limit c n t).1 (record {
                sizes = x.sizes;
                history = x.history;
                state = x.state;
                run = x.run;
                at = ap (λ l. slice_get l n) (sym (written_stream kinds net S x.history x.state run c)) ∙ get_prefix _ _ n t (written_prefix kinds net c ds (deeds x.history w) x.done) e;
              }));
          no_more = λ c n t e.
              let w = (channel_of net c).writer in
              let x = (limit c n t).0 e in
              let S = start kinds (resized net x.sizes) in
              let run = run_resized kinds net x.sizes x.history x.state x.run in
              let same = written_stream kinds net S x.history x.state run in
              let begins : (b : ℕ) → BeginsWith (T b) (written net b (deeds x.history (channel_of net b).writer)) = λ b. get_begins (T b) _ (λ m u h. (limit b m u).1 (record { sizes = x.sizes; history = x.history; state = x.state; run = x.run; at = ap (λ l. slice_get l m) (sym (same b)) ∙ h })) in
              (deeds x.history w, own_alone kinds net S x.history x.state (kept_run kinds net S (fresh_resized kinds net x.sizes) x.history x.state run) T begins w, ap (λ l. slice_get l n) (same c) ∙ x.at);
        };
        least = λ U obeys c n t e.
            let x = (limit c n t).0 e in
            let S = start kinds (resized net x.sizes) in
            let run = run_resized kinds net x.sizes x.history x.state x.run in
            begins_get (U c) (stream net x.history c) n t (below_here kinds net U obeys S (fresh_resized kinds net x.sizes) x.history x.state run c) x.at;
      }

-- so it is for every network
pub all_is_reached : (kinds : Family) → AllIsReached kinds
all_is_reached kinds net T reach p ds g = all_reached_here kinds net T reach p ds g

pub limit_is_least : (kinds : Family) → LimitIsLeastSolution kinds
limit_is_least kinds net T limit = limit_is_least_here kinds net T limit

-- two runs have a common run
pub common_run : (kinds : Family) → TwoHaveCommonRun kinds
common_run kinds net sizes others E F M N run run' =
    let S = start kinds (resized net sizes) in
    let S' = start kinds (resized net others) in
    let a = together kinds net S S' (fresh_resized kinds net sizes) (fresh_resized kinds net others) E F M N (run_resized kinds net sizes E M run) (run_resized kinds net others F N run') in
    let n = length E + length F + 1 in
    record { sizes = roomy_sizes kinds net n; history = a.history; state = a.state; run = run_back kinds net (roomy_sizes kinds net n) a.history a.state a.run; first = a.first; second = a.second }

-- two options that have the same, if they have something
pub same_option : (a b : Option Token) → ((t : Token) → a ≡ Some t → b ≡ Some t) → ((t : Token) → b ≡ Some t → a ≡ Some t) → a ≡ b
same_option None None f g = refl
same_option None (Some t) f g = g t refl
same_option (Some t) b f g = sym (f t refl)

-- the least solution is in every solution, so there is but one
pub one_least : (kinds : Family) → OneLeastSolution kinds
one_least kinds net T U x y c n = same_option (T c n) (U c n) (λ t e. x.least U y.solution.obeys c n t e) (λ t e. y.least T x.solution.obeys c n t e)
