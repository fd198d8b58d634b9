-- The streams of a run are below each pre-fixed point of the network's equations, and at its own end they are a solution.
use Rattle.std.proofs.Common.{◌≡◌, inl, ⊎_elim, List, [], ◌∷◌, ◌++◌, length, refl, sym, ap, ◌∙◌, append_assoc, append-nil, ℕ, Some, slice_get, subst}
use Rattle.kpn_model.specs.History.{IsPrefixOf, deeds, stream}
use Rattle.kpn_model.specs.declared.token.Token.{Token}
use Rattle.kpn_model.specs.declared.history.Deed.{Deed}
use Rattle.kpn_model.specs.declared.history.Deed.TheVariants.{Took}
use Rattle.kpn_model.specs.declared.history.Entry.{Entry}
use Rattle.kpn_model.specs.declared.history.Entry.TheVariants.{Did, Grew}
use Rattle.kpn_model.specs.Network.{Network, channel_of, Family, resized}
use Rattle.kpn_model.specs.Semantics.{State, tokens, start, Transition, Run, IsBlocked, IsQuiet}
use Rattle.kpn_laws.specs.Alone.{Streams, BeginsWith, puts, took, IsDeedAlone, DoesAlone}
use Rattle.kpn_laws.specs.Equations.{streams_of, written, Obeys, IsLeastSolution, StreamsAreBelow, EndIsLeastSolution, EndIsLeastFromAny}
use Rattle.kpn_laws.proofs.Lists.{prefix_cases, prefix_to_push}
use Rattle.kpn_laws.proofs.Views.{deeds_push_grew, puts_prefix}
use Rattle.kpn_laws.proofs.Sequences.{begins_get, get_begins, get_prefix, by_first_parts}
use Rattle.kpn_laws.proofs.Alone.{FollowsAlone, alone_follows, does_alone, alone_push, alone_took, run_to_alone, alone_to_run}
use Rattle.kpn_laws.proofs.NextDeed.{does_enabled, follows_does}
use Rattle.kpn_laws.proofs.Follows.{Follows, follows_same}
use Rattle.kpn_laws.proofs.Runs.{run_induction}
use Rattle.kpn_laws.proofs.Kept.{IsFresh, Kept, fresh_start}
use Rattle.kpn_laws.proofs.KeptByDeeds.{deed_follows}
use Rattle.kpn_laws.proofs.KeptByRuns.{kept_run}
use Rattle.kpn_laws.proofs.Comparable.{at_deeds_push}
use Rattle.kpn_laws.proofs.Causes.{over_quiet, none_blocked}
use Rattle.kpn_laws.proofs.Streams.{put_on_deeds}
use Rattle.kpn_laws.proofs.Wiring.{over_alike}
use Rattle.kpn_laws.proofs.Resized.{wired_resized, fresh_resized, run_resized}

module _ (kinds : Family) (net : Network) where
  -- a run's stream is what the writer's deeds wrote
  pub written_stream : (S : State) (E : List Entry) (M : State) → Run kinds net S E M → (c : ℕ) → written net c (deeds E (channel_of net c).writer) ≡ stream net E c
  written_stream S E M run c = ap (λ l. (channel_of net c).tokens ++ l) (sym (put_on_deeds kinds net S E M run c))

  -- what more deeds wrote begins with what fewer did
  pub written_prefix : (c : ℕ) (ds es : List Deed) → IsPrefixOf ds es → IsPrefixOf (written net c ds) (written net c es)
  written_prefix c ds es front =
      let x = puts_prefix ds es c front in
      (x.0, append_assoc (channel_of net c).tokens (puts ds c) x.0 ∙ ap (λ l. (channel_of net c).tokens ++ l) x.1)

  -- in a run each process does what it would do alone for the streams of a pre-fixed point
  done_alone :
      (T : Streams) → Obeys kinds net T → (S : State) → IsFresh kinds net S → (E : List Entry) (M : State) → Run kinds net S E M → (p : ℕ)
      → DoesAlone kinds net T p (deeds E p)
  done_alone T obeys S fresh =
      run_induction kinds net (λ H _. (p : ℕ) → DoesAlone kinds net T p (deeds H p)) S (λ p. tt)
      (λ H M e N before ih s. step H M e N (kept_run kinds net S fresh H M before) ih s)
    where
      step :
          (H : List Entry) (M : State) (e : Entry) (N : State) → Kept kinds net S H M → ((p : ℕ) → DoesAlone kinds net T p (deeds H p))
          → Transition kinds net M e N → (q : ℕ) → DoesAlone kinds net T q (deeds (H ++ e ∷ []) q)
      step H M (Grew c to) N k ih s q = subst (λ l. DoesAlone kinds net T q l) (sym (deeds_push_grew H c to q)) (ih q)
      step H M (Did p d) N k ih s q =
          let now = deed_follows kinds net S H M k p d s.answer s.wanted s.is_deed in
          let alone = run_to_alone kinds net (deeds H) T p (deeds H p) d (λ c. obeys c (deeds H (channel_of net c).writer) (ih (channel_of net c).writer)) now in
          at_deeds_push kinds net (λ x l. DoesAlone kinds net T x l) H p d (alone_push kinds net T p (deeds H p) d (ih p) alone) ih q

  -- so the streams of a pre-fixed point begin with those of the run
  pub below_here :
      (T : Streams) → Obeys kinds net T → (S : State) → IsFresh kinds net S → (E : List Entry) (M : State) → Run kinds net S E M → (c : ℕ)
      → BeginsWith (T c) (stream net E c)
  below_here T obeys S fresh E M run c =
      let w = (channel_of net c).writer in
      subst (λ l. BeginsWith (T c) l) (written_stream S E M run c) (obeys c (deeds E w) (done_alone T obeys S fresh E M run w))

  -- in a run each process does what it would do alone for any streams that begin with those of the run
  pub own_alone :
      (S : State) (E : List Entry) (M : State) → Kept kinds net S E M → (T : Streams) → ((c : ℕ) → BeginsWith (T c) (written net c (deeds E (channel_of net c).writer)))
      → (p : ℕ) → DoesAlone kinds net T p (deeds E p)
  own_alone S E M k T b p = does_alone kinds net T p (deeds E p) (λ es d rest e. run_to_alone kinds net (deeds E) T p es d b (k.follows p es d rest e))

  -- the token that p takes alone is in the stream
  pub taken_alone :
      (T : Streams) (p : ℕ) (ds : List Deed) (d : Deed) → FollowsAlone kinds net T p ds d → (c : ℕ) (t : Token) → d ≡ Took c t → T c (length (took ds c)) ≡ Some t
  taken_alone T p ds d f c t e = (alone_took kinds net T p ds c t f.answer.act (subst (λ x. IsDeedAlone kinds net T p ds f.answer.act x) e f.is_deed)).3

  -- after a run to a quiet state without a blocked writer no process does more alone, for the streams of the run
  no_more_alone :
      (S : State) (E : List Entry) (M : State) → Kept kinds net S E M → IsQuiet kinds net M → ((p c : ℕ) → IsBlocked kinds net M p c → ⊥) → (T : Streams)
      → ((c n : ℕ) (t : Token) → T c n ≡ Some t → slice_get (written net c (deeds E (channel_of net c).writer)) n ≡ Some t)
      → (p : ℕ) (ds : List Deed) → DoesAlone kinds net T p ds → IsPrefixOf ds (deeds E p)
  no_more_alone S E M k quiet free T within p ds g =
      by_first_parts (λ l. IsPrefixOf l (deeds E p)) ds (deeds E p, refl) step
    where
      step : (es : List Deed) (d : Deed) (rest : List Deed) → ds ≡ es ++ d ∷ rest → IsPrefixOf es (deeds E p) → IsPrefixOf (es ++ d ∷ []) (deeds E p)
      step es d rest e front =
          let f = alone_follows kinds net T p ds g es d rest e in
          let now = alone_to_run kinds net (deeds E) (λ c. tokens M c) k.fifo T p es d front (λ c t h. within c (length (took es c)) t (taken_alone T p es d f c t h)) f in
          ⊎_elim
          (λ (same : es ≡ deeds E p).
          let x = follows_does kinds net S E M k p d (subst (λ l. Follows kinds net (deeds E) p l d) same now) (λ c b. free p c b) in
          absurd (quiet p (does_enabled kinds net M p d x.0 x.1)))
          (λ (m : (e : Deed) × ((rest : List Deed) × (deeds E p ≡ es ++ e ∷ rest))).
          prefix_to_push es (deeds E p) m.1.0 m.0 d m.1.1
          (follows_same kinds net (deeds E) (deeds E) p es d m.0 (λ x. inl ([], append-nil (deeds E x))) now (k.follows p es m.0 m.1.0 m.1.1)))
          (prefix_cases es (deeds E p) front)

  -- so the streams of such a run are the least solution
  end_least :
      (S : State) → IsFresh kinds net S → (E : List Entry) (M : State) → Run kinds net S E M → IsQuiet kinds net M → ((p c : ℕ) → IsBlocked kinds net M p c → ⊥)
      → IsLeastSolution kinds net (streams_of net E)
  end_least S fresh E M run quiet free =
      let k = kept_run kinds net S fresh E M run in
      let T = streams_of net E in
      let same = written_stream S E M run in
      let own : (c n : ℕ) (t : Token) → T c n ≡ Some t → slice_get (written net c (deeds E (channel_of net c).writer)) n ≡ Some t = λ c n t e. ap (λ l. slice_get l n) (same c) ∙ e in
      let begins : (c : ℕ) → BeginsWith (T c) (written net c (deeds E (channel_of net c).writer)) = λ c. get_begins (T c) _ (λ n t e. ap (λ l. slice_get l n) (sym (same c)) ∙ e) in
      record {
        solution = record {
          obeys = λ c ds g.
              let w = (channel_of net c).writer in
              let front = written_prefix c ds (deeds E w) (no_more_alone S E M k quiet free T own w ds g) in
              get_begins (T c) (written net c ds) (λ n t e. ap (λ l. slice_get l n) (sym (same c)) ∙ get_prefix (written net c ds) (written net c (deeds E w)) n t front e);
          no_more = λ c n t e. (deeds E (channel_of net c).writer, own_alone S E M k T begins (channel_of net c).writer, own c n t e);
        };
        least = λ U obeys c n t e. begins_get (U c) (stream net E c) n t (below_here U obeys S fresh E M run c) e;
      }

-- soundness
pub streams_below : (kinds : Family) → StreamsAreBelow kinds
streams_below kinds net sizes E M T run obeys c =
    below_here kinds net T obeys (start kinds (resized net sizes)) (fresh_resized kinds net sizes) E M (run_resized kinds net sizes E M run) c

-- the streams at the network's own end are the least solution
pub end_is_least : (kinds : Family) → EndIsLeastSolution kinds
end_is_least kinds net E M a final natural =
    end_least kinds net (start kinds net) (fresh_start kinds net) E M final.run (over_quiet kinds net M a final.over) (none_blocked kinds net M a natural final.over)

-- from any starting capacities
pub end_is_least_from_any : (kinds : Family) → EndIsLeastFromAny kinds
end_is_least_from_any kinds net sizes E M a final natural =
    let over = over_alike kinds (resized net sizes) net (wired_resized net sizes) M a final.over in
    end_least kinds net (start kinds (resized net sizes)) (fresh_resized kinds net sizes) E M (run_resized kinds net sizes E M final.run)
    (over_quiet kinds net M a over) (none_blocked kinds net M a natural over)
