-- Runs and events, one after another.
use Rattle.std.proofs.Common.{◌≡◌, List, [], ◌∷◌, ◌++◌, append-nil, length, length-append, refl, sym, ap, ◌∙◌, arith, ℕ, ◌+◌, ◌≤◌, Bool, subst}
use Rattle.kpn_model.specs.declared.history.Entry.{Entry}
use Rattle.kpn_model.specs.declared.history.Entry.TheVariants.{Did, Grew}
use Rattle.kpn_model.specs.Network.{Network, Family}
use Rattle.kpn_model.specs.Semantics.{State, start}
use Rattle.kpn_model.specs.History.{growths}
use Rattle.std.specs.Io.Iter.{u64_saturate}
use Rattle.kpn_flow.specs.declared.counts.Counts.{Counts}
use Rattle.kpn_flow.specs.Events.{Event, Went, Fed, Drained, Happens, Flows, entries_of}
use Rattle.kpn_flow.specs.Preloaded.{IsAtEnds}
use Rattle.kpn_flow.specs.Flows.{IsReached, is_among, counted, nothing_counted}
use Rattle.kpn_flow.specs.Pauses.{OpenRun, IsRest, IsPause, Advances}
use Rattle.kpn_flow.specs.declared.pause.Pause.{Pause}
use Rattle.kpn_flow.specs.declared.pause.Pause.TheVariants.{Cut, Starved, Blocked, Over}
use Rattle.kpn_flow.proofs.Counting.{counted_both, counted_as, entries_both, growths_both}

-- entries as events
abbrev pub went : List Entry → List Event
went [] = []
went (e ∷ es) = Went e ∷ went es

entries_went : (es : List Entry) → entries_of (went es) ≡ es
entries_went [] = refl
entries_went (e ∷ es) = ap (λ (l : List Entry). e ∷ l) (entries_went es)

-- events at the ends, and more of them
pub at_ends_both : (ins outs : ℕ → Bool) (xs ys : List Event) → IsAtEnds ins outs xs → IsAtEnds ins outs ys → IsAtEnds ins outs (xs ++ ys)
at_ends_both ins outs [] ys h g = g
at_ends_both ins outs (Went e ∷ xs) ys h g = at_ends_both ins outs xs ys h g
at_ends_both ins outs (Fed c t ∷ xs) ys h g = (h.0, at_ends_both ins outs xs ys h.1 g)
at_ends_both ins outs (Drained c t ∷ xs) ys h g = (h.0, at_ends_both ins outs xs ys h.1 g)

-- entries are no events at the ends
pub at_ends_went : (ins outs : ℕ → Bool) (es : List Entry) → IsAtEnds ins outs (went es)
at_ends_went ins outs [] = tt
at_ends_went ins outs (e ∷ es) = at_ends_went ins outs es

module _ (kinds : Family) (net : Network) where
  pub flows_both : (M N O : State) (xs ys : List Event) → Flows kinds net M xs N → Flows kinds net N ys O → Flows kinds net M (xs ++ ys) O
  flows_both M N O [] ys f g = subst (λ (x : State). Flows kinds net x ys O) f g
  flows_both M N O (x ∷ xs) ys f g = (f.0, f.1, flows_both f.0 N O xs ys f.2 g)

  module _ (inputs outputs : List ℕ) where
    -- a run is a flow
    pub flows_run : (M N : State) (E : List Entry) → OpenRun kinds net inputs outputs M E N → Flows kinds net M (went E) N
    flows_run M N [] r = r
    flows_run M N (Did p d ∷ E) r = (r.0, r.1, flows_run r.0 N E r.2)
    flows_run M N (Grew c to ∷ E) r = (r.0, r.1.0, flows_run r.0 N E r.2)

    pub run_both : (M N O : State) (E F : List Entry) → OpenRun kinds net inputs outputs M E N → OpenRun kinds net inputs outputs N F O → OpenRun kinds net inputs outputs M (E ++ F) O
    run_both M N O [] F r q = subst (λ (x : State). OpenRun kinds net inputs outputs x F O) r q
    run_both M N O (e ∷ E) F r q = (r.0, r.1, run_both r.0 N O E F r.2 q)

    -- some run of this many entries leads on, of which so many are growths
    pub record Ran (M N : State) (n g : ℕ) : Type 0 where
      pub entries : List Entry
      pub run : OpenRun kinds net inputs outputs M entries N
      pub count : length entries ≡ n
      pub grown : length (growths entries) ≡ g

    pub ran_none : (M : State) → Ran M M 0 0
    ran_none M = record { entries = []; run = refl; count = refl; grown = refl }

    pub ran_on : (M N O : State) (n g : ℕ) (E : List Entry) → Ran M N n g → OpenRun kinds net inputs outputs N E O → Ran M O (n + length E) (g + length (growths E))
    ran_on M N O n g E r x = record {
      entries = r.entries ++ E;
      run = run_both M N O r.entries E r.run x;
      count = length-append r.entries E ∙ ap (λ k. k + length E) r.count;
      grown = growths_both r.entries E ∙ ap (λ k. k + length (growths E)) r.grown;
    }

    rest_pause : (most done : ℕ) (M : State) (pause : Pause) → IsRest kinds net inputs outputs M pause → IsPause kinds net inputs outputs most done M pause
    rest_pause most done M Cut r = absurd r
    rest_pause most done M Starved r = r
    rest_pause most done M Blocked r = r
    rest_pause most done M (Over end) r = r

    -- the flow comes back where nothing goes on
    pub rests_there :
        (before after : Counts) (M N O : State) (most n g h : ℕ) (E : List Entry) (pause : Pause) → Ran M N n g → n ≤ most → OpenRun kinds net inputs outputs N E O → E ≡ [] → h ≡ g + length (growths E)
        → after.entries ≡ u64_saturate (before.entries + n) → after.growths ≡ u64_saturate (before.growths + h) → IsRest kinds net inputs outputs O pause
        → Advances kinds net inputs outputs before after M O most pause
    rests_there before after M N O most n g h E pause r few x none grew made grown rest =
        let y = ran_on M N O n g E r x in
        let nothing : length E ≡ 0 = ap (λ (l : List Entry). length l) none in
        let count = y.count in
        let long : length y.entries ≡ n = omega arith in
        record { entries = y.entries; run = y.run; few = omega arith; counts = counted_as before after y.entries n h long (y.grown ∙ sym grew) made grown; back = rest_pause most (length y.entries) O pause rest }

    -- or where fewer than two entries are left
    pub cut_there :
        (before after : Counts) (M N : State) (most n g : ℕ) → Ran M N n g → n ≤ most → most ≤ n + 1 → after.entries ≡ u64_saturate (before.entries + n) → after.growths ≡ u64_saturate (before.growths + g)
        → Advances kinds net inputs outputs before after M N most Cut
    cut_there before after M N most n g r few most_done made grown =
        let count = r.count in record { entries = r.entries; run = r.run; few = omega arith; counts = counted_as before after r.entries n g count r.grown made grown; back = omega arith }

  -- a state that is reached goes on to others by entries
  pub reached_on :
      (inputs outputs ins outs : List ℕ) (before after : Counts) (M N : State) (E : List Entry) → IsReached kinds net inputs outputs before M → OpenRun kinds net ins outs M E N → after ≡ counted before E
      → IsReached kinds net inputs outputs after N
  reached_on inputs outputs ins outs before after M N E r x count = record {
    events = r.events ++ went E;
    flows = flows_both (start kinds net) M N r.events (went E) r.flows (flows_run ins outs M N E x);
    at_ends = at_ends_both (is_among inputs) (is_among outputs) r.events (went E) r.at_ends (at_ends_went (is_among inputs) (is_among outputs) E);
    counts_are = count ∙ ap (λ (n : Counts). counted n E) r.counts_are ∙ counted_both nothing_counted (entries_of r.events) E ∙ ap (λ (l : List Entry). counted nothing_counted l) (ap (λ (l : List Entry). entries_of r.events ++ l) (sym (entries_went E)) ∙ sym (entries_both r.events (went E)));
  }

  -- and by an event at an end
  pub reached_by :
      (inputs outputs : List ℕ) (counts : Counts) (M N : State) (x : Event) → IsReached kinds net inputs outputs counts M → Happens kinds net M x N → IsAtEnds (is_among inputs) (is_among outputs) (x ∷ []) → entries_of (x ∷ []) ≡ []
      → IsReached kinds net inputs outputs counts N
  reached_by inputs outputs counts M N x r h e none = record {
    events = r.events ++ x ∷ [];
    flows = flows_both (start kinds net) M N r.events (x ∷ []) r.flows (N, h, refl);
    at_ends = at_ends_both (is_among inputs) (is_among outputs) r.events (x ∷ []) r.at_ends e;
    counts_are = r.counts_are ∙ ap (λ (l : List Entry). counted nothing_counted l) (sym (entries_both r.events (x ∷ []) ∙ ap (λ (l : List Entry). entries_of r.events ++ l) none ∙ append-nil (entries_of r.events)));
  }
