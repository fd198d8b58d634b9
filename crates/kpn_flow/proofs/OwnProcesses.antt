-- What a flow gives to a caller that acts as a process of its own is below each solution.
use Rattle.std.proofs.Common.{◌≡◌, List, [], ◌∷◌, ◌++◌, append_assoc, append-nil, refl, sym, ap, ◌∙◌, ℕ, ◌==◌, Bool, true, false, cond, subst}
use Rattle.kpn_model.specs.declared.token.Token.{Token}
use Rattle.kpn_model.specs.declared.kinds.Act.{Act}
use Rattle.kpn_model.specs.declared.kinds.Act.TheVariants.{Read, Write, Stop}
use Rattle.kpn_model.specs.declared.kinds.Answer.{Answer}
use Rattle.kpn_model.specs.declared.history.Deed.{Deed}
use Rattle.kpn_model.specs.declared.history.Deed.TheVariants.{Took, Put, Stopped}
use Rattle.kpn_model.specs.declared.history.Status.{Status}
use Rattle.kpn_model.specs.Network.{Network, Family, channel_of}
use Rattle.kpn_model.specs.Semantics.{State, status, tokens, start}
use Rattle.kpn_model.specs.History.{IsPrefixOf}
use Rattle.kpn_laws.specs.Alone.{Streams, BeginsWith, puts, after_answer, IsDeedAlone, GoesOnAlone, DoesAlone}
use Rattle.kpn_laws.specs.Equations.{written, Obeys}
use Rattle.kpn_laws.proofs.Sequences.{begins_shorter, by_first_parts}
use Rattle.kpn_laws.proofs.Wiring.{AreWiredAlike, wired_sym, answered_alike}
use Rattle.kpn_flow.specs.Events.{Event, Went, Fed, Drained, Flows, fed, drained}
use Rattle.kpn_flow.specs.Flows.{is_among, AreEnds}
use Rattle.kpn_flow.specs.Preloaded.{IsAtEnds, StopsAtOnce, preloaded, all_fed}
use Rattle.kpn_flow.specs.Pieces.{IsWay}
use Rattle.kpn_flow.specs.OwnProcesses.{OwnProcess, MayBeDrained, ObeysWith, FeedsAsOwn, OwnProcessesAreBelow}
use Rattle.kpn_flow.proofs.Ahead.{Respects, fed_none}
use Rattle.kpn_flow.proofs.Compared.{room_for, whole}
use Rattle.kpn_flow.proofs.Exhausted.{drained_none, nothing_later}
use Rattle.kpn_flow.proofs.Mute.{respects, still_start, still_wants}
use Rattle.kpn_flow.proofs.Wired.{preload-tokens, preload-unfed, preload-writer, wired_preloaded}

-- the first of some events lead somewhere
first_flows :
    (kinds : Family) (net : Network) (M N : State) (xs ys : List Event) → Flows kinds net M (xs ++ ys) N
    → (mid : State) × Flows kinds net M xs mid
first_flows kinds net M N [] ys f = (M, refl)
first_flows kinds net M N (x ∷ xs) ys f = let r = first_flows kinds net f.0 N xs ys f.2 in (r.0, (f.0, f.1, r.1))

-- and are at the ends, if all are
first_at_ends : (ins outs : ℕ → Bool) (xs ys : List Event) → IsAtEnds ins outs (xs ++ ys) → IsAtEnds ins outs xs
first_at_ends ins outs [] ys h = tt
first_at_ends ins outs (Went e ∷ xs) ys h = first_at_ends ins outs xs ys h
first_at_ends ins outs (Fed c t ∷ xs) ys h = (h.0, first_at_ends ins outs xs ys h.1)
first_at_ends ins outs (Drained c t ∷ xs) ys h = (h.0, first_at_ends ins outs xs ys h.1)

-- where nothing more is fed
fed_same : (xs ys : List Event) (c : ℕ) → fed ys c ≡ [] → fed (xs ++ ys) c ≡ fed xs c
fed_same [] ys c e = e
fed_same (Went x ∷ xs) ys c e = fed_same xs ys c e
fed_same (Fed b t ∷ xs) ys c e = ap (λ (l : List Token). cond (b == c) (t ∷ l) l) (fed_same xs ys c e)
fed_same (Drained b t ∷ xs) ys c e = fed_same xs ys c e

-- where nothing more is drained
drained_same : (xs ys : List Event) (c : ℕ) → drained ys c ≡ [] → drained (xs ++ ys) c ≡ drained xs c
drained_same [] ys c e = e
drained_same (Went x ∷ xs) ys c e = drained_same xs ys c e
drained_same (Fed b t ∷ xs) ys c e = drained_same xs ys c e
drained_same (Drained b t ∷ xs) ys c e = ap (λ (l : List Token). cond (b == c) (t ∷ l) l) (drained_same xs ys c e)

-- the stream of each input begins with its start tokens and what was fed
abbrev IsFedBelow : Network → List ℕ → Streams → List Event → Type 0
IsFedBelow net inputs T xs = (c : ℕ) → is_among inputs c ≡ true → BeginsWith (T c) ((channel_of net c).tokens ++ fed xs c)

-- what was fed is what that process feeds for these tokens, or a first part of it
abbrev FeedsFor : List ℕ → OwnProcess → (ℕ → List Token) → List Event → Type 0
FeedsFor inputs own d xs = (c : ℕ) → is_among inputs c ≡ true → IsPrefixOf (fed xs c) (own d c)

-- in networks that are wired alike a process alone does the same
module _ (kinds : Family) (a b : Network) (w : AreWiredAlike a b) (T : Streams) (p : ℕ) where
  deed_alone_alike : (before : List Deed) (x : Act) (d : Deed) → IsDeedAlone kinds a T p before x d → IsDeedAlone kinds b T p before x d
  deed_alone_alike before Stop Stopped h = tt
  deed_alone_alike before (Read k) (Took c t) h = (sym (w.ins p k) ∙ h.0, h.1)
  deed_alone_alike before (Write k u) (Put c t) h = (sym (w.outs p k) ∙ h.0, h.1)
  deed_alone_alike before x d h = absurd h

  goes_on_alike : (ds : List Deed) (s : Status) (before : List Deed) → GoesOnAlone kinds a T p s before ds → GoesOnAlone kinds b T p s before ds
  goes_on_alike [] s before g = tt
  goes_on_alike (d ∷ ds) s before g =
      (g.0, sym (answered_alike kinds a b w p s) ∙ g.1, deed_alone_alike before g.0.act d g.2, goes_on_alike ds (after_answer g.0 d) (before ++ d ∷ []) g.3)

module _ (kinds : Family) (net : Network) where
  -- a process that stops at once writes nothing
  stopped_writes_nothing :
      (T : Streams) (p : ℕ) (a : Answer) (d : Deed) (ds : List Deed) (c : ℕ) → IsDeedAlone kinds net T p [] Stop d
      → GoesOnAlone kinds net T p (after_answer a d) (d ∷ []) ds → puts (d ∷ ds) c ≡ []
  stopped_writes_nothing T p a Stopped [] c is g = refl
  stopped_writes_nothing T p a Stopped (d ∷ ds) c is g = let none = g.1 in cc
  stopped_writes_nothing T p a (Took b t) ds c is g = absurd is
  stopped_writes_nothing T p a (Put b t) ds c is g = absurd is

  writes_nothing : (T : Streams) (p : ℕ) → StopsAtOnce kinds net p → (ds : List Deed) → DoesAlone kinds net T p ds → (c : ℕ) → puts ds c ≡ []
  writes_nothing T p stops [] g c = refl
  writes_nothing T p stops (d ∷ ds) g c =
      let act = still_wants kinds net (start kinds net) p g.0 stops (still_start kinds net p stops) g.1 in
      stopped_writes_nothing T p g.0 d ds c (subst (λ x. IsDeedAlone kinds net T p [] x d) act g.2) g.3

module _ (kinds : Family) (net : Network) (inputs outputs : List ℕ) (own : OwnProcess) (T : Streams) where
  module _ (ends : AreEnds kinds net inputs outputs) (obeys : ObeysWith kinds net inputs outputs own T) where
    -- if what was fed is below T, then T obeys the equations of the network that held it from the start
    obeys_preloaded :
        (xs : List Event) (sizes : ℕ → ℕ) → Respects (is_among inputs) (is_among outputs) xs → IsFedBelow net inputs T xs
        → Obeys kinds (preloaded net (all_fed xs nothing_later) sizes) T
    obeys_preloaded xs sizes keeps below c ds g = by_test (is_among inputs c) refl
      where
        alone : DoesAlone kinds net T (channel_of net c).writer ds
        alone =
            let one = preloaded net (all_fed xs nothing_later) sizes in
            let p = (channel_of one c).writer in
            let wired = wired_sym net one (wired_preloaded net (all_fed xs nothing_later) sizes) in
            subst (λ q. DoesAlone kinds net T q ds) (preload-writer net.channels (all_fed xs nothing_later) sizes c)
            (goes_on_alike kinds one net wired T p ds (status (start kinds net) p) [] g)

        by_test : (y : Bool) → is_among inputs c ≡ y → BeginsWith (T c) (written (preloaded net (all_fed xs nothing_later) sizes) c ds)
        by_test true e =
            let one = preloaded net (all_fed xs nothing_later) sizes in
            let input = ends.only_fed c e in
            let none : puts ds c ≡ [] = writes_nothing kinds net T (channel_of net c).writer input.1 ds alone c in
            let held : (channel_of one c).tokens ≡ (channel_of net c).tokens ++ fed xs c =
            preload-tokens net.channels (all_fed xs nothing_later) sizes c input.0
            ∙ ap (λ l. (channel_of net c).tokens ++ l) (append-nil (fed xs c)) in
            let all : written one c ds ≡ (channel_of net c).tokens ++ fed xs c =
            ap (λ l. (channel_of one c).tokens ++ l) none ∙ append-nil (channel_of one c).tokens ∙ held in
            subst (λ l. BeginsWith (T c) l) (sym all) (below c e)
        by_test false e =
            let none : all_fed xs nothing_later c ≡ [] = ap (λ l. l ++ []) (fed_none (is_among inputs) (is_among outputs) xs c keeps e) in
            let held = preload-unfed net.channels (all_fed xs nothing_later) sizes c none in
            subst (λ l. BeginsWith (T c) (l ++ puts ds c)) (sym held) (obeys.inside c ds e alone)

    -- so the streams of the outputs begin with what the flow gives
    gives_below :
        (xs : List Event) (M : State) → Flows kinds net (start kinds net) xs M → IsAtEnds (is_among inputs) (is_among outputs) xs
        → IsFedBelow net inputs T xs → (c : ℕ) → is_among outputs c ≡ true → BeginsWith (T c) (drained xs c ++ tokens M c)
    gives_below xs M flows at below c e =
        let way : IsWay kinds net inputs outputs xs M nothing_later = record { flows = flows; at_ends = at; later_inputs = λ c e. refl } in
        let r = whole kinds net inputs outputs M ends xs nothing_later way in
        let writers : (c : ℕ) → is_among inputs c ≡ true → StopsAtOnce kinds net (channel_of net c).writer = λ c e. (ends.only_fed c e).1 in
        let readers : (c : ℕ) → is_among outputs c ≡ true → StopsAtOnce kinds net (channel_of net c).reader = λ c e. (ends.only_drained c e).1 in
        let still = still_start kinds net in
        let keeps = respects kinds net (is_among inputs) (is_among outputs) writers readers xs (start kinds net) M flows still at in
        subst (λ l. BeginsWith (T c) l) (r.outputs_are c e ∙ append-nil (drained xs c ++ tokens M c))
        (r.approach.below T (obeys_preloaded xs (room_for net xs nothing_later) keeps below) c)

    -- what that process feeds for what may have been drained is below T
    feeds_below : (xs : List Event) (d : ℕ → List Token) → MayBeDrained outputs T d → FeedsFor inputs own d xs → IsFedBelow net inputs T xs
    feeds_below xs d may feeds c e =
        let f = feeds c e in
        let began = (channel_of net c).tokens in
        let all : (began ++ fed xs c) ++ f.0 ≡ began ++ own d c = append_assoc began (fed xs c) f.0 ∙ ap (λ l. began ++ l) f.1 in
        begins_shorter (T c) (began ++ fed xs c) f.0 (subst (λ l. BeginsWith (T c) l) (sym all) (obeys.outside d may c e))

    -- one event more: only a feeding changes what was fed, and it changes nothing of what was drained
    below_more :
        (xs : List Event) (x : Event) → IsFedBelow net inputs T xs → MayBeDrained outputs T (drained xs)
        → FeedsFor inputs own (drained (xs ++ x ∷ [])) (xs ++ x ∷ []) → IsFedBelow net inputs T (xs ++ x ∷ [])
    below_more xs (Went y) below may feeds =
        λ c e. subst (λ l. BeginsWith (T c) ((channel_of net c).tokens ++ l)) (sym (fed_same xs (Went y ∷ []) c refl)) (below c e)
    below_more xs (Drained b t) below may feeds =
        λ c e. subst (λ l. BeginsWith (T c) ((channel_of net c).tokens ++ l)) (sym (fed_same xs (Drained b t ∷ []) c refl)) (below c e)
    below_more xs (Fed b t) below may feeds =
        let same : (c : ℕ) → drained (xs ++ Fed b t ∷ []) c ≡ drained xs c = λ c. drained_same xs (Fed b t ∷ []) c refl in
        let now : MayBeDrained outputs T (drained (xs ++ Fed b t ∷ [])) = record {
          first_parts = λ c e. subst (λ l. BeginsWith (T c) l) (sym (same c)) (may.first_parts c e);
          no_others = λ c e. same c ∙ may.no_others c e;
        } in
        feeds_below (xs ++ Fed b t ∷ []) (drained (xs ++ Fed b t ∷ [])) now feeds

    -- so at each time what was fed is below T
    fed_below :
        (xs : List Event) (M : State) → Flows kinds net (start kinds net) xs M → IsAtEnds (is_among inputs) (is_among outputs) xs
        → FeedsAsOwn inputs own xs → IsFedBelow net inputs T xs
    fed_below xs M flows at feeds = by_first_parts (λ l. IsFedBelow net inputs T l) xs first step
      where
        first : IsFedBelow net inputs T []
        first = feeds_below [] (λ c. []) (record { first_parts = λ c e. tt; no_others = λ c e. refl }) (λ c e. (own (λ c. []) c, refl))

        step : (ys : List Event) (y : Event) (zs : List Event) → xs ≡ ys ++ y ∷ zs → IsFedBelow net inputs T ys → IsFedBelow net inputs T (ys ++ y ∷ [])
        step ys y zs e below =
            let before = first_flows kinds net (start kinds net) M ys (y ∷ zs) (subst (λ l. Flows kinds net (start kinds net) l M) e flows) in
            let ended : IsAtEnds (is_among inputs) (is_among outputs) ys =
            first_at_ends (is_among inputs) (is_among outputs) ys (y ∷ zs) (subst (λ l. IsAtEnds (is_among inputs) (is_among outputs) l) e at) in
            let may : MayBeDrained outputs T (drained ys) = record {
              first_parts = λ c o. begins_shorter (T c) (drained ys c) (tokens before.0 c) (gives_below ys before.0 before.1 ended below c o);
              no_others = λ c o. drained_none (is_among inputs) (is_among outputs) ys c ended o;
            } in
            below_more ys y below may (feeds (ys ++ y ∷ []) zs (e ∙ sym (append_assoc ys (y ∷ []) zs)))

-- whatever the caller's own process is, what the flow gives is below each solution
pub own_processes_are_below : (kinds : Family) → OwnProcessesAreBelow kinds
own_processes_are_below kinds net inputs outputs ends own T obeys xs M flows at feeds =
    gives_below kinds net inputs outputs own T ends obeys xs M flows at (fed_below kinds net inputs outputs own T ends obeys xs M flows at feeds)
