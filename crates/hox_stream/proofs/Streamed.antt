-- What comes of a stream, one after another.
use Rattle.std.proofs.Common.{◌≡◌, ◌<◌, ◌+◌, ◌++◌, ◌==◌, ⊎_elim, inl, inr, get_or, Option, Some, None, IfSome, ℕ, Bool, true, false, cond, List, [], ◌∷◌, length, length-set, set, map, refl, sym, ap, ◌∙◌, subst, arith}
use Rattle.std.proofs.lemmas.Bool.{cases_eq, eq-eqb, ne_eqb}
use Rattle.std.proofs.lemmas.List.{get_or-set_same, get_or-set_other, set-set, set-get_or}
use Rattle.kpn_model.specs.declared.token.Token.{Token}
use Rattle.kpn_model.specs.declared.history.Entry.{Entry}
use Rattle.kpn_model.specs.Network.{Family, Network, channel_of}
use Rattle.kpn_flow.specs.declared.counts.Counts.{Counts}
use Rattle.kpn_flow.specs.declared.pause.Pause.{Pause}
use Rattle.kpn_flow.specs.Events.{Event, Went, Fed, Drained, fed, drained}
use Rattle.kpn_flow.specs.Flows.{FlowView, IsSameFlow, is_among}
use Rattle.kpn_flow.specs.Pauses.{Advances}
use Rattle.kpn_flow.proofs.Stretches.{at_ends_both, at_ends_went, flows_both, flows_run, went}
use Rattle.hox_stream.specs.declared.cutting.Refusal.{Refusal}
use Rattle.hox_stream.specs.Cutting.{IsRefused}
use Rattle.hox_stream.specs.Ports.{Pours, Takes, Tells, Writes}
use Rattle.hox_stream.specs.declared.finish.StreamFinish.{StreamFinish}
use Rattle.hox_stream.specs.declared.finish.StreamFinish.TheVariants.{Over, Refused, Unread, OtherSort, Unwritten, Misfit, Apart, Idle, Memory, Cut}
use Rattle.hox_stream.specs.declared.table.TableFault.{TableFault}
use Rattle.hox_stream.specs.declared.table.TableFault.TheVariants.{Failed, Misfit as Misfit_there, Apart as Apart_there, Memory as Refused_memory}
use Rattle.hox_stream.specs.Streams.{AllStay, AreInletsApart, AreOutsApart, IsFinish, IsOutAt, Streams, TableStays, channel_at, inlet_at, outlet_at, table_at}
use Rattle.hox_stream.specs.Tables.{FlushesTable, IsTableFault, TellsLane, WritesTable, only_at}
use Rattle.hox_stream.specs.Views.{HeadView, InletView, LaneView, OutletView, OutsView, TableView, no_inlet, no_lane, no_outlet, no_table, outs}
use Rattle.hox_stream.proofs.Flowed.{at_ends_there, flows_there, same_net_both, same_net_none, same_net_of}
use Rattle.hox_stream.proofs.Ported.{takes_both, takes_none, writes_both, writes_none}
use Rattle.hox_stream.proofs.Tabled.{as_many, head_same, writes_flushed, writes_table_as, writes_table_both, writes_table_none}

-- ---- what was fed and drained

put_before : (y : Bool) (t : Token) (all xs ys : List Token) → all ≡ xs ++ ys → cond y (t ∷ all) all ≡ cond y (t ∷ xs) xs ++ ys
put_before true t all xs ys e = ap (λ (l : List Token). t ∷ l) e
put_before false t all xs ys e = e

fed_both : (xs ys : List Event) (c : ℕ) → fed (xs ++ ys) c ≡ fed xs c ++ fed ys c
fed_both [] ys c = refl
fed_both (Went e ∷ xs) ys c = fed_both xs ys c
fed_both (Fed b t ∷ xs) ys c = put_before (b == c) t (fed (xs ++ ys) c) (fed xs c) (fed ys c) (fed_both xs ys c)
fed_both (Drained b t ∷ xs) ys c = fed_both xs ys c

drained_both : (xs ys : List Event) (c : ℕ) → drained (xs ++ ys) c ≡ drained xs c ++ drained ys c
drained_both [] ys c = refl
drained_both (Went e ∷ xs) ys c = drained_both xs ys c
drained_both (Fed b t ∷ xs) ys c = drained_both xs ys c
drained_both (Drained b t ∷ xs) ys c = put_before (b == c) t (drained (xs ++ ys) c) (drained xs c) (drained ys c) (drained_both xs ys c)

fed_went : (es : List Entry) (c : ℕ) → fed (went es) c ≡ []
fed_went [] c = refl
fed_went (e ∷ es) c = fed_went es c

drained_went : (es : List Entry) (c : ℕ) → drained (went es) c ≡ []
drained_went [] c = refl
drained_went (e ∷ es) c = drained_went es c

fed_same : (b c : ℕ) (ts : List Token) → b ≡ c → fed (map (λ t. Fed b t) ts) c ≡ ts
fed_same b c [] e = refl
fed_same b c (t ∷ ts) e = ap (λ y. cond y (t ∷ fed (map (λ t. Fed b t) ts) c) (fed (map (λ t. Fed b t) ts) c)) (eq-eqb b c e) ∙ ap (λ (l : List Token). t ∷ l) (fed_same b c ts e)

fed_other : (b c : ℕ) (ts : List Token) → (b ≡ c → ⊥) → fed (map (λ t. Fed b t) ts) c ≡ []
fed_other b c [] e = refl
fed_other b c (t ∷ ts) e = ap (λ y. cond y (t ∷ fed (map (λ t. Fed b t) ts) c) (fed (map (λ t. Fed b t) ts) c)) (ne_eqb b c e) ∙ fed_other b c ts e

drained_same : (b c : ℕ) (ts : List Token) → b ≡ c → drained (map (λ t. Drained b t) ts) c ≡ ts
drained_same b c [] e = refl
drained_same b c (t ∷ ts) e = ap (λ y. cond y (t ∷ drained (map (λ t. Drained b t) ts) c) (drained (map (λ t. Drained b t) ts) c)) (eq-eqb b c e) ∙ ap (λ (l : List Token). t ∷ l) (drained_same b c ts e)

drained_other : (b c : ℕ) (ts : List Token) → (b ≡ c → ⊥) → drained (map (λ t. Drained b t) ts) c ≡ []
drained_other b c [] e = refl
drained_other b c (t ∷ ts) e = ap (λ y. cond y (t ∷ drained (map (λ t. Drained b t) ts) c) (drained (map (λ t. Drained b t) ts) c)) (ne_eqb b c e) ∙ drained_other b c ts e

drained_fed : (b c : ℕ) (ts : List Token) → drained (map (λ t. Fed b t) ts) c ≡ []
drained_fed b c [] = refl
drained_fed b c (t ∷ ts) = drained_fed b c ts

fed_drained : (b c : ℕ) (ts : List Token) → fed (map (λ t. Drained b t) ts) c ≡ []
fed_drained b c [] = refl
fed_drained b c (t ∷ ts) = fed_drained b c ts

-- ---- ports that stay as they are

takes_nothing : (p : InletView) (ts : List Token) → ts ≡ [] → Takes p p ts
takes_nothing p ts e = subst (λ (l : List Token). Takes p p l) (sym e) (takes_none p)

writes_nothing : (p : OutletView) (ts : List Token) → ts ≡ [] → Writes p p ts
writes_nothing p ts e = subst (λ (l : List Token). Writes p p l) (sym e) (writes_none p)

module _ (kinds : Family) where
  pub streams_none : (s t : FlowView) (ins : List InletView) (outs : OutsView) → t ≡ s → Streams kinds s t ins ins outs outs
  streams_none s t ins outs e = subst (λ (x : FlowView). Streams kinds s x ins ins outs outs) (sym e) (record {
    same = same_net_none s;
    events = [];
    flows = refl;
    at_ends = tt;
    as_many_inlets = refl;
    as_many_outlets = refl;
    as_many_tables = refl;
    taken = λ apart k h. takes_none (inlet_at ins k);
    written = λ apart k h. writes_none (outlet_at outs.sinks k);
    tabled = λ apart k h. writes_table_none (table_at outs.tables k) (λ i. []) (λ i h. refl);
  })

  -- entries are made
  pub streams_went :
      (s t : FlowView) (ins : List InletView) (outs : OutsView) (unended outputs : List ℕ) (before after : Counts) (most : ℕ) (pause : Pause) → IsSameFlow s t → Advances kinds s.network unended outputs before after s.state t.state most pause
      → Streams kinds s t ins ins outs outs
  streams_went s t ins outs unended outputs before after most pause same a = record {
    same = same_net_of s t same;
    events = went a.entries;
    flows = flows_run kinds s.network unended outputs s.state t.state a.entries a.run;
    at_ends = at_ends_went (is_among s.inputs) (is_among s.outputs) a.entries;
    as_many_inlets = refl;
    as_many_outlets = refl;
    as_many_tables = refl;
    taken = λ apart k h. takes_nothing (inlet_at ins k) (fed (went a.entries) (inlet_at ins k).channel) (fed_went a.entries (inlet_at ins k).channel);
    written = λ apart k h. writes_nothing (outlet_at outs.sinks k) (drained (went a.entries) (outlet_at outs.sinks k).channel) (drained_went a.entries (outlet_at outs.sinks k).channel);
    tabled = λ apart k h. writes_table_none (table_at outs.tables k) (λ i. drained (went a.entries) (channel_at (table_at outs.tables k) i)) (λ i h. drained_went a.entries (channel_at (table_at outs.tables k) i));
  }

  -- a source is poured
  pub streams_poured :
      (s t : FlowView) (ins : List InletView) (outs : OutsView) (k : ℕ) (p q : InletView) → k < length ins → p ≡ inlet_at ins k → Pours kinds s t p q → Streams kinds s t ins (set ins k q) outs outs
  streams_poured s t ins outs k p q within at x =
      let xs : List Event = map (λ token. Fed p.channel token) x.tokens in
      record {
        same = x.same;
        events = xs;
        flows = x.flows;
        at_ends = x.at_ends;
        as_many_inlets = length-set ins k q;
        as_many_outlets = refl;
        as_many_tables = refl;
        taken = λ apart j h. ⊎_elim
            (λ (e : j ≡ k).
            let here : inlet_at (set ins k q) j ≡ q = ap (λ i. inlet_at (set ins k q) i) e ∙ get_or-set_same ins k q no_inlet within in
            let was : inlet_at ins j ≡ p = ap (λ i. inlet_at ins i) e ∙ sym at in
            let all : fed xs (inlet_at ins j).channel ≡ x.tokens = fed_same p.channel (inlet_at ins j).channel x.tokens (ap (λ (y : InletView). y.channel) (sym was)) in
            subst (λ (y : InletView). Takes y (inlet_at (set ins k q) j) (fed xs (inlet_at ins j).channel)) (sym was)
            (subst (λ (y : InletView). Takes p y (fed xs (inlet_at ins j).channel)) (sym here) (subst (λ (l : List Token). Takes p q l) (sym all) x.takes)))
            (λ ne.
            let still : inlet_at (set ins k q) j ≡ inlet_at ins j = get_or-set_other ins k j q no_inlet ne in
            let none : fed xs (inlet_at ins j).channel ≡ [] = fed_other p.channel (inlet_at ins j).channel x.tokens (λ e. ne (apart j k h within (sym e ∙ ap (λ (y : InletView). y.channel) at))) in
            subst (λ (y : InletView). Takes (inlet_at ins j) y (fed xs (inlet_at ins j).channel)) (sym still) (takes_nothing (inlet_at ins j) (fed xs (inlet_at ins j).channel) none))
            (cases_eq j k);
        written = λ apart j h. writes_nothing (outlet_at outs.sinks j) (drained xs (outlet_at outs.sinks j).channel) (drained_fed p.channel (outlet_at outs.sinks j).channel x.tokens);
        tabled = λ apart j h. writes_table_none (table_at outs.tables j) (λ i. drained xs (channel_at (table_at outs.tables j) i)) (λ i h. drained_fed p.channel (channel_at (table_at outs.tables j) i) x.tokens);
      }

  -- a sink is written
  pub streams_told :
      (s t : FlowView) (ins : List InletView) (sinks : List OutletView) (tables : List TableView) (k : ℕ) (p q : OutletView) → k < length sinks → p ≡ outlet_at sinks k → Tells kinds s t p q → Streams kinds s t ins ins (outs sinks tables) (outs (set sinks k q) tables)
  streams_told s t ins sinks tables k p q within at x =
      let xs : List Event = map (λ token. Drained p.channel token) x.tokens in
      record {
        same = x.same;
        events = xs;
        flows = x.flows;
        at_ends = x.at_ends;
        as_many_inlets = refl;
        as_many_outlets = length-set sinks k q;
        as_many_tables = refl;
        taken = λ apart j h. takes_nothing (inlet_at ins j) (fed xs (inlet_at ins j).channel) (fed_drained p.channel (inlet_at ins j).channel x.tokens);
        written = λ apart j h. ⊎_elim
            (λ (e : j ≡ k).
            let here : outlet_at (set sinks k q) j ≡ q = ap (λ i. outlet_at (set sinks k q) i) e ∙ get_or-set_same sinks k q no_outlet within in
            let was : outlet_at sinks j ≡ p = ap (λ i. outlet_at sinks i) e ∙ sym at in
            let all : drained xs (outlet_at sinks j).channel ≡ x.tokens = drained_same p.channel (outlet_at sinks j).channel x.tokens (ap (λ (y : OutletView). y.channel) (sym was)) in
            subst (λ (y : OutletView). Writes y (outlet_at (set sinks k q) j) (drained xs (outlet_at sinks j).channel)) (sym was)
            (subst (λ (y : OutletView). Writes p y (drained xs (outlet_at sinks j).channel)) (sym here) (subst (λ (l : List Token). Writes p q l) (sym all) x.writes)))
            (λ ne.
            let still : outlet_at (set sinks k q) j ≡ outlet_at sinks j = get_or-set_other sinks k j q no_outlet ne in
            let none : drained xs (outlet_at sinks j).channel ≡ [] = drained_other p.channel (outlet_at sinks j).channel x.tokens (λ e. ne (apart.sinks j k h within (sym e ∙ ap (λ (y : OutletView). y.channel) at))) in
            subst (λ (y : OutletView). Writes (outlet_at sinks j) y (drained xs (outlet_at sinks j).channel)) (sym still) (writes_nothing (outlet_at sinks j) (drained xs (outlet_at sinks j).channel) none))
            (cases_eq j k);
        tabled = λ apart j h. writes_table_none (table_at tables j) (λ i. drained xs (channel_at (table_at tables j) i))
            (λ i inside. drained_other p.channel (channel_at (table_at tables j) i) x.tokens (λ e. apart.both k j i within h inside (ap (λ (y : OutletView). y.channel) (sym at) ∙ e)));
      }

  -- a column is written
  pub streams_lane_told :
      (s t : FlowView) (ins : List InletView) (sinks : List OutletView) (tables : List TableView) (k i : ℕ) (p q : TableView) → k < length tables → i < length p.lanes → p ≡ table_at tables k → TellsLane kinds s t p q i
      → Streams kinds s t ins ins (outs sinks tables) (outs sinks (set tables k q))
  streams_lane_told s t ins sinks tables k i p q within inside at x =
      let b = channel_at p i in
      let xs : List Event = map (λ token. Drained b token) x.tokens in
      let inside_there : i < length (table_at tables k).lanes = subst (λ (y : TableView). i < length y.lanes) at inside in
      let channel : b ≡ channel_at (table_at tables k) i = ap (λ (y : TableView). channel_at y i) at in
      record {
        same = x.same;
        events = xs;
        flows = x.flows;
        at_ends = x.at_ends;
        as_many_inlets = refl;
        as_many_outlets = refl;
        as_many_tables = length-set tables k q;
        taken = λ apart j h. takes_nothing (inlet_at ins j) (fed xs (inlet_at ins j).channel) (fed_drained b (inlet_at ins j).channel x.tokens);
        written = λ apart j h. writes_nothing (outlet_at sinks j) (drained xs (outlet_at sinks j).channel)
            (drained_other b (outlet_at sinks j).channel x.tokens (λ e. apart.both j k i h within inside_there (sym e ∙ channel)));
        tabled = λ apart j h. ⊎_elim
            (λ (e : j ≡ k).
            let here : table_at (set tables k q) j ≡ q = ap (λ n. table_at (set tables k q) n) e ∙ get_or-set_same tables k q no_table within in
            let was : table_at tables j ≡ p = ap (λ n. table_at tables n) e ∙ sym at in
            let Written : TableView → TableView → Type 0 = λ y z. WritesTable y z (λ m. drained xs (channel_at y m)) in
            let one : WritesTable p q (λ m. drained xs (channel_at p m)) = writes_table_as p q (only_at i x.tokens) (λ m. drained xs (channel_at p m))
            (λ m hm. ⊎_elim
            (λ (f : m ≡ i). ap (λ y. cond y x.tokens []) (eq-eqb m i f) ∙ sym (drained_same b (channel_at p m) x.tokens (ap (λ n. channel_at p n) (sym f))))
            (λ ne. ap (λ y. cond y x.tokens []) (ne_eqb m i ne) ∙ sym (drained_other b (channel_at p m) x.tokens (λ f.
            ne (sym (apart.tables k k i m within within inside_there (subst (λ (y : TableView). m < length y.lanes) at hm) (sym channel ∙ f ∙ ap (λ (y : TableView). channel_at y m) at)).1))))
            (cases_eq m i)) x.writes in
            subst (λ (y : TableView). Written y (table_at (set tables k q) j)) (sym was) (subst (λ (y : TableView). Written p y) (sym here) one))
            (λ ne.
            let still : table_at (set tables k q) j ≡ table_at tables j = get_or-set_other tables k j q no_table ne in
            let none = writes_table_none (table_at tables j) (λ m. drained xs (channel_at (table_at tables j) m))
            (λ m hm. drained_other b (channel_at (table_at tables j) m) x.tokens (λ f. ne (sym (apart.tables k j i m within h inside_there hm (sym channel ∙ f)).0))) in
            subst (λ (y : TableView). WritesTable (table_at tables j) y (λ m. drained xs (channel_at (table_at tables j) m))) (sym still) none)
            (cases_eq j k);
      }

  -- ports that are apart stay apart
  apart_inlets : (s t : FlowView) (ins after : List InletView) (outs left : OutsView) → Streams kinds s t ins after outs left → AreInletsApart ins → AreInletsApart after
  apart_inlets s t ins after outs left x apart j k h i e =
      let jj : j < length ins = subst (λ n. j < n) x.as_many_inlets h in
      let kk : k < length ins = subst (λ n. k < n) x.as_many_inlets i in
      apart j k jj kk (sym (x.taken apart j jj).channel ∙ e ∙ (x.taken apart k kk).channel)

  apart_outs : (s t : FlowView) (ins after : List InletView) (outs left : OutsView) → Streams kinds s t ins after outs left → AreOutsApart outs → AreOutsApart left
  apart_outs s t ins after outs left x apart =
      let sink : (k : ℕ) → k < length left.sinks → k < length outs.sinks = λ k h. subst (λ n. k < n) x.as_many_outlets h in
      let table : (k : ℕ) → k < length left.tables → k < length outs.tables = λ k h. subst (λ n. k < n) x.as_many_tables h in
      let heads = λ (k : ℕ) (h : k < length outs.tables). (x.tabled apart k h).heads in
      let lane : (k i : ℕ) → k < length outs.tables → i < length (table_at left.tables k).lanes → i < length (table_at outs.tables k).lanes =
      λ k i h hi. subst (λ n. i < n) (as_many (table_at outs.tables k) (table_at left.tables k) (heads k h)) hi in
      let channel : (k i : ℕ) → k < length outs.tables → channel_at (table_at left.tables k) i ≡ channel_at (table_at outs.tables k) i =
      λ k i h. ap (λ (y : HeadView). y.channel) (head_same (table_at outs.tables k) (table_at left.tables k) (heads k h) i) in
      record {
        sinks = λ j k h i e. apart.sinks j k (sink j h) (sink k i) (sym (x.written apart j (sink j h)).channel ∙ e ∙ (x.written apart k (sink k i)).channel);
        both = λ j k i hj hk hi e. apart.both j k i (sink j hj) (table k hk) (lane k i (table k hk) hi) (sym (x.written apart j (sink j hj)).channel ∙ e ∙ channel k i (table k hk));
        tables = λ j k h i hj hk hh hi e.
            apart.tables j k h i (table j hj) (table k hk) (lane j h (table j hj) hh) (lane k i (table k hk) hi) (sym (channel j h (table j hj)) ∙ e ∙ channel k i (table k hk));
      }

  pub streams_both :
      (s t u : FlowView) (a b c : List InletView) (d e f : OutsView) → Streams kinds s t a b d e → Streams kinds t u b c e f → Streams kinds s u a c d f
  streams_both s t u a b c d e f x y = record {
    same = same_net_both s t u x.same y.same;
    events = x.events ++ y.events;
    flows = flows_both kinds s.network s.state t.state u.state x.events y.events x.flows (flows_there kinds s t y.events u x.same y.flows);
    at_ends = at_ends_both (is_among s.inputs) (is_among s.outputs) x.events y.events x.at_ends (at_ends_there s t y.events x.same y.at_ends);
    as_many_inlets = y.as_many_inlets ∙ x.as_many_inlets;
    as_many_outlets = y.as_many_outlets ∙ x.as_many_outlets;
    as_many_tables = y.as_many_tables ∙ x.as_many_tables;
    taken = λ apart k h.
        let first = x.taken apart k h in
        let second = y.taken (apart_inlets s t a b d e x apart) k (subst (λ n. k < n) (sym x.as_many_inlets) h) in
        let same : fed y.events (inlet_at b k).channel ≡ fed y.events (inlet_at a k).channel = ap (λ n. fed y.events n) first.channel in
        subst (λ (l : List Token). Takes (inlet_at a k) (inlet_at c k) l) (sym (fed_both x.events y.events (inlet_at a k).channel))
        (takes_both (inlet_at a k) (inlet_at b k) (inlet_at c k) (fed x.events (inlet_at a k).channel) (fed y.events (inlet_at a k).channel) first (subst (λ (l : List Token). Takes (inlet_at b k) (inlet_at c k) l) same second));
    written = λ apart k h.
        let first = x.written apart k h in
        let second = y.written (apart_outs s t a b d e x apart) k (subst (λ n. k < n) (sym x.as_many_outlets) h) in
        let same : drained y.events (outlet_at e.sinks k).channel ≡ drained y.events (outlet_at d.sinks k).channel = ap (λ n. drained y.events n) first.channel in
        subst (λ (l : List Token). Writes (outlet_at d.sinks k) (outlet_at f.sinks k) l) (sym (drained_both x.events y.events (outlet_at d.sinks k).channel))
        (writes_both (outlet_at d.sinks k) (outlet_at e.sinks k) (outlet_at f.sinks k) (drained x.events (outlet_at d.sinks k).channel) (drained y.events (outlet_at d.sinks k).channel) first (subst (λ (l : List Token). Writes (outlet_at e.sinks k) (outlet_at f.sinks k) l) same second));
    tabled = λ apart k h.
        let p = table_at d.tables k in
        let q = table_at e.tables k in
        let first = x.tabled apart k h in
        let second = y.tabled (apart_outs s t a b d e x apart) k (subst (λ n. k < n) (sym x.as_many_tables) h) in
        writes_table_as p (table_at f.tables k) (λ i. drained x.events (channel_at p i) ++ drained y.events (channel_at q i)) (λ i. drained (x.events ++ y.events) (channel_at p i))
        (λ i hi. ap (λ n. drained x.events (channel_at p i) ++ drained y.events n) (ap (λ (z : HeadView). z.channel) (head_same p q first.heads i)) ∙ sym (drained_both x.events y.events (channel_at p i)))
        (writes_table_both p q (table_at f.tables k) (λ i. drained x.events (channel_at p i)) (λ i. drained y.events (channel_at q i)) first second);
  }

-- what a choice would do for all, it does for each
pub some_each : {X Y : Type 0} (P : X → Y → Type 0) (o : Option X) → IfSome o (λ x. (y : Y) → P x y) → (y : Y) → IfSome o (λ x. P x y)
some_each P None h y = tt
some_each P (Some x) h y = h y

-- a record is refused there
pub refused_there : (ins : List InletView) (k : ℕ) (q : InletView) (refusal : Refusal) → k < length ins → IsRefused q.layout q.sort q.kept q.is_over refusal
    → (k < length (set ins k q)) × IsRefused (inlet_at (set ins k q) k).layout (inlet_at (set ins k q) k).sort (inlet_at (set ins k q) k).kept (inlet_at (set ins k q) k).is_over refusal
refused_there ins k q refusal within h =
    let here : inlet_at (set ins k q) k ≡ q = get_or-set_same ins k q no_inlet within in
    let long = length-set ins k q in
    (omega (arith, long), subst (λ (p : InletView). IsRefused p.layout p.sort p.kept p.is_over refusal) (sym here) h)

-- a sink is flushed
pub streams_flushed :
    (kinds : Family) (s : FlowView) (ins : List InletView) (sinks : List OutletView) (tables : List TableView) (k : ℕ) (p q : OutletView) → k < length sinks → p ≡ outlet_at sinks k → Writes p q []
    → Streams kinds s s ins ins (outs sinks tables) (outs (set sinks k q) tables)
streams_flushed kinds s ins sinks tables k p q within at w =
    streams_told kinds s s ins sinks tables k p q within at (record { same = same_net_none s; tokens = []; writes = w; flows = refl; at_ends = tt })

module _ (kinds : Family) (ins : List InletView) (sinks : List OutletView) (tables : List TableView) (k : ℕ) where
  -- a table stays as it is
  pub streams_table_none : (s : FlowView) (p : TableView) → table_at tables k ≡ p → Streams kinds s s ins ins (outs sinks tables) (outs sinks (set tables k p))
  streams_table_none s p at =
      subst (λ (after : List TableView). Streams kinds s s ins ins (outs sinks tables) (outs sinks after)) (sym (ap (λ (t : TableView). set tables k t) (sym at) ∙ set-get_or tables k no_table))
      (streams_none kinds s s ins (outs sinks tables) refl)

  -- one more of its columns is written
  pub streams_table_more :
      (s t u : FlowView) (i : ℕ) (q r : TableView) → k < length tables → i < length q.lanes → Streams kinds s t ins ins (outs sinks tables) (outs sinks (set tables k q)) → TellsLane kinds t u q r i
      → Streams kinds s u ins ins (outs sinks tables) (outs sinks (set tables k r))
  streams_table_more s t u i q r within inside x y =
      subst (λ (after : List TableView). Streams kinds s u ins ins (outs sinks tables) (outs sinks after)) (set-set tables k q r)
      (streams_both kinds s t u ins ins ins (outs sinks tables) (outs sinks (set tables k q)) (outs sinks (set (set tables k q) k r)) x
      (streams_lane_told kinds t u ins sinks (set tables k q) k i q r (subst (λ n. k < n) (sym (length-set tables k q)) within) inside (sym (get_or-set_same tables k q no_table within)) y))

-- and so is a table
pub streams_table_flushed :
    (kinds : Family) (s : FlowView) (ins : List InletView) (sinks : List OutletView) (tables : List TableView) (k : ℕ) (p q : TableView) → k < length tables → p ≡ table_at tables k → FlushesTable p q
    → Streams kinds s s ins ins (outs sinks tables) (outs sinks (set tables k q))
streams_table_flushed kinds s ins sinks tables k p q within at w = record {
  same = same_net_none s;
  events = [];
  flows = refl;
  at_ends = tt;
  as_many_inlets = refl;
  as_many_outlets = refl;
  as_many_tables = length-set tables k q;
  taken = λ apart j h. takes_none (inlet_at ins j);
  written = λ apart j h. writes_none (outlet_at sinks j);
  tabled = λ apart j h. ⊎_elim
      (λ (e : j ≡ k).
      let here : table_at (set tables k q) j ≡ q = ap (λ n. table_at (set tables k q) n) e ∙ get_or-set_same tables k q no_table within in
      let was : table_at tables j ≡ p = ap (λ n. table_at tables n) e ∙ sym at in
      subst (λ (y : TableView). WritesTable y (table_at (set tables k q) j) (λ m. [])) (sym was) (subst (λ (y : TableView). WritesTable p y (λ m. [])) (sym here) (writes_flushed p q w)))
      (λ ne.
      let still : table_at (set tables k q) j ≡ table_at tables j = get_or-set_other tables k j q no_table ne in
      subst (λ (y : TableView). WritesTable (table_at tables j) y (λ m. [])) (sym still) (writes_table_none (table_at tables j) (λ m. []) (λ m hm. refl)))
      (cases_eq j k);
}

-- what holds of what stands at a place still holds once sinks were flushed
out_stays : (outs after : OutsView) (k : ℕ) (P : OutletView → Type 0) (Q : TableView → Type 0) → length after.sinks ≡ length outs.sinks → length after.tables ≡ length outs.tables
    → ((j : ℕ) → P (outlet_at outs.sinks j) → P (outlet_at after.sinks j)) → ((j : ℕ) → Q (table_at outs.tables j) → Q (table_at after.tables j)) → IsOutAt outs k P Q → IsOutAt after k P Q
out_stays outs after k P Q sinks tables one other (inl h) = inl (subst (λ n. k < n) (sym sinks) h.0, one k h.1)
out_stays outs after k P Q sinks tables one other (inr h) = inr (h.0, h.1 ∙ ap (λ n. n + h.0) (sym sinks), subst (λ n. h.0 < n) (sym tables) h.2, other h.0 h.3)

fault_stays : (p q : TableView) (fault : TableFault) → TableStays p q → IsTableFault p fault → IsTableFault q fault
fault_stays p q Failed still h = still.failed h
fault_stays p q Refused_memory still h = still.failed h
fault_stays p q Misfit_there still h = subst (λ (l : List LaneView). (i : ℕ) × (i < length l) × ((get_or l i no_lane).is_misfit ≡ true)) (sym still.lanes) h
fault_stays p q Apart_there still h = subst (λ (l : List LaneView). (i : ℕ) × (i < length l) × (1000000 < length (get_or l i no_lane).waiting)) (sym still.lanes) h

-- why a stream ends stays so while sinks are flushed
pub finish_stays : (kinds : Family) (s : FlowView) (ins : List InletView) (outs after : OutsView) (finish : StreamFinish) → AllStay outs after → IsFinish kinds s ins outs finish → IsFinish kinds s ins after finish
finish_stays kinds s ins outs after (Over end) still h = h
finish_stays kinds s ins outs after (Refused k refusal) still h = h
finish_stays kinds s ins outs after (Unread k) still h = h
finish_stays kinds s ins outs after (OtherSort k) still h = h
finish_stays kinds s ins outs after (Unwritten k) still h = out_stays outs after k (λ p. p.has_failed ≡ true) (λ p. p.has_failed ≡ true) still.0.0 still.1.0 (λ j. (still.0.1 j).failed) (λ j. (still.1.1 j).failed) h
finish_stays kinds s ins outs after (Misfit k) still h = out_stays outs after k (λ p. p.is_misfit ≡ true) (λ p. IsTableFault p Misfit_there) still.0.0 still.1.0 (λ j e. (still.0.1 j).misfit ∙ e) (λ j. fault_stays (table_at outs.tables j) (table_at after.tables j) Misfit_there (still.1.1 j)) h
finish_stays kinds s ins outs after (Apart k) still h = out_stays outs after k (λ p. ⊥) (λ p. IsTableFault p Apart_there) still.0.0 still.1.0 (λ j e. e) (λ j. fault_stays (table_at outs.tables j) (table_at after.tables j) Apart_there (still.1.1 j)) h
finish_stays kinds s ins outs after Idle still h = h
finish_stays kinds s ins outs after Memory still h = h
finish_stays kinds s ins outs after Cut still h = h

-- a read of a source has failed there
pub failed_there : (ins : List InletView) (k : ℕ) (q : InletView) → k < length ins → q.has_failed ≡ true → (k < length (set ins k q)) × ((inlet_at (set ins k q) k).has_failed ≡ true)
failed_there ins k q within h =
    let here : inlet_at (set ins k q) k ≡ q = get_or-set_same ins k q no_inlet within in
    let long = length-set ins k q in
    (omega (arith, long), subst (λ (p : InletView). p.has_failed ≡ true) (sym here) h)

-- the tokens of the channel there are of another sort
pub other_sort_there : (net : Network) (ins : List InletView) (k : ℕ) (q : InletView) → k < length ins → (q.sort ≡ (channel_of net q.channel).sort → ⊥)
    → (k < length (set ins k q)) × ((inlet_at (set ins k q) k).sort ≡ (channel_of net (inlet_at (set ins k q) k).channel).sort → ⊥)
other_sort_there net ins k q within h =
    let here : inlet_at (set ins k q) k ≡ q = get_or-set_same ins k q no_inlet within in
    let long = length-set ins k q in
    (omega (arith, long), subst (λ (p : InletView). p.sort ≡ (channel_of net p.channel).sort → ⊥) (sym here) h)
