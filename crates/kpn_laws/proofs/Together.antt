-- With capacities that are great enough one run does all that two runs did.
use Rattle.std.proofs.Common.{◌≡◌, ◌≤◌, ◌<◌, inl, ⊎_elim, List, [], ◌∷◌, ◌++◌, length, refl, sym, ap, ◌∙◌, arith, append-nil, length-append, ℕ, ◌+◌, ◌==◌, if◌then◌else◌, Bool, true, false, suc, zero, get_or, subst}
use Rattle.kpn_model.specs.History.{IsPrefixOf, deeds}
use Rattle.kpn_model.specs.Semantics.{IsRun, State, tokens, capacity, start, Transition, Run, IsBlocked}
use Rattle.kpn_model.specs.declared.parts.Channel.{Channel}
use Rattle.kpn_model.specs.declared.history.Deed.{Deed}
use Rattle.kpn_model.specs.declared.history.Deed.TheVariants.{Took, Put, Stopped}
use Rattle.kpn_model.specs.declared.history.Entry.{Entry}
use Rattle.kpn_model.specs.declared.history.Entry.TheVariants.{Did, Grew}
use Rattle.kpn_model.specs.Network.{Network, no_channel, channel_of, Family, resize, resized}
use Rattle.kpn_laws.specs.Alone.{puts, took}
use Rattle.kpn_laws.proofs.Lists.{prefix_trans, prefix_cases, prefix_to_push}
use Rattle.kpn_laws.proofs.Views.{deeds_push_same, deeds_push_grew}
use Rattle.kpn_laws.proofs.States.{out_of-writer}
use Rattle.kpn_laws.proofs.NextDeed.{follows_does}
use Rattle.kpn_laws.proofs.Follows.{Follows, follows_more, follows_same}
use Rattle.kpn_laws.proofs.Runs.{run_push, run_induction}
use Rattle.kpn_laws.proofs.Kept.{IsFresh, Kept}
use Rattle.kpn_laws.proofs.KeptByDeeds.{deeds_more, deed_follows}
use Rattle.kpn_laws.proofs.KeptByRuns.{kept_run}
use Rattle.kpn_laws.proofs.Comparable.{at_deeds_push}
use Rattle.kpn_laws.proofs.EachMoment.{starts_with}
use Rattle.kpn_laws.proofs.Wiring.{run_alike, wired_sym}
use Rattle.kpn_laws.proofs.Resized.{wired_resized, fresh_resized}

-- an element that is added conditionally adds at most one
one_at_most : {X : Type 0} (b : Bool) (x : X) (xs : List X) (n : ℕ) → length xs ≤ n → length ((if b then x ∷ [] else []) ++ xs) ≤ suc n
one_at_most true x xs n h = omega arith
one_at_most false x xs n h = omega arith

-- deeds put no more tokens than they are
puts-length : (ds : List Deed) (c : ℕ) → length (puts ds c) ≤ length ds
puts-length [] c = omega arith
puts-length (Put b t ∷ ds) c = one_at_most (b == c) t (puts ds c) (length ds) (puts-length ds c)
puts-length (Took b t ∷ ds) c = let h = puts-length ds c in omega arith
puts-length (Stopped ∷ ds) c = let h = puts-length ds c in omega arith

-- a process's deeds are no more than the entries
pub deeds-length : (E : List Entry) (p : ℕ) → length (deeds E p) ≤ length E
deeds-length [] p = omega arith
deeds-length (Did q d ∷ E) p = one_at_most (q == p) d (deeds E p) (length E) (deeds-length E p)
deeds-length (Grew c to ∷ E) p = let h = deeds-length E p in omega arith

-- a channel that is given a capacity has it
resize-given : (ls : List Channel) (sizes : ℕ → ℕ) (c : ℕ) → c < length ls → (get_or (resize ls sizes) c no_channel).capacity ≡ sizes c
resize-given [] sizes c l = absurd (omega arith)
resize-given (x ∷ ls) sizes zero l = refl
resize-given (x ∷ ls) sizes (suc c) l =
    let next : c + 1 ≡ suc c = omega arith in
    resize-given ls (λ n. sizes (n + 1)) c (omega arith) ∙ ap sizes next

module _ (kinds : Family) (net : Network) where
  -- each channel has room for n tokens besides its start tokens, and for one more
  abbrev pub IsRoomy : State → ℕ → Type 0
  IsRoomy S n = (c : ℕ) → c < length net.channels → length (channel_of net c).tokens + n < capacity S c

  -- capacities with which the network begins so
  abbrev pub roomy_sizes : ℕ → ℕ → ℕ
  roomy_sizes n c = length (channel_of net c).tokens + n + 1

  -- and it does begin so
  pub roomy_start : (n : ℕ) → IsRoomy (start kinds (resized net (roomy_sizes n))) n
  roomy_start n c l =
      let other = resized net (roomy_sizes n) in
      let a = starts_with kinds other other.channels c in
      let b = resize-given net.channels (roomy_sizes n) c l in
      let e : capacity (start kinds other) c ≡ roomy_sizes n c = sym a ∙ b in
      omega arith

  module _ (S : State) (fresh : IsFresh kinds net S) (n : ℕ) (roomy : IsRoomy S n) where
    -- a run of at most n entries from there leads to no blocked writer
    never_blocked : (G : List Entry) (N : State) → Run kinds net S G N → length G ≤ n → (p c : ℕ) → IsBlocked kinds net N p c → ⊥
    never_blocked G N run few p c b =
        let k = kept_run kinds net S fresh G N run in
        let w = (channel_of net c).writer in
        let at = (out_of-writer net p b.port c b.at).0 in
        let low = roomy c at in
        let up = k.rising [] (_, refl) c in
        let flow = ap length (k.fifo c) in
        let l1 = length-append (channel_of net c).tokens (puts (deeds G w) c) in
        let l2 = length-append (took (deeds G (channel_of net c).reader) c) (tokens N c) in
        let p1 = puts-length (deeds G w) c in
        let p2 = deeds-length G w in
        let full = b.full in
        omega arith

    -- a run in which p has done these deeds, and each process what it did in D
    pub record Further (most : ℕ) (D : ℕ → List Deed) (p : ℕ) (ds : List Deed) : Type 0 where
      pub history : List Entry
      pub state : State
      pub run : Run kinds net S history state
      pub few : length history ≤ most
      pub more : (q : ℕ) → IsPrefixOf (D q) (deeds history q)
      pub done : IsPrefixOf ds (deeds history p)

    -- the deed that follows what p has done is in the run already, or can be done after it
    pub advance :
        (G : List Entry) (N : State) → Run kinds net S G N → length G ≤ n → (p : ℕ) (ds : List Deed) (d : Deed) → IsPrefixOf ds (deeds G p)
        → Follows kinds net (deeds G) p ds d → Further (length G + 1) (deeds G) p (ds ++ d ∷ [])
    advance G N run few p ds d front f =
        let k = kept_run kinds net S fresh G N run in
        ⊎_elim
        (λ (same : ds ≡ deeds G p).
        let x = follows_does kinds net S G N k p d (subst (λ l. Follows kinds net (deeds G) p l d) same f) (λ c b. never_blocked G N run few p c b) in
        record {
          history = G ++ Did p d ∷ [];
          state = x.0;
          run = run_push kinds net S N x.0 G (Did p d) run x.1;
          few = omega (arith, length-append G (Did p d ∷ []));
          more = λ q. deeds_more kinds net G (Did p d) q;
          done = ([], append-nil (ds ++ d ∷ []) ∙ ap (λ l. l ++ d ∷ []) same ∙ sym (deeds_push_same G p d));
        })
        (λ (m : (e : Deed) × ((rest : List Deed) × (deeds G p ≡ ds ++ e ∷ rest))).
        record {
          history = G;
          state = N;
          run = run;
          few = omega arith;
          more = λ q. ([], append-nil (deeds G q));
          done = prefix_to_push ds (deeds G p) m.1.0 m.0 d m.1.1
              (follows_same kinds net (deeds G) (deeds G) p ds d m.0 (λ x. inl ([], append-nil (deeds G x))) f (k.follows p ds m.0 m.1.0 m.1.1));
        })
        (prefix_cases ds (deeds G p) front)

    -- a run in which each process has done what it did in D and what it did in D'
    pub record Ahead (most : ℕ) (D D' : ℕ → List Deed) : Type 0 where
      pub history : List Entry
      pub state : State
      pub run : Run kinds net S history state
      pub few : length history ≤ most
      pub first : (q : ℕ) → IsPrefixOf (D q) (deeds history q)
      pub second : (q : ℕ) → IsPrefixOf (D' q) (deeds history q)

    -- a run can go on until it has done all that another run did
    pub catch_up :
        (G : List Entry) (N : State) → Run kinds net S G N → (S' : State) → IsFresh kinds net S' → (F : List Entry) (M : State) → Run kinds net S' F M
        → length G + length F ≤ n → Ahead (length G + length F) (deeds G) (deeds F)
    catch_up G N run S' fresh' =
        run_induction kinds net (λ H _. length G + length H ≤ n → Ahead (length G + length H) (deeds G) (deeds H)) S'
        (λ h. record { history = G; state = N; run = run; few = omega arith; first = λ q. ([], append-nil (deeds G q)); second = λ q. (deeds G q, refl) })
        (λ H K e L before ih s h.
        let l = length-append H (e ∷ []) in
        step H K e L (kept_run kinds net S' fresh' H K before) h (ih (omega arith)) s)
      where
        step :
            (H : List Entry) (K : State) (e : Entry) (L : State) → Kept kinds net S' H K → length G + length (H ++ e ∷ []) ≤ n
            → Ahead (length G + length H) (deeds G) (deeds H) → Transition kinds net K e L → Ahead (length G + length (H ++ e ∷ [])) (deeds G) (deeds (H ++ e ∷ []))
        step H K (Grew c to) L j h a s =
            record {
              history = a.history;
              state = a.state;
              run = a.run;
              few = let f = a.few in omega (arith, length-append H (Grew c to ∷ []));
              first = a.first;
              second = λ q. subst (λ l. IsPrefixOf l (deeds a.history q)) (sym (deeds_push_grew H c to q)) (a.second q);
            }
        step H K (Did p d) L j h a s =
            let now = deed_follows kinds net S' H K j p d s.answer s.wanted s.is_deed in
            let few = a.few in
            let l = length-append H (Did p d ∷ []) in
            let f = advance a.history a.state a.run (omega arith) p (deeds H p) d (a.second p) (follows_more kinds net (deeds H) (deeds a.history) p (deeds H p) d a.second now) in
            let fewer = f.few in
            record {
              history = f.history;
              state = f.state;
              run = f.run;
              few = omega arith;
              first = λ q. prefix_trans _ _ _ (a.first q) (f.more q);
              second = at_deeds_push kinds net (λ x l. IsPrefixOf l (deeds f.history x)) H p d f.done (λ q. prefix_trans _ _ _ (a.second q) (f.more q));
            }

  -- a run of the network from other capacities is one of the network that has them
  pub run_back : (sizes : ℕ → ℕ) (F : List Entry) (N : State) → Run kinds net (start kinds (resized net sizes)) F N → IsRun kinds (resized net sizes) F N
  run_back sizes F N r = run_alike kinds net (resized net sizes) (wired_sym (resized net sizes) net (wired_resized net sizes)) (start kinds (resized net sizes)) F N r

  -- with capacities that are great enough for both, and for one entry more, one run does all that two runs did
  pub together :
      (S S' : State) → IsFresh kinds net S → IsFresh kinds net S' → (E F : List Entry) (M N : State) → Run kinds net S E M → Run kinds net S' F N
      → (let n = length E + length F + 1 in let R = start kinds (resized net (roomy_sizes n)) in
      Ahead R (fresh_resized kinds net (roomy_sizes n)) n (roomy_start n) (length E + length F) (deeds E) (deeds F))
  together S S' f f' E F M N run run' =
      let n = length E + length F + 1 in
      let R = start kinds (resized net (roomy_sizes n)) in
      let fresh = fresh_resized kinds net (roomy_sizes n) in
      let a = catch_up R fresh n (roomy_start n) [] R refl S f E M run (omega arith) in
      let few = a.few in
      let b = catch_up R fresh n (roomy_start n) a.history a.state a.run S' f' F N run' (omega arith) in
      let fewer = b.few in
      record {
        history = b.history;
        state = b.state;
        run = b.run;
        few = omega arith;
        first = λ q. prefix_trans _ _ _ (a.second q) (b.first q);
        second = b.second;
      }
