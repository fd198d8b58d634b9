-- For each changed law of the least solution a small network for which it fails.
use Rattle.std.proofs.Common.{◌≡◌, ⊎_elim, ℕ, zero, suc, List, [], ◌∷◌, ◌++◌, length, refl, sym, ap, ◌∙◌, subst, arith, append-nil, ne_eqb, slice_get, Some, None}
use Rattle.std.proofs.lemmas.Option.{same_Some}
use Rattle.kpn_model.specs.declared.token.Token.{Token}
use Rattle.kpn_model.specs.declared.token.Token.TheVariants.{Word}
use Rattle.kpn_model.specs.declared.kinds.Act.{Act}
use Rattle.kpn_model.specs.declared.kinds.Act.TheVariants.{Read, Write}
use Rattle.kpn_model.specs.declared.kinds.Answer.{Answer}
use Rattle.kpn_model.specs.declared.history.Deed.{Deed}
use Rattle.kpn_model.specs.declared.history.Deed.TheVariants.{Took, Put, Stopped}
use Rattle.kpn_model.specs.declared.history.Entry.{Entry}
use Rattle.kpn_model.specs.declared.history.End.TheVariants.{Terminated, Deadlock}
use Rattle.kpn_model.specs.Network.{Family, Network, channel_of, in_of}
use Rattle.kpn_model.specs.Semantics.{State, start}
use Rattle.kpn_model.specs.History.{IsPrefixOf}
use Rattle.kpn_standard.specs.Standard.{standard}
use Rattle.kpn_laws.specs.Alone.{Streams, BeginsWith, puts, took, IsDeedAlone, DoesAlone}
use Rattle.kpn_laws.specs.Equations.{listed, written, Obeys, IsSolution}
use Rattle.kpn_laws.proofs.Lists.{prefix_cases}
use Rattle.kpn_laws.proofs.Sequences.{begins_shorter}
use Rattle.kpn_laws.proofs.Alone.{FollowsAlone, alone_follows, alone_took, alone_put, alone_stopped}
use Rattle.kpn_laws.proofs.Solutions.{written_prefix}
use Rattle.kpn_laws.proofs.Continuity.{is_function}
use Rattle.test_laws.proofs.Schedule.{Go}
use Rattle.test_laws.proofs.Replay.{played_sound, over_sound}
use Rattle.test_laws.specs.WorkedEnds.{dead_from_the_start, sink_stops_early}
use Rattle.test_laws.specs.WorkedRoom.{ring}
use Rattle.test_laws.specs.ChangedSolutions.{EndIsGreatest, TakenIsSolution, BelowWithoutStart}
use Rattle.test_laws.proofs.Led.{led}

module _ (kinds : Family) (net : Network) where
  -- if no deed follows those that p does alone, p does no others alone
  all_alone :
      (T : Streams) (p : ℕ) (es : List Deed) → DoesAlone kinds net T p es → ((d : Deed) → FollowsAlone kinds net T p es d → ⊥) → (ds : List Deed)
      → DoesAlone kinds net T p ds → IsPrefixOf ds es
  all_alone T p es h stuck ds g =
      ⊎_elim (λ x. x)
      (λ (back : IsPrefixOf es ds).
      ⊎_elim
      (λ (same : es ≡ ds). ([], append-nil ds ∙ sym same))
      (λ (m : (d : Deed) × ((rest : List Deed) × (ds ≡ es ++ d ∷ rest))). absurd (stuck m.0 (alone_follows kinds net T p ds g es m.0 m.1.0 m.1.1)))
      (prefix_cases es ds back))
      (is_function kinds net T p ds es g h)

  -- and then its equation for c asks for no more than what these write
  obeys_if :
      (T : Streams) (c : ℕ) (es : List Deed) → DoesAlone kinds net T (channel_of net c).writer es
      → ((d : Deed) → FollowsAlone kinds net T (channel_of net c).writer es d → ⊥) → BeginsWith (T c) (written net c es) → (ds : List Deed)
      → DoesAlone kinds net T (channel_of net c).writer ds → BeginsWith (T c) (written net c ds)
  obeys_if T c es h stuck b ds g =
      let front = written_prefix kinds net c ds es (all_alone T (channel_of net c).writer es h stuck ds g) in
      begins_shorter (T c) (written net c ds) front.0 (subst (λ l. BeginsWith (T c) l) (sym front.1) b)

-- one token on both channels of the copy that waits for its own output
abbrev sevens : Streams
sevens = listed ((Word 7 ∷ []) ∷ (Word 7 ∷ []) ∷ [])

-- for these the copy alone takes the token and writes it to both
abbrev copied : List Deed
copied = Took 0 (Word 7) ∷ Put 0 (Word 7) ∷ Put 1 (Word 7) ∷ []

copies_alone : DoesAlone standard dead_from_the_start sevens 0 copied
copies_alone = (
  record { next = 1 ∷ 0 ∷ 0 ∷ 0 ∷ []; act = Read 0 },
  refl,
  (refl, refl),
  (
    record { next = 2 ∷ 7 ∷ 0 ∷ 0 ∷ []; act = Write 0 (Word 7) },
    refl,
    (refl, refl),
    (record { next = 0 ∷ 0 ∷ 0 ∷ 0 ∷ []; act = Write 1 (Word 7) }, refl, (refl, refl), tt),
  ),
)

-- and then it waits
copy_waits : (d : Deed) → FollowsAlone standard dead_from_the_start sevens 0 copied d → ⊥
copy_waits d f =
    let w : Some (record { next = 1 ∷ 0 ∷ 0 ∷ 0 ∷ []; act = Read 0 }) ≡ Some f.answer = f.wanted in
    no_deed d f.answer.act (ap (λ (x : Answer). x.act) (same_Some _ _ w)) f.is_deed
  where
    no_deed : (d : Deed) (a : Act) → Read 0 ≡ a → IsDeedAlone standard dead_from_the_start sevens 0 copied a d → ⊥
    no_deed (Took c t) a e h =
        let r = alone_took standard dead_from_the_start sevens 0 copied c t a h in
        let k : 0 ≡ r.0 = cc in
        let at : Some 0 ≡ Some c = ap (λ x. in_of dead_from_the_start 0 x) k ∙ r.2 in
        let none : None ≡ Some t = ap (λ x. sevens x (length (took copied x))) (same_Some _ _ at) ∙ r.3 in
        cc
    no_deed (Put c t) a e h = let r = alone_put standard dead_from_the_start sevens 0 copied c t a h in cc
    no_deed Stopped a e h = let r = alone_stopped standard dead_from_the_start sevens 0 copied a h in cc

-- it puts nothing on other channels
copied_elsewhere : (c : ℕ) → puts copied (suc (suc c)) ≡ []
copied_elsewhere c =
    let a : 0 ≡ suc (suc c) → ⊥ = λ (e : 0 ≡ suc (suc c)). absurd (omega arith) in
    let b : 1 ≡ suc (suc c) → ⊥ = λ (e : 1 ≡ suc (suc c)). absurd (omega arith) in
    simp (ne_eqb 0 (suc (suc c)) a, ne_eqb 1 (suc (suc c)) b)

-- these streams are a solution
sevens_solve : IsSolution standard dead_from_the_start sevens
sevens_solve = record { obeys = obeys; no_more = no_more }
  where
    obeys : Obeys standard dead_from_the_start sevens
    obeys zero = obeys_if standard dead_from_the_start sevens 0 copied copies_alone copy_waits (refl, tt)
    obeys (suc zero) = obeys_if standard dead_from_the_start sevens 1 copied copies_alone copy_waits (refl, tt)
    obeys (suc (suc c)) = obeys_if standard dead_from_the_start sevens (suc (suc c)) copied copies_alone copy_waits (subst (λ l. BeginsWith (sevens (suc (suc c))) l) (sym (copied_elsewhere c)) tt)

    no_more : (c n : ℕ) (t : Token) → sevens c n ≡ Some t → (ds : List Deed) × DoesAlone standard dead_from_the_start sevens (channel_of dead_from_the_start c).writer ds × (slice_get (written dead_from_the_start c ds) n ≡ Some t)
    no_more zero n t e = (copied, copies_alone, e)
    no_more (suc zero) n t e = (copied, copies_alone, e)
    no_more (suc (suc c)) n t e = cc

-- a run that is not the greatest solution: nothing happens
pub greatest_fails : EndIsGreatest → ⊥
greatest_fails h =
    let S = start standard dead_from_the_start in
    let e = h dead_from_the_start [] S Deadlock (record { run = refl; over = over_sound standard dead_from_the_start S Deadlock refl }) tt sevens sevens_solve 0 0 (Word 7) refl in
    cc

-- the sink has stopped after two tokens, and the counter after three
abbrev stopped_early : List Entry × State
stopped_early = led sink_stops_early (start standard sink_stops_early) (Go 0 ∷ Go 1 ∷ Go 0 ∷ Go 1 ∷ Go 0 ∷ Go 1 ∷ Go 0 ∷ [])

-- what the sink took is not all that the counter writes
pub taken_fails : TakenIsSolution → ⊥
taken_fails h =
    let S = start standard sink_stops_early in
    let run = played_sound standard sink_stops_early (Go 0 ∷ Go 1 ∷ Go 0 ∷ Go 1 ∷ Go 0 ∷ Go 1 ∷ Go 0 ∷ []) S stopped_early refl in
    let s = h sink_stops_early stopped_early.0 stopped_early.1 Terminated (record { run = run; over = over_sound standard sink_stops_early stopped_early.1 Terminated refl }) tt in
    let b = s.obeys 0 (Put 0 (Word 1) ∷ Put 0 (Word 2) ∷ Put 0 (Word 3) ∷ []) (
      record { next = 1 ∷ 0 ∷ 0 ∷ 0 ∷ []; act = Write 0 (Word 1) },
      refl,
      (refl, refl),
      (
        record { next = 2 ∷ 0 ∷ 0 ∷ 0 ∷ []; act = Write 0 (Word 2) },
        refl,
        (refl, refl),
        (record { next = 3 ∷ 0 ∷ 0 ∷ 0 ∷ []; act = Write 0 (Word 3) }, refl, (refl, refl), tt),
      ),
    ) in
    let third : None ≡ Some (Word 3) = b.1.1.0 in
    cc

-- no token anywhere
abbrev nothing : Streams
nothing c n = None

-- with none the process of the ring waits at once
ring_waits : (d : Deed) → FollowsAlone standard ring nothing 0 [] d → ⊥
ring_waits d f =
    let w : Some (record { next = 1 ∷ 0 ∷ 0 ∷ 0 ∷ []; act = Read 0 }) ≡ Some f.answer = f.wanted in
    no_deed d f.answer.act (ap (λ (x : Answer). x.act) (same_Some _ _ w)) f.is_deed
  where
    no_deed : (d : Deed) (a : Act) → Read 0 ≡ a → IsDeedAlone standard ring nothing 0 [] a d → ⊥
    no_deed (Took c t) a e h = let none : None ≡ Some t = (alone_took standard ring nothing 0 [] c t a h).3 in cc
    no_deed (Put c t) a e h = let r = alone_put standard ring nothing 0 [] c t a h in cc
    no_deed Stopped a e h = let r = alone_stopped standard ring nothing 0 [] a h in cc

-- so it writes nothing
ring_silent : (c : ℕ) (ds : List Deed) → DoesAlone standard ring nothing 0 ds → BeginsWith (nothing c) (puts ds c)
ring_silent c ds g =
    let front = all_alone standard ring nothing 0 [] tt ring_waits ds g in
    nil ds front
  where
    nil : (ds : List Deed) → IsPrefixOf ds [] → BeginsWith (nothing c) (puts ds c)
    nil [] x = tt
    nil (d ∷ ds) x = let e : d ∷ (ds ++ x.0) ≡ [] = x.1 in absurd cc

-- equations without the start tokens: the ring has a token at its start
pub no_start_fails : BelowWithoutStart → ⊥
no_start_fails h =
    let b = h ring [] (start standard ring) nothing refl obeys 0 in
    let first : None ≡ Some (Word 7) = b.0 in
    cc
  where
    obeys : (c : ℕ) (ds : List Deed) → DoesAlone standard ring nothing (channel_of ring c).writer ds → BeginsWith (nothing c) (puts ds c)
    obeys zero ds g = ring_silent zero ds g
    obeys (suc c) ds g = ring_silent (suc c) ds g
