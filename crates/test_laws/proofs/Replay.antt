-- What is computed from a schedule is a run.
use Rattle.std.proofs.Common.{min, ◌≡◌, ◌≢◌, ◌<◌, ⊎_elim, ℕ, ◌+◌, suc, zero, ◌&&◌, ◌||◌, nat_lt, nat_le, if◌then◌else◌, Bool, true, false, List, [], ◌∷◌, Option, Some, None, is_none, length, get_or, refl, sym, ap, ◌∙◌, subst, arith, ltb-true, lt-ltb, leb-true, le-leb, eq-eqb, eqb-true}
use Rattle.std.proofs.lemmas.Bool.{cases_eq, and_parts, not-true}
use Rattle.std.proofs.lemmas.Option.{same_Some}
use Rattle.kpn_model.specs.declared.token.Token.{Token}
use Rattle.kpn_model.specs.declared.kinds.Act.{Act}
use Rattle.kpn_model.specs.declared.kinds.Act.TheVariants.{Read, Write, Stop}
use Rattle.kpn_model.specs.declared.kinds.Answer.{Answer}
use Rattle.kpn_model.specs.declared.history.Deed.{Deed}
use Rattle.kpn_model.specs.declared.history.Deed.TheVariants.{Took, Put, Stopped}
use Rattle.kpn_model.specs.declared.history.Entry.{Entry}
use Rattle.kpn_model.specs.declared.history.Entry.TheVariants.{Did, Grew}
use Rattle.kpn_model.specs.declared.history.End.{End}
use Rattle.kpn_model.specs.declared.history.End.TheVariants.{Terminated, Deadlock, Ceiling, Budget, Memory}
use Rattle.kpn_model.specs.Network.{Family, Network, in_of, out_of}
use Rattle.kpn_model.specs.declared.history.Status.{Status}
use Rattle.kpn_model.specs.declared.history.Status.TheVariants.{Live, Done}
use Rattle.kpn_model.specs.Semantics.{State, status, tokens, capacity, wants, start, IsPossible, IsQuiet, IsDeed, after_deed, with_channel, IsChosen, Transition, Run, IsBlocked}
use Rattle.kpn_model.specs.Endings.{IsOver, IsFinal}
use Rattle.kpn_model.specs.History.{Digest, digest}
use Rattle.kpn_laws.specs.Digested.{HasDigest}
use Rattle.test_laws.proofs.Schedule.{Turn, Go, Grow, first_taken, read_deed, write_deed, full_at, act_deed, answer_deed, act_full, answer_full, deed_of, full_of, all_still, comes_first, all_after, went, goes, grows_at, turned, entered, played_on, played, all_done, none_full, stuck_at, some_stuck, is_over, digested, digest_of}
use Rattle.kpn_laws.proofs.Transitions.{live_within, done_wants_none}
use Rattle.kpn_laws.proofs.Digests.{one_digest}

module _ (kinds : Family) (net : Network) where
  -- the deed computed for a read is what the read comes to
  read_sound : (M : State) (p k : ℕ) (o : Option ℕ) (d : Deed) → in_of net p k ≡ o → read_deed M o ≡ Some d → IsDeed kinds net M p (Read k) d
  read_sound M p k None d e h = cc
  read_sound M p k (Some c) d e h = first (tokens M c) refl h
    where
      first : (ts : List Token) → tokens M c ≡ ts → first_taken c ts ≡ Some d → IsDeed kinds net M p (Read k) d
      first [] g h = cc
      first (t ∷ ts) g h = let x : Took c t ≡ d = cc in subst (λ y. IsDeed kinds net M p (Read k) y) x (e, (ts, g))

  -- the deed computed for a write is what the write comes to
  write_sound :
      (M : State) (p k : ℕ) (t : Token) (o : Option ℕ) (d : Deed) → out_of net p k ≡ o → write_deed M t o ≡ Some d
      → IsDeed kinds net M p (Write k t) d
  write_sound M p k t None d e h = cc
  write_sound M p k t (Some c) d e h = room (nat_lt (length (tokens M c)) (capacity M c)) refl h
    where
      room : (b : Bool) → nat_lt (length (tokens M c)) (capacity M c) ≡ b → (if b then Some (Put c t) else None) ≡ Some d → IsDeed kinds net M p (Write k t) d
      room false g h = cc
      room true g h = let x : Put c t ≡ d = cc in subst (λ y. IsDeed kinds net M p (Write k t) y) x (e, refl, ltb-true _ _ g)

  -- the deed computed for an act is what the act comes to
  pub deed_sound : (M : State) (p : ℕ) (a : Act) (d : Deed) → act_deed kinds net M p a ≡ Some d → IsDeed kinds net M p a d
  deed_sound M p Stop d h = let x : Stopped ≡ d = cc in subst (λ y. IsDeed kinds net M p Stop y) x tt
  deed_sound M p (Read k) d h = read_sound M p k (in_of net p k) d refl h
  deed_sound M p (Write k t) d h = write_sound M p k t (out_of net p k) d refl h

  -- a deed is computed for a read from a channel with a token
  first_some : (c : ℕ) (ts : List Token) → ts ≢ [] → first_taken c ts ≡ None → ⊥
  first_some c [] ne h = ne refl
  first_some c (t ∷ ts) ne h = cc

  -- an act for which no deed is computed can't be done
  still_act : (M : State) (p : ℕ) (a : Act) → act_deed kinds net M p a ≡ None → IsPossible kinds net M p a → ⊥
  still_act M p Stop h x = cc
  still_act M p (Read k) h x = first_some x.0 (tokens M x.0) x.2 (ap (λ o. read_deed M o) (sym x.1) ∙ h)
  still_act M p (Write k t) h x =
      let room : nat_lt (length (tokens M x.0)) (capacity M x.0) ≡ true = lt-ltb _ _ x.2 in
      let g : (if nat_lt (length (tokens M x.0)) (capacity M x.0) then Some (Put x.0 t) else None) ≡ None = ap (λ o. write_deed M t o) (sym x.1) ∙ h in
      let f : Some (Put x.0 t) ≡ None = ap (λ b. if b then Some (Put x.0 t) else None) (sym room) ∙ g in
      cc

  -- nor can a process with such an answer go on
  pub still_answer : (M : State) (p : ℕ) (o : Option Answer) (a : Answer) → answer_deed kinds net M p o ≡ None → o ≡ Some a → IsPossible kinds net M p a.act → ⊥
  still_answer M p o a h e x = still_act M p a.act (ap (λ y. answer_deed kinds net M p y) (sym e) ∙ h) x

  -- if the test says that there is none, there is none
  none_from_test : {X : Type 0} (o : Option X) → is_none o ≡ true → o ≡ None
  none_from_test None e = refl
  none_from_test (Some x) e = cc

  -- if all processes are found unable to go on, each is
  still_below : (M : State) (n p : ℕ) → all_still kinds net M n ≡ true → p < n → deed_of kinds net M p ≡ None
  still_below M zero p h l = absurd (omega arith)
  still_below M (suc n) p h l =
      let both = and_parts _ _ h in
      ⊎_elim (λ (e : p ≡ n). ap (λ x. deed_of kinds net M x) e ∙ none_from_test _ both.0) (λ ne. still_below M n p both.1 (omega arith)) (cases_eq p n)

  -- a state in which no deed is computed is quiet
  pub still_sound : (M : State) → all_still kinds net M (length M.processes) ≡ true → IsQuiet kinds net M
  still_sound M h p x = still_answer M p (wants kinds net M p) x.answer (still_below M (length M.processes) p h (live_within kinds net M p x.answer x.wanted)) x.wanted x.possible

  -- if this test finds a full channel, p is blocked on it
  full_write :
      (M : State) (p k : ℕ) (t : Token) (o : Option ℕ) (c : ℕ) (a : Answer) → out_of net p k ≡ o → full_at M o ≡ Some c → wants kinds net M p ≡ Some a
      → a.act ≡ Write k t → IsBlocked kinds net M p c
  full_write M p k t None c a e h w act = cc
  full_write M p k t (Some b) c a e h w act = room (nat_le (capacity M b) (length (tokens M b))) refl h
    where
      room : (x : Bool) → nat_le (capacity M b) (length (tokens M b)) ≡ x → (if x then Some b else None) ≡ Some c → IsBlocked kinds net M p c
      room false g h = cc
      room true g h =
          let x : b ≡ c = cc in
          subst (λ y. IsBlocked kinds net M p y) x (record { answer = a; wanted = w; port = k; token = t; act = act; at = e; full = leb-true _ _ g })

  -- a process that wants an act is blocked on the full channel found for it
  full_act :
      (M : State) (p : ℕ) (x : Act) (c : ℕ) (a : Answer) → act_full kinds net M p x ≡ Some c → wants kinds net M p ≡ Some a → a.act ≡ x
      → IsBlocked kinds net M p c
  full_act M p Stop c a h w e = cc
  full_act M p (Read k) c a h w e = cc
  full_act M p (Write k t) c a h w e = full_write M p k t (out_of net p k) c a refl h w e

  -- and so is one that wants an answer
  full_answer : (M : State) (p : ℕ) (o : Option Answer) (c : ℕ) → answer_full kinds net M p o ≡ Some c → wants kinds net M p ≡ o → IsBlocked kinds net M p c
  full_answer M p None c h w = cc
  full_answer M p (Some a) c h w = full_act M p a.act c a h w refl

  -- a process for which a full channel is found is blocked on it
  pub full_sound : (M : State) (p c : ℕ) → full_of kinds net M p ≡ Some c → IsBlocked kinds net M p c
  full_sound M p c h = full_answer M p (wants kinds net M p) c h refl

  -- and for one that is blocked, that channel is found
  pub full_complete : (M : State) (p c : ℕ) → IsBlocked kinds net M p c → full_of kinds net M p ≡ Some c
  full_complete M p c b =
      ap (λ o. answer_full kinds net M p o) b.wanted ∙ ap (λ x. act_full kinds net M p x) b.act ∙ ap (λ o. full_at M o) b.at
      ∙ ap (λ x. if x then Some c else None) (le-leb (capacity M c) (length (tokens M c)) b.full)

  -- a channel that the test finds first comes before every other
  first_of_all :
      (M : State) (c n q d : ℕ) → all_after kinds net M c n ≡ true → q < n → full_of kinds net M q ≡ Some d
      → comes_first kinds net M c (Some d) ≡ true
  first_of_all M c zero q d h l f = absurd (omega arith)
  first_of_all M c (suc n) q d h l f =
      let both = and_parts _ _ h in
      ⊎_elim
      (λ (e : n ≡ q). ap (λ o. comes_first kinds net M c o) (sym f) ∙ ap (λ x. comes_first kinds net M c (full_of kinds net M x)) (sym e) ∙ both.0)
      (λ ne. first_of_all M c n q d both.1 (omega arith) f) (cases_eq n q)

  -- so it is the chosen one
  pub chosen_sound : (M : State) (p c : ℕ) → IsBlocked kinds net M p c → all_after kinds net M c (length M.processes) ≡ true → IsChosen kinds net M c
  chosen_sound M p c b h =
      let first : (q d : ℕ) → IsBlocked kinds net M q d → comes_first kinds net M c (Some d) ≡ true = λ q d x. first_of_all M c (length M.processes) q d h (live_within kinds net M q x.answer x.wanted) (full_complete M q d x) in
      record {
        writer = p;
        blocked = b;
        no_smaller = λ q d x. leb-true _ _ (and_parts _ _ (first q d x)).0;
        no_earlier = λ q d x e. leb-true _ _ (ap (λ y. if y then nat_le c d else true) (sym (eq-eqb (capacity M c) (capacity M d) e)) ∙ (and_parts _ _ (first q d x)).1);
      }

  -- what is computed of a deed is a step
  went_sound :
      (M : State) (p : ℕ) (a : Answer) (o : Option Deed) (r : Entry × State) → wants kinds net M p ≡ Some a → act_deed kinds net M p a.act ≡ o
      → went kinds net M p a.next o ≡ Some r → Transition kinds net M r.0 r.1
  went_sound M p a None r w e h = cc
  went_sound M p a (Some d) r w e h =
      let x : (Did p d, after_deed kinds net M p a.next d) ≡ r = cc in
      subst (λ (y : Entry × State). Transition kinds net M y.0 y.1) x (record { answer = a; wanted = w; is_deed = deed_sound M p a.act d e; leaves = refl })

  -- what is computed of an answer is a step
  goes_sound : (M : State) (p : ℕ) (o : Option Answer) (r : Entry × State) → wants kinds net M p ≡ o → goes kinds net M p o ≡ Some r → Transition kinds net M r.0 r.1
  goes_sound M p None r w h = cc
  goes_sound M p (Some a) r w h = went_sound M p a (act_deed kinds net M p a.act) r w refl h

  -- what is computed of a growth is a step
  grows_sound : (M : State) (p : ℕ) (o : Option ℕ) (r : Entry × State) → full_of kinds net M p ≡ o → grows_at kinds net M o ≡ Some r → Transition kinds net M r.0 r.1
  grows_sound M p None r f h = cc
  grows_sound M p (Some c) r f h = test (all_still kinds net M (length M.processes) && (all_after kinds net M c (length M.processes) && nat_lt (capacity M c) net.ceiling)) refl h
    where
      test :
          (b : Bool)
          → (all_still kinds net M (length M.processes) && (all_after kinds net M c (length M.processes) && nat_lt (capacity M c) net.ceiling)) ≡ b
          → (if b then Some (Grew c (min (capacity M c + net.step) net.ceiling), with_channel M c (tokens M c) (min (capacity M c + net.step) net.ceiling)) else None) ≡ Some r
          → Transition kinds net M r.0 r.1
      test false e h = cc
      test true e h =
          let x : (Grew c (min (capacity M c + net.step) net.ceiling), with_channel M c (tokens M c) (min (capacity M c + net.step) net.ceiling)) ≡ r = cc in
          let one = and_parts _ _ e in
          let two = and_parts _ _ one.1 in
          let b = full_sound M p c f in
          subst (λ (y : Entry × State). Transition kinds net M y.0 y.1) x
          (record {
            artificial = record { quiet = still_sound M one.0; writer = p; channel = c; blocked = b };
            chosen = chosen_sound M p c b two.0;
            below = ltb-true _ _ two.1;
            to_is = refl;
            leaves = refl;
          })

  -- what is computed of a turn is a step
  turned_sound : (M : State) (t : Turn) (r : Entry × State) → turned kinds net M t ≡ Some r → Transition kinds net M r.0 r.1
  turned_sound M (Go p) r h = goes_sound M p (wants kinds net M p) r refl h
  turned_sound M (Grow p) r h = grows_sound M p (full_of kinds net M p) r refl h

  -- what is computed of a schedule is a run
  pub played_sound : (ts : List Turn) (M : State) (r : List Entry × State) → played kinds net M ts ≡ Some r → Run kinds net M r.0 r.1
  played_sound [] M r h = let x : ([], M) ≡ r = cc in subst (λ (y : List Entry × State). Run kinds net M y.0 y.1) x refl
  played_sound (t ∷ ts) M r h = on (turned kinds net M t) refl h (played_sound ts)
    where
      rest_on :
          (s : Entry × State) → Transition kinds net M s.0 s.1 → (o : Option (List Entry × State))
          → ((q : List Entry × State) → o ≡ Some q → Run kinds net s.1 q.0 q.1) → entered s.0 o ≡ Some r → Run kinds net M r.0 r.1
      rest_on s st None ih h = cc
      rest_on s st (Some q) ih h =
          let x : (s.0 ∷ q.0, q.1) ≡ r = cc in
          subst (λ (y : List Entry × State). Run kinds net M y.0 y.1) x (s.1, st, ih q refl)

      on :
          (o : Option (Entry × State)) → turned kinds net M t ≡ o → played_on kinds net o (λ N. played kinds net N ts) ≡ Some r
          → ((N : State) (q : List Entry × State) → played kinds net N ts ≡ Some q → Run kinds net N q.0 q.1) → Run kinds net M r.0 r.1
      on None e h ih = cc
      on (Some s) e h ih = rest_on s (turned_sound M t s e) (played kinds net s.1 ts) (ih s.1) h

  -- if all processes are found to have stopped, each has
  pub done_all : (ss : List Status) → all_done kinds net ss ≡ true → (p : ℕ) → get_or ss p Done ≡ Done
  done_all [] h p = refl
  done_all (Done ∷ ss) h zero = refl
  done_all (Done ∷ ss) h (suc p) = done_all ss h p
  done_all (Live local last ∷ ss) h p = cc

  -- if not, some process is live
  pub live_some : (ss : List Status) → all_done kinds net ss ≡ false → (p : ℕ) × (get_or ss p Done ≢ Done)
  live_some [] h = cc
  live_some (Done ∷ ss) h = let r = live_some ss h in (suc r.0, r.1)
  live_some (Live local last ∷ ss) h = (0, λ e. cc)

  -- if all have stopped, no process can go on
  done_quiet : (M : State) → ((p : ℕ) → status M p ≡ Done) → IsQuiet kinds net M
  done_quiet M h p x = done_wants_none kinds net p (status M p) x.answer (h p) x.wanted

  -- if no process is found blocked, none is
  full_below : (M : State) (n p : ℕ) → none_full kinds net M n ≡ true → p < n → full_of kinds net M p ≡ None
  full_below M zero p h l = absurd (omega arith)
  full_below M (suc n) p h l =
      let both = and_parts _ _ h in
      ⊎_elim (λ (e : p ≡ n). ap (λ x. full_of kinds net M x) e ∙ none_from_test _ both.0) (λ ne. full_below M n p both.1 (omega arith)) (cases_eq p n)

  -- and no writer is blocked
  free_sound : (M : State) → none_full kinds net M (length M.processes) ≡ true → (p c : ℕ) → IsBlocked kinds net M p c → ⊥
  free_sound M h p c b =
      let none = full_below M (length M.processes) p h (live_within kinds net M p b.answer b.wanted) in
      let some = full_complete M p c b in
      cc

  -- a channel found first and at the ceiling is the chosen one, and is at the ceiling
  stuck_sound :
      (M : State) (p : ℕ) (o : Option ℕ) → full_of kinds net M p ≡ o → stuck_at kinds net M o ≡ true
      → (c : ℕ) × IsBlocked kinds net M p c × IsChosen kinds net M c × (capacity M c ≡ net.ceiling)
  stuck_sound M p None f h = cc
  stuck_sound M p (Some c) f h =
      let both = and_parts _ _ h in
      let b = full_sound M p c f in
      (c, b, chosen_sound M p c b both.0, eqb-true _ _ both.1)

  -- some process is blocked on such a channel
  abbrev IsStuck : State → Type 0
  IsStuck M = (p : ℕ) × ((c : ℕ) × IsBlocked kinds net M p c × IsChosen kinds net M c × (capacity M c ≡ net.ceiling))

  -- it is this process, or one that was found before
  either_stuck :
      (M : State) (n : ℕ) (here below : Bool) → stuck_at kinds net M (full_of kinds net M n) ≡ here → (here || below) ≡ true
      → (below ≡ true → IsStuck M) → IsStuck M
  either_stuck M n true below e h later = (n, stuck_sound M n (full_of kinds net M n) refl e)
  either_stuck M n false below e h later = later h

  -- so it is if one of the processes below n is blocked on such a channel
  some_stuck_sound : (M : State) (n : ℕ) → some_stuck kinds net M n ≡ true → IsStuck M
  some_stuck_sound M zero h = cc
  some_stuck_sound M (suc n) h = either_stuck M n (stuck_at kinds net M (full_of kinds net M n)) (some_stuck kinds net M n) refl h (some_stuck_sound M n)

  -- a run that the test finds over is over
  pub over_sound : (M : State) (a : End) → is_over kinds net M a ≡ true → IsOver kinds net M a
  over_sound M Terminated h = let d = done_all M.processes h in (done_quiet M d, d)
  over_sound M Deadlock h =
      let one = and_parts _ _ h in
      let two = and_parts _ _ one.1 in
      (still_sound M two.0, live_some M.processes (not-true _ one.0), free_sound M two.1)
  over_sound M Ceiling h =
      let one = and_parts _ _ h in
      let s = some_stuck_sound M (length M.processes) one.1 in
      (record { quiet = still_sound M one.0; writer = s.0; channel = s.1.0; blocked = s.1.1 }, (s.1.0, s.1.2, s.1.3))
  over_sound M Budget h = cc
  over_sound M Memory h = cc

  -- the digest of one run that is over is that of all
  all_have : (E : List Entry) (M : State) (d : Digest) → IsFinal kinds net E M d.cause → digest kinds net d.cause E M ≡ d → HasDigest kinds net d
  all_have E M d f e =
      record { history = E; state = M; final = f; digest_is = e; others = λ F N b g. one_digest kinds net F E N M b d.cause g f ∙ e }

  -- the digest that is computed for a played schedule is that of all runs
  digested_sound :
      (o : Option (List Entry × State)) (d : Digest) → ((r : List Entry × State) → o ≡ Some r → Run kinds net (start kinds net) r.0 r.1)
      → digested kinds net d.cause o ≡ Some d → HasDigest kinds net d
  digested_sound None d run h = cc
  digested_sound (Some r) d run h = test (is_over kinds net r.1 d.cause) refl h
    where
      test : (b : Bool) → is_over kinds net r.1 d.cause ≡ b → (if b then Some (digest kinds net d.cause r.0 r.1) else None) ≡ Some d → HasDigest kinds net d
      test false e h = cc
      test true e h = all_have r.0 r.1 d (record { run = run r refl; over = over_sound r.1 d.cause e }) (same_Some _ _ h)

  -- the digest of a schedule that plays to an end is that of all runs
  pub digest_from_schedule : (ts : List Turn) (d : Digest) → digest_of kinds net d.cause ts ≡ Some d → HasDigest kinds net d
  digest_from_schedule ts d h = digested_sound (played kinds net (start kinds net) ts) d (λ r e. played_sound ts (start kinds net) r e) h
