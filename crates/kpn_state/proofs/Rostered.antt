-- The queue and the counts while processes are moved.
use Rattle.std.proofs.Common.{◌≡◌, ◌≢◌, ◌⊎◌, ⊎_elim, List, [], ◌∷◌, ◌++◌, length, length-set, length-append, refl, sym, ap, ◌∙◌, arith, ℕ, zero, suc, ◌+◌, ◌<◌, ◌≤◌, Bool, true, false, cond, Some, None, set, drop, slice_get}
use Rattle.std.specs.List.{list_any, list_all, count_by}
use Rattle.std.proofs.lemmas.Bool.{cases_eq, eq-eqb, ne_eqb, lt-ltb}
use Rattle.std.proofs.lemmas.List.Sums.{sum_by-cons, sum_by_push, sum_by-set, count_by-le-length, get_or-le-sum_by}
use Rattle.std.specs.Prelude.{nat_eq, nat_lt}
use Rattle.kpn_model.specs.declared.kinds.Answer.{Answer}
use Rattle.kpn_state.specs.declared.standing.Standing.{Standing}
use Rattle.kpn_state.specs.declared.standing.Standing.TheVariants.{Ready, Out, Parked, Stopped}
use Rattle.kpn_state.specs.Standings.{standing, is_busy, is_ready, is_out, is_live, is_parked, has_stopped}
use Rattle.kpn_state.specs.Rosters.{times, Agrees, queue_after, without}
use Rattle.std.proofs.lemmas.List.{set-get_or}
use Rattle.kpn_state.proofs.Withdrawn.{times_gone, times_stays, length_without}
use Rattle.kpn_state.proofs.Placed.{standing_set_same, standing_set_other, standing_within, ready_not_ended}

abbrev one_if : Bool → ℕ
one_if b = cond b 1 0

-- 1 for a process that passes the test
abbrev weight : (Standing → Bool) → Standing → ℕ
weight f x = cond (f x) 1 0

parked_not_ready : (a : Answer) → Parked a ≢ Ready
parked_not_ready a e = cc

pub not_ready : (x : Standing) → x ≢ Ready → is_ready x ≡ false
not_ready Ready n = absurd (n refl)
not_ready Out n = refl
not_ready (Parked a) n = refl
not_ready Stopped n = refl

pub others_not_ready : (x : Standing) → (x ≡ Out) ⊎ (((a : Answer) × (x ≡ Parked a)) ⊎ (x ≡ Stopped)) → x ≢ Ready
others_not_ready Ready h e = ⊎_elim (λ o. cc) (λ r. ⊎_elim (λ p. parked_not_ready p.0 (sym p.1)) (λ s. cc) r) h
others_not_ready Out h e = cc
others_not_ready (Parked a) h e = cc
others_not_ready Stopped h e = cc

is_ready_ready : (x : Standing) → is_ready x ≡ true → x ≡ Ready
is_ready_ready Ready e = refl
is_ready_ready Out e = cc
is_ready_ready (Parked a) e = cc
is_ready_ready Stopped e = cc

-- a queue with one more
times_push : (queue : List ℕ) (p q : ℕ) → times (queue ++ p ∷ []) q ≡ times queue q + cond (nat_eq p q) 1 0
times_push queue p q = sum_by_push (λ x. cond (nat_eq x q) 1 0) queue p

times_cons : (queue : List ℕ) (p q : ℕ) → times (p ∷ queue) q ≡ cond (nat_eq p q) 1 0 + times queue q
times_cons queue p q = sum_by-cons (λ x. cond (nat_eq x q) 1 0) p queue

one_here : (p q : ℕ) → p ≡ q → one_if (nat_eq p q) ≡ 1
one_here p q e = ap one_if (eq-eqb p q e)

none_there : (p q : ℕ) → p ≢ q → one_if (nat_eq p q) ≡ 0
none_there p q n = ap one_if (ne_eqb p q n)

-- a queue without its head
head_times : (queue : List ℕ) (p : ℕ) → slice_get queue 0 ≡ Some p → (q : ℕ) → times queue q ≡ cond (nat_eq p q) 1 0 + times (drop 1 queue) q
head_times [] p e q = cc
head_times (x ∷ xs) p e q = let s : x ≡ p = cc in times_cons xs x q ∙ ap (λ y. cond (nat_eq y q) 1 0 + times xs q) s

head_length : (queue : List ℕ) (p : ℕ) → slice_get queue 0 ≡ Some p → length queue ≡ length (drop 1 queue) + 1
head_length [] p e = cc
head_length (x ∷ xs) p e = omega arith

-- a process that passes the test is counted
counted : (f : Standing → Bool) (standings : List Standing) (p : ℕ) (x : Standing) → p < length standings → count_by f (set standings p x) + weight f (standing standings p) ≡ count_by f standings + weight f x
counted f standings p x within = sum_by-set (weight f) standings p x Stopped within

-- some process is ready or out if one is counted
pub busy_counted : (standings : List Standing) → list_any is_busy standings ≡ nat_lt 0 (count_by is_ready standings + count_by is_out standings)
busy_counted [] = refl
busy_counted (Ready ∷ xs) =
    let r = sum_by-cons (weight is_ready) Ready xs in
    sym (lt-ltb 0 (count_by is_ready (Ready ∷ xs) + count_by is_out (Ready ∷ xs)) (omega arith))
busy_counted (Out ∷ xs) =
    let o = sum_by-cons (weight is_out) Out xs in
    sym (lt-ltb 0 (count_by is_ready (Out ∷ xs) + count_by is_out (Out ∷ xs)) (omega arith))
busy_counted (Parked a ∷ xs) =
    let r = sum_by-cons (weight is_ready) (Parked a) xs in
    let o = sum_by-cons (weight is_out) (Parked a) xs in
    let same : count_by is_ready xs + count_by is_out xs ≡ count_by is_ready (Parked a ∷ xs) + count_by is_out (Parked a ∷ xs) = omega arith in
    busy_counted xs ∙ ap (λ n. nat_lt 0 n) same
busy_counted (Stopped ∷ xs) =
    let r = sum_by-cons (weight is_ready) Stopped xs in
    let o = sum_by-cons (weight is_out) Stopped xs in
    let same : count_by is_ready xs + count_by is_out xs ≡ count_by is_ready (Stopped ∷ xs) + count_by is_out (Stopped ∷ xs) = omega arith in
    busy_counted xs ∙ ap (λ n. nat_lt 0 n) same

-- all have stopped if none is counted as live
pub stopped_counted : (standings : List Standing) → list_all has_stopped standings ≡ nat_eq (count_by is_live standings) 0
stopped_counted [] = refl
stopped_counted (Stopped ∷ xs) =
    let c = sum_by-cons (weight is_live) Stopped xs in
    let same : count_by is_live xs ≡ count_by is_live (Stopped ∷ xs) = omega arith in
    stopped_counted xs ∙ ap (λ n. nat_eq n 0) same
stopped_counted (Ready ∷ xs) =
    let c = sum_by-cons (weight is_live) Ready xs in
    sym (ne_eqb (count_by is_live (Ready ∷ xs)) 0 (λ e. omega arith))
stopped_counted (Out ∷ xs) =
    let c = sum_by-cons (weight is_live) Out xs in
    sym (ne_eqb (count_by is_live (Out ∷ xs)) 0 (λ e. omega arith))
stopped_counted (Parked a ∷ xs) =
    let c = sum_by-cons (weight is_live) (Parked a) xs in
    sym (ne_eqb (count_by is_live (Parked a ∷ xs)) 0 (λ e. omega arith))

-- a live process is ready, out or parked
pub live_counted : (standings : List Standing) → count_by is_live standings ≡ count_by is_ready standings + count_by is_out standings + count_by is_parked standings
live_counted [] = refl
live_counted (x ∷ xs) =
    let rest = live_counted xs in
    let l = sum_by-cons (weight is_live) x xs in
    let r = sum_by-cons (weight is_ready) x xs in
    let o = sum_by-cons (weight is_out) x xs in
    let p = sum_by-cons (weight is_parked) x xs in
    let one = one_of x in
    omega arith
  where
    one_of : (x : Standing) → weight is_live x ≡ weight is_ready x + weight is_out x + weight is_parked x
    one_of Ready = refl
    one_of Out = refl
    one_of (Parked a) = refl
    one_of Stopped = refl

-- a process is live or has stopped
pub live_or_stopped : (x : Standing) → weight is_live x + weight has_stopped x ≡ 1
live_or_stopped Ready = refl
live_or_stopped Out = refl
live_or_stopped (Parked a) = refl
live_or_stopped Stopped = refl

-- the list with one more process
standing_last : (standings : List Standing) (p : ℕ) (x : Standing) → p ≡ length standings → standing (standings ++ x ∷ []) p ≡ x
standing_last [] zero x e = refl
standing_last [] (suc p) x e = absurd (omega arith)
standing_last (y ∷ ys) zero x e = absurd (omega arith)
standing_last (y ∷ ys) (suc p) x e = standing_last ys p x (omega arith)

standing_before : (standings : List Standing) (p : ℕ) (x : Standing) → p ≢ length standings → standing (standings ++ x ∷ []) p ≡ standing standings p
standing_before [] zero x n = absurd (n refl)
standing_before [] (suc p) x n = refl
standing_before (y ∷ ys) zero x n = refl
standing_before (y ∷ ys) (suc p) x n = standing_before ys p x (λ e. n (omega arith))

standing_past : (standings : List Standing) (p : ℕ) → p ≡ length standings → standing standings p ≡ Stopped
standing_past [] p e = refl
standing_past (y ∷ ys) zero e = absurd (omega arith)
standing_past (y ∷ ys) (suc p) e = standing_past ys p (omega arith)

pub kept_none : (capacity : ℕ) → Agrees [] [] capacity 0 0
kept_none capacity = record { queued = λ p. refl; ready = refl; room_for_all = omega arith; out_is = refl; live_is = refl }

pub kept_more : (standings : List Standing) (queue : List ℕ) (capacity out live : ℕ) → (n : ℕ) → n ≡ length standings → Agrees standings queue capacity out live → n < capacity → Agrees (standings ++ Ready ∷ []) (queue_after queue n Ready) capacity out (live + 1)
kept_more standings queue capacity out live n is k below =
    record {
      queued = λ p. times_push queue n p ∙ ⊎_elim
          (λ (e : p ≡ n).
          let none : times queue p ≡ 0 = k.queued p ∙ ap (weight is_ready) (standing_past standings p (e ∙ is)) in
          let one = one_here n p (sym e) in
          let here : weight is_ready (standing (standings ++ Ready ∷ []) p) ≡ 1 = ap (weight is_ready) (standing_last standings p Ready (e ∙ is)) in
          omega arith)
          (λ (ne : p ≢ n).
          let other = none_there n p (λ e. ne (sym e)) in
          let before = k.queued p in
          let same = ap (weight is_ready) (standing_before standings p Ready (λ e. ne (e ∙ sym is))) in
          omega arith)
          (cases_eq p n);
      ready = let l = length-append queue (n ∷ []) in let c = sum_by_push (weight is_ready) standings Ready in let r = k.ready in omega arith;
      room_for_all = let l = length-append standings (Ready ∷ []) in omega arith;
      out_is = let c = sum_by_push (weight is_out) standings Ready in let o = k.out_is in omega arith;
      live_is = let c = sum_by_push (weight is_live) standings Ready in let o = k.live_is in omega arith;
    }

module _ (standings : List Standing) (queue : List ℕ) (capacity out live : ℕ) (k : Agrees standings queue capacity out live) where
  -- a process that is out is counted
  pub out_within : (p : ℕ) → p < length standings → weight is_out (standing standings p) ≤ out
  out_within p within = let o = k.out_is in let l = get_or-le-sum_by (weight is_out) standings p Stopped within in omega arith

  pub live_within : (p : ℕ) → p < length standings → weight is_live (standing standings p) ≤ live
  live_within p within = let o = k.live_is in let l = get_or-le-sum_by (weight is_live) standings p Stopped within in omega arith

  pub out_few : out ≤ length standings
  out_few = let o = k.out_is in let l = count_by-le-length is_out standings in omega arith

  pub live_few : live ≤ length standings
  live_few = let o = k.live_is in let l = count_by-le-length is_live standings in omega arith

  pub queue_few : length queue ≤ length standings
  queue_few = let r = k.ready in let l = count_by-le-length is_ready standings in omega arith

  -- if the queue is empty none is ready
  pub none_queued : slice_get queue 0 ≡ None → (p : ℕ) → standing standings p ≢ Ready
  none_queued e p r = empty queue e (k.queued p ∙ ap (weight is_ready) r)
    where
      empty : (q : List ℕ) → slice_get q 0 ≡ None → times q p ≡ 1 → ⊥
      empty [] e h = omega arith
      empty (x ∷ xs) e h = cc

  module _ (p : ℕ) (within : p < length standings) (idle : standing standings p ≢ Ready) where
    -- there is room in the queue for a process that isn't ready
    pub queue_room : length queue < capacity
    queue_room =
        let c = counted is_ready standings p Ready within in
        let w : weight is_ready (standing standings p) ≡ 0 = ap one_if (not_ready (standing standings p) idle) in
        let l = count_by-le-length is_ready (set standings p Ready) in
        let s = length-set standings p Ready in
        let r = k.ready in
        let m = k.room_for_all in
        omega arith

    queued_moved : (x : Standing) (b : Bool) → is_ready x ≡ b → (q : ℕ) → times (cond b (queue ++ p ∷ []) queue) q ≡ weight is_ready (standing (set standings p x) q)
    queued_moved x true r q =
        times_push queue p q ∙ ⊎_elim
        (λ (e : q ≡ p).
        let none : times queue q ≡ 0 = k.queued q ∙ ap (λ y. weight is_ready (standing standings y)) e ∙ ap one_if (not_ready (standing standings p) idle) in
        let one = one_here p q (sym e) in
        let here : weight is_ready (standing (set standings p x) q) ≡ 1 = ap (λ y. weight is_ready (standing (set standings p x) y)) e ∙ ap (weight is_ready) (standing_set_same standings p x within) ∙ ap one_if r in
        omega arith)
        (λ (ne : q ≢ p).
        let other = none_there p q (λ e. ne (sym e)) in
        let before = k.queued q in
        let same = ap (weight is_ready) (standing_set_other standings p q x ne) in
        omega arith)
        (cases_eq q p)
    queued_moved x false r q =
        ⊎_elim
        (λ (e : q ≡ p).
        let none : times queue q ≡ 0 = k.queued q ∙ ap (λ y. weight is_ready (standing standings y)) e ∙ ap one_if (not_ready (standing standings p) idle) in
        let here : weight is_ready (standing (set standings p x) q) ≡ 0 = ap (λ y. weight is_ready (standing (set standings p x) y)) e ∙ ap (weight is_ready) (standing_set_same standings p x within) ∙ ap one_if r in
        omega arith)
        (λ (ne : q ≢ p). k.queued q ∙ sym (ap (weight is_ready) (standing_set_other standings p q x ne)))
        (cases_eq q p)

    longer : (x : Standing) (b : Bool) → is_ready x ≡ b → length (cond b (queue ++ p ∷ []) queue) ≡ length queue + weight is_ready x
    longer x true r = let l = length-append queue (p ∷ []) in let w : weight is_ready x ≡ 1 = ap one_if r in omega arith
    longer x false r = let w : weight is_ready x ≡ 0 = ap one_if r in omega arith

    -- moving it keeps the invariant
    pub kept_moved :
        (x : Standing) (out_new live_new : ℕ) → out_new + weight is_out (standing standings p) ≡ out + weight is_out x → live_new + weight has_stopped x ≡ live + weight has_stopped (standing standings p)
        → Agrees (set standings p x) (queue_after queue p x) capacity out_new live_new
    kept_moved x out_new live_new o s = record {
      queued = queued_moved x (is_ready x) refl;
      ready =
          let l = longer x (is_ready x) refl in
          let c = counted is_ready standings p x within in
          let w : weight is_ready (standing standings p) ≡ 0 = ap one_if (not_ready (standing standings p) idle) in
          let r = k.ready in
          omega arith;
      room_for_all = let m = k.room_for_all in let l = length-set standings p x in omega arith;
      out_is = let c = counted is_out standings p x within in let e = k.out_is in omega arith;
      live_is = let c = counted is_live standings p x within in let e = k.live_is in let a = live_or_stopped x in let b = live_or_stopped (standing standings p) in omega arith;
    }

  -- the process at the head of the queue is ready, and leaves the queue as it goes out
  pub front_ready : (p : ℕ) → slice_get queue 0 ≡ Some p → standing standings p ≡ Ready
  front_ready p e = is_ready_ready _ (passes (is_ready (standing standings p)) refl)
    where
      at_least : (q : List ℕ) → slice_get q 0 ≡ Some p → 1 ≤ times q p
      at_least [] e = cc
      at_least (x ∷ xs) e = let s : x ≡ p = cc in let o = one_here x p s in let c = times_cons xs x p in omega arith

      passes : (b : Bool) → is_ready (standing standings p) ≡ b → is_ready (standing standings p) ≡ true
      passes true h = h
      passes false h = let n : times queue p ≡ 0 = k.queued p ∙ ap one_if h in let l = at_least queue e in absurd (omega arith)

  pub front_within : (p : ℕ) → slice_get queue 0 ≡ Some p → p < length standings
  front_within p e = standing_within standings p (λ f. ready_not_ended (sym (front_ready p e) ∙ f))

  pub kept_sent : (p : ℕ) → slice_get queue 0 ≡ Some p → Agrees (set standings p Out) (drop 1 queue) capacity (out + 1) live
  kept_sent p e =
      let ready = front_ready p e in
      let within = front_within p e in
      record {
        queued = λ q.
            let c = head_times queue p e q in
            let b = k.queued q in
            ⊎_elim
            (λ (s : q ≡ p).
            let one = one_here p q (sym s) in
            let was : weight is_ready (standing standings q) ≡ 1 = ap (λ y. weight is_ready (standing standings y)) s ∙ ap (weight is_ready) ready in
            let is : weight is_ready (standing (set standings p Out) q) ≡ 0 = ap (λ y. weight is_ready (standing (set standings p Out) y)) s ∙ ap (weight is_ready) (standing_set_same standings p Out within) in
            omega arith)
            (λ (ne : q ≢ p).
            let other = none_there p q (λ e. ne (sym e)) in
            let same = ap (weight is_ready) (standing_set_other standings p q Out ne) in
            omega arith)
            (cases_eq q p);
        ready =
            let c = counted is_ready standings p Out within in
            let w : weight is_ready (standing standings p) ≡ 1 = ap (weight is_ready) ready in
            let l = head_length queue p e in
            let r = k.ready in
            omega arith;
        room_for_all = let m = k.room_for_all in let l = length-set standings p Out in omega arith;
        out_is =
            let c = counted is_out standings p Out within in
            let w : weight is_out (standing standings p) ≡ 0 = ap (weight is_out) ready in
            let e = k.out_is in
            omega arith;
        live_is =
            let c = counted is_live standings p Out within in
            let w : weight is_live (standing standings p) ≡ 1 = ap (weight is_live) ready in
            let e = k.live_is in
            omega arith;
      }

  -- the process at the head of the queue goes to its end
  pub turn_room : (p : ℕ) → slice_get queue 0 ≡ Some p → length (drop 1 queue) < capacity
  turn_room p e = let l = head_length queue p e in let f = queue_few in let m = k.room_for_all in omega arith

  pub kept_turned : (p : ℕ) → slice_get queue 0 ≡ Some p → Agrees standings (queue_after (drop 1 queue) p Ready) capacity out live
  kept_turned p e = record {
    queued = λ q. let c = head_times queue p e q in let t = times_push (drop 1 queue) p q in let b = k.queued q in omega arith;
    ready = let l = head_length queue p e in let a = length-append (drop 1 queue) (p ∷ []) in let r = k.ready in omega arith;
    room_for_all = k.room_for_all;
    out_is = k.out_is;
    live_is = k.live_is;
  }

  module _ (p : ℕ) (within : p < length standings) (ready : standing standings p ≡ Ready) where
    -- a ready process is in the queue once
    pub once : times queue p ≡ 1
    once = k.queued p ∙ ap (weight is_ready) ready

    pub one_live : 1 ≤ live
    one_live = let l = live_within p within in let w : weight is_live (standing standings p) ≡ 1 = ap (weight is_live) ready in omega arith

    -- it leaves the queue when it is no longer ready
    pub kept_left : (x : Standing) (out_new live_new : ℕ) → x ≢ Ready → out_new ≡ out + weight is_out x → live_new + weight has_stopped x ≡ live → Agrees (set standings p x) (without p queue) capacity out_new live_new
    kept_left x out_new live_new not o s = record {
      queued = λ q. ⊎_elim
          (λ (e : q ≡ p).
          let gone : times (without p queue) q ≡ 0 = ap (λ y. times (without p queue) y) e ∙ times_gone queue p in
          let here : weight is_ready (standing (set standings p x) q) ≡ 0 = ap (λ y. weight is_ready (standing (set standings p x) y)) e ∙ ap (weight is_ready) (standing_set_same standings p x within) ∙ ap one_if (not_ready x not) in
          omega arith)
          (λ (ne : q ≢ p). times_stays queue p q ne ∙ k.queued q ∙ sym (ap (weight is_ready) (standing_set_other standings p q x ne)))
          (cases_eq q p);
      ready =
          let c = counted is_ready standings p x within in
          let w : weight is_ready (standing standings p) ≡ 1 = ap (weight is_ready) ready in
          let n : weight is_ready x ≡ 0 = ap one_if (not_ready x not) in
          let l = length_without queue p in
          let o = once in
          let r = k.ready in
          omega arith;
      room_for_all = let m = k.room_for_all in let l = length-set standings p x in omega arith;
      out_is =
          let c = counted is_out standings p x within in
          let w : weight is_out (standing standings p) ≡ 0 = ap (weight is_out) ready in
          let e = k.out_is in
          omega arith;
      live_is =
          let c = counted is_live standings p x within in
          let a = live_or_stopped x in
          let w : weight is_live (standing standings p) ≡ 1 = ap (weight is_live) ready in
          let e = k.live_is in
          omega arith;
    }

-- a process that is given the standing that it has
pub same_again : (standings : List Standing) (p : ℕ) (x : Standing) → standing standings p ≡ x → set standings p x ≡ standings
same_again standings p x e = ap (λ y. set standings p y) (sym e) ∙ set-get_or standings p Stopped
