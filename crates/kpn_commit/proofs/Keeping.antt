-- The standings fit the state after each move of a process, and after each change of a channel.
use Rattle.std.proofs.Common.{◌≡◌, ◌≢◌, ◌⊎◌, ⊎_elim, List, [], ◌∷◌, ◌++◌, length, length-append, refl, sym, ap, ◌∙◌, arith, ℕ, ◌<◌, ◌≤◌, true, Some, None, Option, set, get_or, drop, length-set, subst, get_or-set_same, get_or-set_other}
use Rattle.std.proofs.lemmas.Bool.{cases_eq}
use Rattle.std.specs.List.{AllByRecursion}
use Rattle.kpn_model.specs.declared.token.Token.{Token}
use Rattle.kpn_model.specs.declared.kinds.Card.{Card}
use Rattle.kpn_model.specs.declared.kinds.Signature.{Signature}
use Rattle.kpn_model.specs.declared.kinds.Act.{Act}
use Rattle.kpn_model.specs.declared.kinds.Act.TheVariants.{Read, Write, Stop}
use Rattle.kpn_model.specs.declared.kinds.Answer.{Answer}
use Rattle.kpn_model.specs.declared.history.Deed.{Deed}
use Rattle.kpn_model.specs.declared.history.Status.TheVariants.{Done}
use Rattle.kpn_model.specs.Network.{Network, Family, card_of, channel_of, in_of, out_of, Admits}
use Rattle.kpn_model.specs.Lawful.{read_by, NamesPort, LeadsOn}
use Rattle.kpn_model.specs.Semantics.{State, Held, nothing_held, status, tokens, capacity, with_channel, wants, IsPossible, IsDeed, after_deed}
use Rattle.kpn_model.specs.Valid.{IsValid, IsOfSort, IsWellTyped}
use Rattle.kpn_laws.proofs.WellTypedDeeds.{sorted_deed}
use Rattle.kpn_laws.proofs.States.{in_of-reader, out_of-writer}
use Rattle.kpn_laws.proofs.Transitions.{after, processes_after, channels_after, live_within, status_after_same, status_after_other, capacity_after, done_wants_none}
use Rattle.kpn_state.specs.declared.standing.Standing.{Standing}
use Rattle.kpn_state.specs.declared.standing.Standing.TheVariants.{Ready, Out, Parked, Stopped}
use Rattle.kpn_state.specs.Standings.{standing, standing_after, is_busy, partner, StandingsFit}
use Rattle.kpn_state.proofs.Placed.{acted_not_parked, standing_within}
use Rattle.kpn_commit.proofs.Deeds.{possible_before, partner_back}

-- what holds of the item that is set, and of each other, holds of all
pub each_set : {X : Type 0} (P : ℕ → X → Type 0) (xs : List X) (i : ℕ) (x d : X) → i < length xs → P i x → ((j : ℕ) → j ≢ i → P j (get_or xs j d)) → (j : ℕ) → P j (get_or (set xs i x) j d)
each_set P xs i x d within here others j =
    ⊎_elim
    (λ (e : j ≡ i). subst (λ k. P k (get_or (set xs i x) k d)) (sym e) (subst (P i) (sym (get_or-set_same xs i x d within)) here))
    (λ o. subst (P j) (sym (get_or-set_other xs i j x d o)) (others j o)) (cases_eq j i)

-- who is parked after another's deed was parked before
pub still_parked : (standings : List Standing) (p : ℕ) (d : Deed) (b : Answer) → p < length standings → (q : ℕ) → standing (set standings p (standing_after d)) q ≡ Parked b → (q ≢ p) × (standing standings q ≡ Parked b)
still_parked standings p d b within =
    each_set (λ q (y : Standing). y ≡ Parked b → (q ≢ p) × (standing standings q ≡ Parked b)) standings p (standing_after d) Stopped within (λ e. absurd (acted_not_parked d b e)) (λ q o e. (o, e))

-- a process that is made ready is not out, and no other goes out
pub none_sent : (standings : List Standing) (p : ℕ) → p < length standings → (q : ℕ) → standing (set standings p Ready) q ≡ Out → standing standings q ≡ Out
none_sent standings p within = each_set (λ q (y : Standing). y ≡ Out → standing standings q ≡ Out) standings p Ready Stopped within (λ e. cc) (λ q o e. e)

-- a process has stopped after its deed exactly when its standing says so
ended_done : (a : Answer) (d : Deed) → (standing_after d ≡ Stopped → after (Some a) d ≡ Done) × (after (Some a) d ≡ Done → standing_after d ≡ Stopped)
ended_done a d = grind arith

spared_or_not : (s : Option ℕ) (q : ℕ) → (s ≡ Some q) ⊎ (s ≢ Some q)
spared_or_not s q = grind arith

-- a state of the network
record IsOfNetwork (admits : Admits) (net : Network) (M : State) : Type 0 where
  processes : length M.processes ≡ length net.processes
  channels : length M.channels ≡ length net.channels
  well_typed : IsWellTyped admits net M
  smallest : (c : ℕ) → c < length net.channels → 1 ≤ capacity M c
  greatest : (c : ℕ) → capacity M c ≤ net.ceiling

-- this standing of p fits its status, and if p is parked and not spared it can't go on
record Fits (kinds : Family) (net : Network) (spared : Option ℕ) (M : State) (p : ℕ) (x : Standing) : Type 0 where
  stopped : x ≡ Stopped → status M p ≡ Done
  done : status M p ≡ Done → x ≡ Stopped
  wanted : (a : Answer) → x ≡ Parked a → wants kinds net M p ≡ Some a
  blocked : (a : Answer) → spared ≢ Some p → x ≡ Parked a → IsPossible kinds net M p a.act → ⊥

-- all but the first
all_but_first : {X : Type 0} (P : X → Type 0) (xs : List X) → AllByRecursion P xs → AllByRecursion P (drop 1 xs)
all_but_first P [] h = h
all_but_first P (x ∷ xs) h = h.1

-- all, and one more
all_and_last : {X : Type 0} (P : X → Type 0) (xs : List X) (y : X) → AllByRecursion P xs → P y → AllByRecursion P (xs ++ y ∷ [])
all_and_last P [] y h p = (p, tt)
all_and_last P (x ∷ xs) y h p = (h.0, all_and_last P xs y h.1 p)

module _ {kinds : Family} {admits : Admits} {net : Network} {s : Option ℕ} {M : State} {l : List Standing} (k : StandingsFit kinds admits net s M l) where
  -- other processes are spared
  spare : (r : Option ℕ) → ((q : ℕ) (a : Answer) → r ≢ Some q → standing l q ≡ Parked a → IsPossible kinds net M q a.act → ⊥) → StandingsFit kinds admits net r M l
  spare r blocked =
      record { processes = k.processes; channels = k.channels; one_each = k.one_each; well_typed = k.well_typed; smallest = k.smallest; greatest = k.greatest; stopped = k.stopped; done = k.done; wanted = k.wanted; blocked = blocked }

  -- if the spared process is not parked, or can't go on either, none need be spared
  pub keeps_all : ((q : ℕ) (a : Answer) → s ≡ Some q → standing l q ≡ Parked a → IsPossible kinds net M q a.act → ⊥) → StandingsFit kinds admits net None M l
  keeps_all h = spare None (λ q a _ e can. ⊎_elim (λ is. h q a is e can) (λ not. k.blocked q a not e can) (spared_or_not s q))

  -- a process moves, and its status with it
  moved :
      (r : Option ℕ) (N : State) (p : ℕ) (x : Standing) → IsOfNetwork admits net N → p < length l → ((q : ℕ) → q ≢ p → status N q ≡ status M q) → Fits kinds net r N p x
      → ((q : ℕ) (a : Answer) → q ≢ p → r ≢ Some q → standing l q ≡ Parked a → IsPossible kinds net N q a.act → ⊥) → StandingsFit kinds admits net r N (set l p x)
  moved r N p x of within same here blocked =
      record {
        processes = of.processes;
        channels = of.channels;
        one_each = length-set l p x ∙ k.one_each;
        well_typed = of.well_typed;
        smallest = of.smallest;
        greatest = of.greatest;
        stopped = λ q. (all q).stopped;
        done = λ q. (all q).done;
        wanted = λ q. (all q).wanted;
        blocked = λ q. (all q).blocked;
      }
    where
      all : (q : ℕ) → Fits kinds net r N q (standing (set l p x) q)
      all = each_set (λ q (y : Standing). Fits kinds net r N q y) l p x Stopped within here
          (λ q o. let is = same q o in record { stopped = λ e. let f = k.stopped q e in cc; done = λ e. k.done q (cc); wanted = λ a e. let f = k.wanted q a e in cc; blocked = λ a. blocked q a o })

  -- a process that is ready or out, and stays so, changes nothing
  pub keeps_still : (p : ℕ) (x : Standing) → p < length l → is_busy (standing l p) ≡ true → is_busy x ≡ true → StandingsFit kinds admits net s M (set l p x)
  keeps_still p x within before after =
      moved s M p x (record { processes = k.processes; channels = k.channels; well_typed = k.well_typed; smallest = k.smallest; greatest = k.greatest }) within (λ q o. refl)
      (record { stopped = λ e. cc; done = λ e. let f = k.done p e in cc; wanted = λ a e. cc; blocked = λ a ne e. cc }) (λ q a o ne e. k.blocked q a ne e)

  -- a live process is made ready, or goes out
  pub keeps_busy : (p : ℕ) (x : Standing) → p < length l → ((q : ℕ) → q ≢ p → s ≢ Some q) → is_busy x ≡ true → status M p ≢ Done → StandingsFit kinds admits net None M (set l p x)
  keeps_busy p x within others busy live =
      moved None M p x (record { processes = k.processes; channels = k.channels; well_typed = k.well_typed; smallest = k.smallest; greatest = k.greatest }) within (λ q o. refl)
      (record { stopped = λ e. cc; done = λ e. absurd (live e); wanted = λ a e. cc; blocked = λ a ne e. cc }) (λ q a o ne e. k.blocked q a (others q o) e)

module _ {kinds : Family} {admits : Admits} {net : Network} {M : State} {l : List Standing} where
  module _ {p : ℕ} (k : StandingsFit kinds admits net (Some p) M l) where
    -- a deed moves its process on, and enables at most the process at the other end of its channel
    pub keeps_deed :
        {signature : Card → Option Signature} → IsValid signature net → (a : Answer) (d : Deed) → p < length l
        → wants kinds net M p ≡ Some a → IsDeed kinds net M p a.act d → NamesPort signature (card_of net p) a.act → LeadsOn signature admits (card_of net p) a (read_by d)
        → StandingsFit kinds admits net (partner net d) (after_deed kinds net M p a.next d) (set l p (standing_after d))
    keeps_deed {signature = signature} valid a d within w is names leads =
        let doer : status (after_deed kinds net M p a.next d) p ≡ after (Some a) d = status_after_same kinds net M p a d (live_within kinds net M p a w) in
        moved k (partner net d) (after_deed kinds net M p a.next d) p (standing_after d)
        (record {
          processes = processes_after kinds net M p a.next d ∙ k.processes;
          channels = channels_after kinds net M p a.next d ∙ k.channels;
          well_typed = sorted_deed signature admits kinds net valid M k.well_typed p a w names d is leads k.channels;
          smallest = λ c. rw (capacity_after kinds net M p c a.next d) (k.smallest c);
          greatest = λ c. rw (capacity_after kinds net M p c a.next d) (k.greatest c);
        })
        within (λ q o. status_after_other kinds net M p q a.next d o)
        (record { stopped = λ e. doer ∙ (ended_done a d).0 e; done = λ e. (ended_done a d).1 (sym doer ∙ e); wanted = λ b e. absurd (acted_not_parked d b e); blocked = λ b ne e can. acted_not_parked d b e })
        (λ q b o ne e can. k.blocked q b (λ f. o (cc)) e (possible_before kinds net M p a d q b.act is o ne can))

    -- the spared process is not parked
    pub keeps_unparked : ((a : Answer) → standing l p ≢ Parked a) → StandingsFit kinds admits net None M l
    keeps_unparked not = keeps_all k (λ q a s e can. not a (cc))

    -- or it can't go on
    pub keeps_unable : (a : Answer) → standing l p ≡ Parked a → (IsPossible kinds net M p a.act → ⊥) → StandingsFit kinds admits net None M l
    keeps_unable a parked cannot = keeps_all k (λ q b s e can. let q_is : q ≡ p = cc in let b_is : b ≡ a = cc in cannot (rw q_is at (rw b_is at can)))

    -- or it is made ready
    pub keeps_woken : (a : Answer) → standing l p ≡ Parked a → p < length l → StandingsFit kinds admits net None M (set l p Ready)
    keeps_woken a parked within = keeps_busy k p Ready within (λ q o f. o (cc)) refl (λ e. done_wants_none kinds net p (status M p) a e (k.wanted p a parked))

  module _ (k : StandingsFit kinds admits net None M l) where
    -- one process may be spared, even if none need be
    pub keeps_sparing : (p : ℕ) → StandingsFit kinds admits net (Some p) M l
    keeps_sparing p = spare k (Some p) (λ q a ne e. k.blocked q a (λ f. cc) e)

    -- after a deed and the deed that it enabled no parked process can go on
    pub keeps_handed :
        (p : ℕ) (a : Answer) (d : Deed) (q : ℕ) (b : Answer) (e : Deed) {N : State} {both : List Standing} → StandingsFit kinds admits net (partner net e) N both → p < length l → IsDeed kinds net M p a.act d
        → standing (set l p (standing_after d)) q ≡ Parked b → IsDeed kinds net (after_deed kinds net M p a.next d) q b.act e → both ≡ set (set l p (standing_after d)) q (standing_after e)
        → StandingsFit kinds admits net None N both
    keeps_handed p a d q b e kept within is parked ie moved =
        let before = still_parked l p d b within q parked in
        let there = standing_within (set l p (standing_after d)) q (λ f. cc) in
        keeps_all kept
        (λ r x s at can.
        let back = partner_back kinds net M p a d q b.act e r is before.0 (k.blocked q b (λ f. cc) before.1) ie s in
        (still_parked l p d x within r (still_parked (set l p (standing_after d)) q e x there r (rw moved at at)).1).0 back)

    module _ (c : ℕ) (within : c < length M.channels) where
      -- one channel changes: what a process can do then, it could do before, if it reads no token from that channel that wasn't
      -- there and writes to no room there that wasn't
      pub possible_changed :
          (ts : List Token) (n q : ℕ) (x : Act) → ((i : ℕ) → x ≡ Read i → in_of net q i ≡ Some c → ts ≢ [] → tokens M c ≢ [])
          → ((i : ℕ) (t : Token) → x ≡ Write i t → out_of net q i ≡ Some c → length ts < n → length (tokens M c) < capacity M c) → IsPossible kinds net (with_channel M c ts n) q x → IsPossible kinds net M q x
      possible_changed ts n q Stop reads writes can = tt
      possible_changed ts n q (Read i) reads writes can =
          (can.0, can.1, each_set (λ d (h : Held). in_of net q i ≡ Some d → h.tokens ≢ [] → tokens M d ≢ []) M.channels c _ nothing_held within (reads i refl) (λ d _ at some. some) can.0 can.1 can.2)
      possible_changed ts n q (Write i t) reads writes can =
          (can.0, can.1, each_set (λ d (h : Held). out_of net q i ≡ Some d → length h.tokens < h.capacity → length (tokens M d) < capacity M d) M.channels c _ nothing_held within (writes i t refl) (λ d _ at room. room) can.0 can.1 can.2)

      -- and it lets at most this process go on
      keeps_changed :
          (p : ℕ) (ts : List Token) (n : ℕ) → AllByRecursion (IsOfSort (channel_of net c).sort) ts → capacity M c ≤ n → n ≤ net.ceiling → ((q i : ℕ) → q ≢ p → in_of net q i ≡ Some c → ts ≢ [] → tokens M c ≢ [])
          → ((q i : ℕ) → q ≢ p → out_of net q i ≡ Some c → length ts < n → length (tokens M c) < capacity M c) → StandingsFit kinds admits net (Some p) (with_channel M c ts n) l
      keeps_changed p ts n sorted more few reads writes =
          record {
            processes = k.processes;
            channels = length-set M.channels c _ ∙ k.channels;
            one_each = k.one_each;
            well_typed = record { tokens = each_set (λ d (h : Held). AllByRecursion (IsOfSort (channel_of net d).sort) h.tokens) M.channels c _ nothing_held within sorted (λ d o. k.well_typed.tokens d); locals = k.well_typed.locals };
            smallest = each_set (λ d (h : Held). d < length net.channels → 1 ≤ h.capacity) M.channels c _ nothing_held within (λ there. let some = k.smallest c there in omega arith) (λ d o. k.smallest d);
            greatest = each_set (λ d (h : Held). h.capacity ≤ net.ceiling) M.channels c _ nothing_held within few (λ d o. k.greatest d);
            stopped = k.stopped;
            done = k.done;
            wanted = k.wanted;
            blocked = λ q a ne e can. k.blocked q a (λ f. cc) e (possible_changed ts n q a.act (λ i _. reads q i (λ s. ne (cc))) (λ i t _. writes q i (λ s. ne (cc))) can);
          }

      -- a token that comes in lets at most the reader go on
      pub keeps_fed : (t : Token) → IsOfSort (channel_of net c).sort t → StandingsFit kinds admits net (Some (channel_of net c).reader) (with_channel M c (tokens M c ++ t ∷ []) (capacity M c)) l
      keeps_fed t sort =
          keeps_changed (channel_of net c).reader (tokens M c ++ t ∷ []) (capacity M c) (all_and_last (IsOfSort (channel_of net c).sort) (tokens M c) t (k.well_typed.tokens c) sort) (omega arith) (k.greatest c)
          (λ q i o at. let r = in_of-reader net q i c at in absurd (o (cc))) (λ q i o at room. let more = length-append (tokens M c) (t ∷ []) in omega arith)

      -- a token that goes out lets at most the writer go on
      pub keeps_drained : StandingsFit kinds admits net (Some (channel_of net c).writer) (with_channel M c (drop 1 (tokens M c)) (capacity M c)) l
      keeps_drained =
          keeps_changed (channel_of net c).writer (drop 1 (tokens M c)) (capacity M c) (all_but_first (IsOfSort (channel_of net c).sort) (tokens M c) (k.well_typed.tokens c)) (omega arith) (k.greatest c)
          (λ q i o at some none. some (ap (λ (ts : List Token). drop 1 ts) none)) (λ q i o at. let w = out_of-writer net q i c at in absurd (o (cc)))

      -- a growth lets at most the writer go on
      pub keeps_grown : (w to : ℕ) → (channel_of net c).writer ≡ w → capacity M c ≤ to → to ≤ net.ceiling → StandingsFit kinds admits net (Some w) (with_channel M c (tokens M c) to) l
      keeps_grown w to writer more few = keeps_changed w (tokens M c) to (k.well_typed.tokens c) more few (λ q i o at some. some) (λ q i o at. let x = out_of-writer net q i c at in absurd (o (cc)))
