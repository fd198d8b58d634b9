-- In every state some entry can follow, or it is over, or its chosen channel is above the ceiling.
use Rattle.std.proofs.Common.{◌≡◌, ◌≢◌, ◌≤◌, ◌<◌, ◌⊎◌, inl, inr, ⊎_elim, ℕ, ◌+◌, length, List, [], ◌∷◌, Option, Some, None, refl, sym, ◌∙◌, arith, subst, min}
use Rattle.std.proofs.lemmas.Bool.{cases_lt, cases_eq}
use Rattle.std.proofs.lemmas.List.{get_or_past}
use Rattle.std.proofs.lemmas.Option.{same_Some}
use Rattle.kpn_model.specs.declared.token.Token.{Token}
use Rattle.kpn_model.specs.declared.kinds.Act.{Act}
use Rattle.kpn_model.specs.declared.kinds.Act.TheVariants.{Read, Write, Stop}
use Rattle.kpn_model.specs.declared.kinds.Answer.{Answer}
use Rattle.kpn_model.specs.declared.history.Deed.{Deed}
use Rattle.kpn_model.specs.declared.history.Deed.TheVariants.{Took, Put, Stopped}
use Rattle.kpn_model.specs.declared.history.Entry.TheVariants.{Did, Grew}
use Rattle.kpn_model.specs.declared.history.End.{End}
use Rattle.kpn_model.specs.declared.history.End.TheVariants.{Terminated, Deadlock, Ceiling}
use Rattle.kpn_model.specs.declared.history.Status.{Status}
use Rattle.kpn_model.specs.declared.history.Status.TheVariants.{Live, Done}
use Rattle.kpn_model.specs.Network.{Network, Family, in_of, out_of}
use Rattle.kpn_model.specs.Semantics.{State, status, tokens, capacity, wants, with_channel, after_deed, IsDeed, IsPossible, IsEnabled, IsBlocked, IsQuiet, IsArtificial, IsChosen}
use Rattle.kpn_model.specs.Endings.{IsOver}
use Rattle.kpn_laws.specs.Completion.{CanGoOn, IsAbove, CanAlwaysGoOn}
use Rattle.kpn_laws.proofs.Transitions.{live_within}
use Rattle.kpn_laws.proofs.Search.{search_below, IsLeast, least_below}

module _ (kinds : Family) (net : Network) (M : State) where
  -- what the act comes to now, or it can't be done
  abbrev Now : ℕ → Act → Type 0
  Now p a = ((d : Deed) × IsDeed kinds net M p a d) ⊎ (IsPossible kinds net M p a → ⊥)

  empty_no : (p k c : ℕ) → in_of net p k ≡ Some c → tokens M c ≡ [] → IsPossible kinds net M p (Read k) → ⊥
  empty_no p k c e empty (b, at, some) = let s : b ≡ c = cc in some (rw s empty)

  full_no : (p k c : ℕ) (t : Token) → out_of net p k ≡ Some c → capacity M c ≤ length (tokens M c) → IsPossible kinds net M p (Write k t) → ⊥
  full_no p k c t e full (b, at, room) = let s : b ≡ c = cc in let l : length (tokens M c) < capacity M c = rw s at room in omega arith

  read_now : (p k c : ℕ) (ts : List Token) → in_of net p k ≡ Some c → tokens M c ≡ ts → Now p (Read k)
  read_now p k c [] e f = inr (empty_no p k c e f)
  read_now p k c (t ∷ ts) e f = inl (Took c t, (e, (ts, f)))

  read_at : (p k : ℕ) (o : Option ℕ) → in_of net p k ≡ o → Now p (Read k)
  read_at p k None e = inr (λ x. let y = sym e ∙ x.1 in cc)
  read_at p k (Some c) e = read_now p k c (tokens M c) e refl

  write_at : (p k : ℕ) (t : Token) (o : Option ℕ) → out_of net p k ≡ o → Now p (Write k t)
  write_at p k t None e = inr (λ x. let y = sym e ∙ x.1 in cc)
  write_at p k t (Some c) e = ⊎_elim (λ room. inl (Put c t, (e, refl, room))) (λ full. inr (full_no p k c t e full)) (cases_lt (length (tokens M c)) (capacity M c))

  act_now : (p : ℕ) (a : Act) → Now p a
  act_now p Stop = inl (Stopped, tt)
  act_now p (Read k) = read_at p k (in_of net p k) refl
  act_now p (Write k t) = write_at p k t (out_of net p k) refl

  -- p can go on, or it can't
  goes_or_rests : (p : ℕ) (o : Option Answer) → wants kinds net M p ≡ o → CanGoOn kinds net M ⊎ (IsEnabled kinds net M p → ⊥)
  goes_or_rests p None w = inr (λ x. let y = sym w ∙ x.wanted in cc)
  goes_or_rests p (Some a) w =
      ⊎_elim
      (λ (x : (d : Deed) × IsDeed kinds net M p a.act d). inl (Did p x.0, (after_deed kinds net M p a.next x.0, record { answer = a; wanted = w; is_deed = x.1; leaves = refl })))
      (λ (stuck : IsPossible kinds net M p a.act → ⊥). inr (λ x. stuck (subst (λ (b : Answer). IsPossible kinds net M p b.act) (same_Some _ _ (sym x.wanted ∙ w)) x.possible)))
      (act_now p a.act)

  -- some entry can follow, or the state is quiet
  goes_or_quiet : CanGoOn kinds net M ⊎ IsQuiet kinds net M
  goes_or_quiet =
      ⊎_elim (λ x. inl x.1)
      (λ none. inr (λ p x. none p (live_within kinds net M p x.answer x.wanted) x))
      (search_below (λ p. CanGoOn kinds net M) (λ p. IsEnabled kinds net M p → ⊥) (λ p. goes_or_rests p (wants kinds net M p) refl) (length M.processes))

  -- c has less capacity than d, or the same and no greater number
  abbrev IsBefore : ℕ → ℕ → Type 0
  IsBefore c d = (capacity M c < capacity M d) ⊎ ((capacity M c ≡ capacity M d) × (c ≤ d))

  -- one of any two channels comes before the other
  which_before : (c d : ℕ) → IsBefore c d ⊎ IsBefore d c
  which_before c d =
      ⊎_elim (λ l. inl (inl l))
      (λ (ge : capacity M d ≤ capacity M c).
      ⊎_elim (λ l. inr (inl l))
      (λ (le : capacity M c ≤ capacity M d).
      let same : capacity M c ≡ capacity M d = omega arith in
      ⊎_elim (λ (l : c < d). inl (inr (same, omega arith))) (λ (g : d ≤ c). inr (inr (sym same, g))) (cases_lt c d))
      (cases_lt (capacity M d) (capacity M c)))
      (cases_lt (capacity M c) (capacity M d))

  -- the order is transitive
  before_trans : (b c d : ℕ) → IsBefore b c → IsBefore c d → IsBefore b d
  before_trans b c d (inl l) (inl m) = inl (omega arith)
  before_trans b c d (inl l) (inr m) = let e = m.0 in inl (omega arith)
  before_trans b c d (inr l) (inl m) = let e = l.0 in inl (omega arith)
  before_trans b c d (inr l) (inr m) = let x = l.1 in let y = m.1 in inr (l.0 ∙ m.0, omega arith)

  -- p is blocked at one channel, or at none
  abbrev Blocked : ℕ → Type 0
  Blocked p = ((c : ℕ) × IsBlocked kinds net M p c × ((d : ℕ) → IsBlocked kinds net M p d → IsBefore c d)) ⊎ ((c : ℕ) → IsBlocked kinds net M p c → ⊥)

  at_one : (p c d : ℕ) → IsBlocked kinds net M p c → IsBlocked kinds net M p d → IsBefore c d
  at_one p c d x y = let s : d ≡ c = cc in rw s (inr (refl, omega arith))

  room_free : (p k c : ℕ) (t : Token) (a : Answer) → wants kinds net M p ≡ Some a → a.act ≡ Write k t → out_of net p k ≡ Some c → length (tokens M c) < capacity M c → (d : ℕ) → IsBlocked kinds net M p d → ⊥
  room_free p k c t a w act e room d x = let s : d ≡ c = cc in let l : capacity M c ≤ length (tokens M c) = rw s at x.full in omega arith

  blocked_at : (p k : ℕ) (t : Token) (a : Answer) (o : Option ℕ) → wants kinds net M p ≡ Some a → a.act ≡ Write k t → out_of net p k ≡ o → Blocked p
  blocked_at p k t a None w act e = inr (λ c x. cc)
  blocked_at p k t a (Some c) w act e =
      ⊎_elim (λ room. inr (room_free p k c t a w act e room))
      (λ (full : capacity M c ≤ length (tokens M c)).
      let own : IsBlocked kinds net M p c = record { answer = a; wanted = w; port = k; token = t; act = act; at = e; full = full } in
      inl (c, own, λ d x. at_one p c d own x))
      (cases_lt (length (tokens M c)) (capacity M c))

  blocked_by : (p : ℕ) (a : Answer) (x : Act) → wants kinds net M p ≡ Some a → a.act ≡ x → Blocked p
  blocked_by p a Stop w act = inr (λ c x. cc)
  blocked_by p a (Read k) w act = inr (λ c x. cc)
  blocked_by p a (Write k t) w act = blocked_at p k t a (out_of net p k) w act refl

  blocked_or_free : (p : ℕ) (o : Option Answer) → wants kinds net M p ≡ o → Blocked p
  blocked_or_free p None w = inr (λ c x. let y = sym w ∙ x.wanted in cc)
  blocked_or_free p (Some a) w = blocked_by p a a.act w refl

  -- the first of all of them is the chosen channel
  first_chosen : (c : ℕ) → IsLeast (IsBlocked kinds net M) IsBefore which_before before_trans (length M.processes) c → IsChosen kinds net M c
  first_chosen c f =
      record {
        writer = f.at;
        blocked = f.here;
        no_smaller = λ q d x. ⊎_elim (λ l. omega arith) (λ (l : (capacity M c ≡ capacity M d) × (c ≤ d)). let e = l.0 in omega arith) (before q d x);
        no_earlier = λ q d x e. ⊎_elim (λ (l : capacity M c < capacity M d). absurd (omega arith)) (λ (l : (capacity M c ≡ capacity M d) × (c ≤ d)). l.1) (before q d x);
      }
    where
      before : (q d : ℕ) → IsBlocked kinds net M q d → IsBefore c d
      before q d x = f.first q (live_within kinds net M q x.answer x.wanted) d x

  -- a channel is chosen, or no writer is blocked
  find_chosen : ((c : ℕ) × IsChosen kinds net M c) ⊎ ((p c : ℕ) → IsBlocked kinds net M p c → ⊥)
  find_chosen =
      ⊎_elim (λ f. inl (f.0, first_chosen f.0 f.1))
      (λ none. inr (λ p c b. none p (live_within kinds net M p b.answer b.wanted) c b))
      (least_below (IsBlocked kinds net M) IsBefore which_before before_trans (λ p. blocked_or_free p (wants kinds net M p) refl) (length M.processes))

  live_or_done : (s : Status) → (s ≢ Done) ⊎ (s ≡ Done)
  live_or_done Done = inr refl
  live_or_done (Live local last) = inl (λ e. cc)

  -- a quiet state without a blocked writer is over
  free_over : IsQuiet kinds net M → ((p c : ℕ) → IsBlocked kinds net M p c → ⊥) → (a : End) × IsOver kinds net M a
  free_over quiet free =
      ⊎_elim (λ (live : (p : ℕ) × (status M p ≢ Done)). (Deadlock, (quiet, live, free)))
      (λ (done : (p : ℕ) → p < length M.processes → status M p ≡ Done).
      (Terminated, (quiet, λ p. ⊎_elim (done p) (λ past. get_or_past M.processes p Done past) (cases_lt p (length M.processes)))))
      (search_below (λ p. status M p ≢ Done) (λ p. status M p ≡ Done) (λ p. live_or_done (status M p)) (length M.processes))

  -- in an artificial deadlock the chosen channel can grow, or is at the ceiling, or above it
  grows_or_over : (c : ℕ) → IsQuiet kinds net M → IsChosen kinds net M c → CanGoOn kinds net M ⊎ (((a : End) × IsOver kinds net M a) ⊎ IsAbove kinds net M)
  grows_or_over c quiet chosen =
      let stuck : IsArtificial kinds net M = record { quiet = quiet; writer = chosen.writer; channel = c; blocked = chosen.blocked } in
      ⊎_elim
      (λ (below : capacity M c < net.ceiling).
      let to = min (capacity M c + net.step) net.ceiling in
      inl (Grew c to, (with_channel M c (tokens M c) to, record { artificial = stuck; chosen = chosen; below = below; to_is = refl; leaves = refl })))
      (λ (ge : net.ceiling ≤ capacity M c).
      inr (⊎_elim (λ (e : capacity M c ≡ net.ceiling). inl (Ceiling, (stuck, (c, chosen, e)))) (λ ne. inr (record { artificial = stuck; channel = c; chosen = chosen; above = omega arith })) (cases_eq (capacity M c) net.ceiling)))
      (cases_lt (capacity M c) net.ceiling)

  -- some entry can follow, or the state is over, or its chosen channel is above the ceiling
  goes_on_here : CanGoOn kinds net M ⊎ (((a : End) × IsOver kinds net M a) ⊎ IsAbove kinds net M)
  goes_on_here =
      ⊎_elim inl
      (λ (quiet : IsQuiet kinds net M).
      ⊎_elim (λ (x : (c : ℕ) × IsChosen kinds net M c). grows_or_over x.0 quiet x.1) (λ free. inr (inl (free_over quiet free))) find_chosen)
      goes_or_quiet

-- so it is for every state of every network
pub goes_on : (kinds : Family) → CanAlwaysGoOn kinds
goes_on kinds net M = goes_on_here kinds net M
