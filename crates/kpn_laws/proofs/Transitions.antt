-- What a deed does to each process and each channel.
use Rattle.std.proofs.Common.{◌≡◌, ⊎_elim, List, [], ◌∷◌, ◌++◌, length, refl, sym, ap, ℕ, ◌≢◌, ◌<◌, Some, Option, None, drop, length-set}
use Rattle.std.proofs.lemmas.Bool.{cases_lt}
use Rattle.std.proofs.lemmas.List.{get_or_past}
use Rattle.kpn_model.specs.declared.token.Token.{Token}
use Rattle.kpn_model.specs.declared.history.Deed.{Deed}
use Rattle.kpn_model.specs.declared.history.Deed.TheVariants.{Took, Put, Stopped}
use Rattle.kpn_model.specs.Network.{Network, in_of, out_of, Family}
use Rattle.kpn_model.specs.declared.history.Status.{Status}
use Rattle.kpn_model.specs.declared.history.Status.TheVariants.{Done, Live}
use Rattle.kpn_model.specs.Semantics.{State, status, tokens, capacity, answered, wants, IsDeed, after_deed}
use Rattle.kpn_model.specs.declared.kinds.Act.{Act}
use Rattle.kpn_model.specs.declared.kinds.Act.TheVariants.{Read, Write, Stop}
use Rattle.kpn_model.specs.declared.kinds.Answer.{Answer}
use Rattle.kpn_laws.proofs.States.{status_set_same, status_set_other, capacity_kept}

-- the status of a process that answered so, after this deed
abbrev pub after : Option Answer → Deed → Status
after None d = Done
after (Some a) Stopped = Done
after (Some a) (Took c t) = Live a.next (Some t)
after (Some a) (Put c t) = Live a.next None

module _ (kinds : Family) (net : Network) where
  -- a process that has stopped wants nothing
  pub done_wants_none : (p : ℕ) (s : Status) (a : Answer) → s ≡ Done → answered kinds net p s ≡ Some a → ⊥
  done_wants_none p s a e w = let h : answered kinds net p s ≡ None = ap (λ x. answered kinds net p x) e in cc

  -- a process that wants something is one of the network's
  pub live_within : (M : State) (p : ℕ) (a : Answer) → wants kinds net M p ≡ Some a → p < length M.processes
  live_within M p a w =
      ⊎_elim (λ h. h) (λ past. absurd (done_wants_none p (status M p) a (get_or_past M.processes p Done past) w)) (cases_lt p (length M.processes))

  -- p's status after its deed
  pub status_after_same : (M : State) (p : ℕ) (a : Answer) (d : Deed) → p < length M.processes → status (after_deed kinds net M p a.next d) p ≡ after (Some a) d
  status_after_same M p a Stopped h = status_set_same M p Done h
  status_after_same M p a (Took c t) h = status_set_same M p (Live a.next (Some t)) h
  status_after_same M p a (Put c t) h = status_set_same M p (Live a.next None) h

  -- the others' statuses stay
  pub status_after_other : (M : State) (p q : ℕ) (next : List ℕ) (d : Deed) → q ≢ p → status (after_deed kinds net M p next d) q ≡ status M q
  status_after_other M p q next Stopped h = status_set_other M p q Done h
  status_after_other M p q next (Took c t) h = status_set_other M p q (Live next (Some t)) h
  status_after_other M p q next (Put c t) h = status_set_other M p q (Live next None) h

  -- no deed changes a capacity
  pub capacity_after : (M : State) (p b : ℕ) (next : List ℕ) (d : Deed) → capacity (after_deed kinds net M p next d) b ≡ capacity M b
  capacity_after M p b next Stopped = refl
  capacity_after M p b next (Took c t) = capacity_kept M c b (drop 1 (tokens M c))
  capacity_after M p b next (Put c t) = capacity_kept M c b (tokens M c ++ t ∷ [])

  -- nor the number of processes
  pub processes_after : (M : State) (p : ℕ) (next : List ℕ) (d : Deed) → length (after_deed kinds net M p next d).processes ≡ length M.processes
  processes_after M p next Stopped = length-set _ _ _
  processes_after M p next (Took c t) = length-set _ _ _
  processes_after M p next (Put c t) = length-set _ _ _

  -- nor that of channels
  pub channels_after : (M : State) (p : ℕ) (next : List ℕ) (d : Deed) → length (after_deed kinds net M p next d).channels ≡ length M.channels
  channels_after M p next Stopped = refl
  channels_after M p next (Took c t) = length-set _ _ _
  channels_after M p next (Put c t) = length-set _ _ _

  -- a take is what a read comes to, of the first token of the channel at the port
  pub took_read :
      (M : State) (p c : ℕ) (t : Token) (a : Act) → IsDeed kinds net M p a (Took c t)
      → (k : ℕ) × (a ≡ Read k) × (in_of net p k ≡ Some c) × ((rest : List Token) × (tokens M c ≡ t ∷ rest))
  took_read M p c t (Read k) h = (k, refl, h.0, h.1)
  took_read M p c t (Write k w) h = absurd h
  took_read M p c t Stop h = absurd h

  -- a put is what a write comes to, on a channel with room
  pub put_write :
      (M : State) (p c : ℕ) (t : Token) (a : Act) → IsDeed kinds net M p a (Put c t)
      → (k : ℕ) × (a ≡ Write k t) × (out_of net p k ≡ Some c) × (length (tokens M c) < capacity M c)
  put_write M p c t (Write k w) h = (k, ap (λ x. Write k x) (sym h.1), h.0, h.2)
  put_write M p c t (Read k) h = absurd h
  put_write M p c t Stop h = absurd h

  -- and nothing but a stop comes to having stopped
  pub stopped_stop : (M : State) (p : ℕ) (a : Act) → IsDeed kinds net M p a Stopped → a ≡ Stop
  stopped_stop M p Stop h = refl
  stopped_stop M p (Read k) h = absurd h
  stopped_stop M p (Write k w) h = absurd h
