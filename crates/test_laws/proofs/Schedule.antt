-- A run computed from a schedule: which process goes on next, or which blocked writer's channel grows.
use Rattle.std.specs.Prelude.{min, ℕ, zero, suc, ◌+◌, ◌==◌, ◌&&◌, ◌||◌, not, nat_lt, nat_le, if◌then◌else◌, Bool, true, false, List, [], ◌∷◌, Option, Some, None, length, is_none}
use Rattle.kpn_model.specs.declared.token.Token.{Token}
use Rattle.kpn_model.specs.declared.kinds.Act.{Act}
use Rattle.kpn_model.specs.declared.kinds.Act.TheVariants.{Read, Write, Stop}
use Rattle.kpn_model.specs.declared.kinds.Answer.{Answer}
use Rattle.kpn_model.specs.declared.history.Deed.{Deed}
use Rattle.kpn_model.specs.declared.history.Deed.TheVariants.{Took, Put, Stopped}
use Rattle.kpn_model.specs.declared.history.Entry.{Entry}
use Rattle.kpn_model.specs.declared.history.Entry.TheVariants.{Did, Grew}
use Rattle.kpn_model.specs.declared.history.End.{End}
use Rattle.kpn_model.specs.declared.history.End.TheVariants.{Terminated, Deadlock, Ceiling, Budget, Memory}
use Rattle.kpn_model.specs.Network.{Family, Network, in_of, out_of}
use Rattle.kpn_model.specs.declared.history.Status.{Status}
use Rattle.kpn_model.specs.declared.history.Status.TheVariants.{Live, Done}
use Rattle.kpn_model.specs.Semantics.{State, tokens, capacity, wants, start, after_deed, with_channel}
use Rattle.kpn_model.specs.History.{Digest, digest}

-- a turn: this process goes on, or the channel to which it wants to write grows
pub data Turn : Type 0 where
  Go : ℕ → Turn
  Grow : ℕ → Turn

-- the take of the first of these tokens
abbrev pub first_taken : ℕ → List Token → Option Deed
first_taken c [] = None
first_taken c (t ∷ ts) = Some (Took c t)

-- what a read from this channel comes to now, if there is one
abbrev pub read_deed : State → Option ℕ → Option Deed
read_deed M None = None
read_deed M (Some c) = first_taken c (tokens M c)

-- what a write of t to this channel comes to now
abbrev pub write_deed : State → Token → Option ℕ → Option Deed
write_deed M t None = None
write_deed M t (Some c) = if nat_lt (length (tokens M c)) (capacity M c) then Some (Put c t) else None

-- the channel, if it is full
abbrev pub full_at : State → Option ℕ → Option ℕ
full_at M None = None
full_at M (Some c) = if nat_le (capacity M c) (length (tokens M c)) then Some c else None

-- one more entry before the others
abbrev pub entered : Entry → Option (List Entry × State) → Option (List Entry × State)
entered e None = None
entered e (Some r) = Some (e ∷ r.0, r.1)

module _ (kinds : Family) (net : Network) where
  -- what the act comes to, if it can be done now
  abbrev pub act_deed : State → ℕ → Act → Option Deed
  act_deed M p Stop = Some Stopped
  act_deed M p (Read k) = read_deed M (in_of net p k)
  act_deed M p (Write k t) = write_deed M t (out_of net p k)

  -- what an answer comes to, if there is one and it can be done now
  abbrev pub answer_deed : State → ℕ → Option Answer → Option Deed
  answer_deed M p None = None
  answer_deed M p (Some a) = act_deed M p a.act

  -- the full channel to which p wants to write
  abbrev pub act_full : State → ℕ → Act → Option ℕ
  act_full M p (Write k t) = full_at M (out_of net p k)
  act_full M p Stop = None
  act_full M p (Read k) = None

  -- the full channel to which an answer, if there is one, wants to write
  abbrev pub answer_full : State → ℕ → Option Answer → Option ℕ
  answer_full M p None = None
  answer_full M p (Some a) = act_full M p a.act

  -- what p does next, if it can go on
  abbrev pub deed_of : State → ℕ → Option Deed
  deed_of M p = answer_deed M p (wants kinds net M p)

  -- the full channel to which p wants to write, if it is blocked
  abbrev pub full_of : State → ℕ → Option ℕ
  full_of M p = answer_full M p (wants kinds net M p)

  -- no process below n can go on
  abbrev pub all_still : State → ℕ → Bool
  all_still M zero = true
  all_still M (suc n) = is_none (deed_of M n) && all_still M n

  -- c comes before the channel, if there is one
  abbrev pub comes_first : State → ℕ → Option ℕ → Bool
  comes_first M c None = true
  comes_first M c (Some d) = nat_le (capacity M c) (capacity M d) && (if capacity M c == capacity M d then nat_le c d else true)

  -- c comes before the full channels of the processes below n
  abbrev pub all_after : State → ℕ → ℕ → Bool
  all_after M c zero = true
  all_after M c (suc n) = comes_first M c (full_of M n) && all_after M c n

  -- p does this deed, if there is one
  abbrev pub went : State → ℕ → List ℕ → Option Deed → Option (Entry × State)
  went M p next None = None
  went M p next (Some d) = Some (Did p d, after_deed kinds net M p next d)

  -- p does what it wants
  abbrev pub goes : State → ℕ → Option Answer → Option (Entry × State)
  goes M p None = None
  goes M p (Some a) = went M p a.next (act_deed M p a.act)

  -- the full channel grows, if no process can go on and it is the first
  abbrev pub grows_at : State → Option ℕ → Option (Entry × State)
  grows_at M None = None
  grows_at M (Some c) =
      if all_still M (length M.processes) && (all_after M c (length M.processes) && nat_lt (capacity M c) net.ceiling)
      then Some (Grew c (min (capacity M c + net.step) net.ceiling), with_channel M c (tokens M c) (min (capacity M c + net.step) net.ceiling)) else None

  -- the entry of a turn and the state after it, if the turn can be taken
  abbrev pub turned : State → Turn → Option (Entry × State)
  turned M (Go p) = goes M p (wants kinds net M p)
  turned M (Grow p) = grows_at M (full_of M p)

  -- the rest of a schedule after a turn
  abbrev pub played_on : Option (Entry × State) → (State → Option (List Entry × State)) → Option (List Entry × State)
  played_on None rest = None
  played_on (Some r) rest = entered r.0 (rest r.1)

  -- the history of a schedule and the state after it, if each turn can be taken
  abbrev pub played : State → List Turn → Option (List Entry × State)
  played M [] = Some ([], M)
  played M (t ∷ ts) = played_on (turned M t) (λ N. played N ts)

  -- every process has stopped
  abbrev pub all_done : List Status → Bool
  all_done [] = true
  all_done (Done ∷ ss) = all_done ss
  all_done (Live local last ∷ ss) = false

  -- no process below n is blocked
  abbrev pub none_full : State → ℕ → Bool
  none_full M zero = true
  none_full M (suc n) = is_none (full_of M n) && none_full M n

  -- the full channel is the chosen one, and at the ceiling
  abbrev pub stuck_at : State → Option ℕ → Bool
  stuck_at M None = false
  stuck_at M (Some c) = all_after M c (length M.processes) && (capacity M c == net.ceiling)

  -- that of some process below n is
  abbrev pub some_stuck : State → ℕ → Bool
  some_stuck M zero = false
  some_stuck M (suc n) = stuck_at M (full_of M n) || some_stuck M n

  -- the run is over for this cause
  abbrev pub is_over : State → End → Bool
  is_over M Terminated = all_done M.processes
  is_over M Deadlock = not (all_done M.processes) && (all_still M (length M.processes) && none_full M (length M.processes))
  is_over M Ceiling = all_still M (length M.processes) && some_stuck M (length M.processes)
  is_over M Budget = false
  is_over M Memory = false

  -- the digest of what was played, if it is over
  abbrev pub digested : End → Option (List Entry × State) → Option Digest
  digested cause None = None
  digested cause (Some r) = if is_over r.1 cause then Some (digest kinds net cause r.0 r.1) else None

  -- the digest of the run of this schedule, if it can be run and is over for this cause
  abbrev pub digest_of : End → List Turn → Option Digest
  digest_of cause ts = digested cause (played (start kinds net) ts)
