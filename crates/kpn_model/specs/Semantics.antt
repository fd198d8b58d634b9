-- The sequential machine: any enabled process may be next, and a channel grows only if none is enabled.
use Rattle.std.specs.Prelude.{min, ◌≡◌, ◌≢◌, ℕ, ◌+◌, ◌<◌, ◌≤◌, List, [], ◌∷◌, ◌++◌, Option, Some, None, length, get_or, set, drop, map}
use Rattle.kpn_model.specs.declared.token.Token.{Token}
use Rattle.kpn_model.specs.declared.kinds.Act.{Act}
use Rattle.kpn_model.specs.declared.kinds.Act.TheVariants.{Read, Write, Stop}
use Rattle.kpn_model.specs.declared.kinds.Answer.{Answer}
use Rattle.kpn_model.specs.declared.history.Deed.{Deed}
use Rattle.kpn_model.specs.declared.history.Deed.TheVariants.{Took, Put, Stopped}
use Rattle.kpn_model.specs.declared.history.Entry.{Entry}
use Rattle.kpn_model.specs.declared.history.Entry.TheVariants.{Did, Grew}
use Rattle.kpn_model.specs.declared.history.Status.{Status}
use Rattle.kpn_model.specs.declared.history.Status.TheVariants.{Live, Done}
use Rattle.kpn_model.specs.Network.{Family, Network, card_of, in_of, out_of}

-- the tokens in a channel, in reading order, and its capacity
pub record Held : Type 0 where
  pub tokens : List Token
  pub capacity : ℕ

pub record State : Type 0 where
  pub processes : List Status
  pub channels : List Held

abbrev pub nothing_held : Held
nothing_held = record { tokens = []; capacity = 0 }

abbrev pub status : State → ℕ → Status
status M p = get_or M.processes p Done

abbrev pub tokens : State → ℕ → List Token
tokens M c = (get_or M.channels c nothing_held).tokens

abbrev pub capacity : State → ℕ → ℕ
capacity M c = (get_or M.channels c nothing_held).capacity

abbrev pub with_status : State → ℕ → Status → State
with_status M p s = record M { processes = set M.processes p s }

abbrev pub with_channel : State → ℕ → List Token → ℕ → State
with_channel M c ts n = record M { channels = set M.channels c (record { tokens = ts; capacity = n }) }

-- c holds this token too, behind the others
abbrev pub with_token : State → ℕ → Token → State
with_token M c t = with_channel M c (tokens M c ++ t ∷ []) (capacity M c)

-- c holds all but its first token
abbrev pub without_first : State → ℕ → State
without_first M c = with_channel M c (drop 1 (tokens M c)) (capacity M c)

-- c has this capacity
abbrev pub with_room : State → ℕ → ℕ → State
with_room M c to = with_channel M c (tokens M c) to

-- p has taken the first token of c, and goes on from this local state
abbrev pub after_take : State → ℕ → List ℕ → ℕ → Token → State
after_take M p next c t = with_channel (with_status M p (Live next (Some t))) c (drop 1 (tokens M c)) (capacity M c)

-- p has put the token into c, and goes on from this local state
abbrev pub after_put : State → ℕ → List ℕ → ℕ → Token → State
after_put M p next c t = with_channel (with_status M p (Live next None)) c (tokens M c ++ t ∷ []) (capacity M c)

module _ (kinds : Family) (net : Network) where
  abbrev pub start : State
  start =
      record {
        processes = map (λ p. Live (kinds.start p.card) None) net.processes;
        channels = map (λ l. record { tokens = l.tokens; capacity = l.capacity }) net.channels;
      }

  abbrev pub answered : ℕ → Status → Option Answer
  answered p (Live local last) = Some (kinds.answer (card_of net p) local last)
  answered p Done = None

  abbrev pub wants : State → ℕ → Option Answer
  wants M p = answered p (status M p)

  abbrev pub IsPossible : State → ℕ → Act → Type 0
  IsPossible M p Stop = Unit {0}
  IsPossible M p (Read k) = (c : ℕ) × (in_of net p k ≡ Some c) × (tokens M c ≢ [])
  IsPossible M p (Write k t) = (c : ℕ) × (out_of net p k ≡ Some c) × (length (tokens M c) < capacity M c)

  pub record IsEnabled (M : State) (p : ℕ) : Type 0 where
    pub answer : Answer
    pub wanted : wants M p ≡ Some answer
    pub possible : IsPossible M p answer.act

  -- the deed carries out the act
  abbrev pub IsDeed : State → ℕ → Act → Deed → Type 0
  IsDeed M p Stop Stopped = Unit {0}
  IsDeed M p (Read k) (Took c t) = (in_of net p k ≡ Some c) × ((rest : List Token) × (tokens M c ≡ t ∷ rest))
  IsDeed M p (Write k w) (Put c t) = (out_of net p k ≡ Some c) × (t ≡ w) × (length (tokens M c) < capacity M c)
  IsDeed M p a d = ⊥

  -- the state after a deed of p, with p's next local state
  abbrev pub after_deed : State → ℕ → List ℕ → Deed → State
  after_deed M p next Stopped = with_status M p Done
  after_deed M p next (Took c t) = after_take M p next c t
  after_deed M p next (Put c t) = after_put M p next c t

  -- p does the deed that it wants
  pub record Does (M : State) (p : ℕ) (d : Deed) (N : State) : Type 0 where
    pub answer : Answer
    pub wanted : wants M p ≡ Some answer
    pub is_deed : IsDeed M p answer.act d
    pub leaves : N ≡ after_deed M p answer.next d

  abbrev pub IsQuiet : State → Type 0
  IsQuiet M = (p : ℕ) → IsEnabled M p → ⊥

  -- p wants to write to c, which is full
  pub record IsBlocked (M : State) (p c : ℕ) : Type 0 where
    pub answer : Answer
    pub wanted : wants M p ≡ Some answer
    pub port : ℕ
    pub token : Token
    pub act : answer.act ≡ Write port token
    pub at : out_of net p port ≡ Some c
    pub full : capacity M c ≤ length (tokens M c)

  -- no process is enabled, and some writer is blocked
  pub record IsArtificial (M : State) : Type 0 where
    pub quiet : IsQuiet M
    pub writer : ℕ
    pub channel : ℕ
    pub blocked : IsBlocked M writer channel

  -- c has the least capacity, then the lowest number, of the channels with a blocked writer (Parks 1995)
  pub record IsChosen (M : State) (c : ℕ) : Type 0 where
    pub writer : ℕ
    pub blocked : IsBlocked M writer c
    pub no_smaller : (q d : ℕ) → IsBlocked M q d → capacity M c ≤ capacity M d
    pub no_earlier : (q d : ℕ) → IsBlocked M q d → capacity M c ≡ capacity M d → c ≤ d

  -- the chosen channel grows by the network's step, up to the ceiling
  pub record Grows (M : State) (c to : ℕ) (N : State) : Type 0 where
    pub artificial : IsArtificial M
    pub chosen : IsChosen M c
    pub below : capacity M c < net.ceiling
    pub to_is : to ≡ min (capacity M c + net.step) net.ceiling
    pub leaves : N ≡ with_channel M c (tokens M c) to

  abbrev pub Transition : State → Entry → State → Type 0
  Transition M (Did p d) N = Does M p d N
  Transition M (Grew c to) N = Grows M c to N

  abbrev pub Run : State → List Entry → State → Type 0
  Run M [] N = N ≡ M
  Run M (e ∷ es) N = (mid : State) × Transition M e mid × Run mid es N

  -- E leads from the network's start to M
  abbrev pub IsRun : List Entry → State → Type 0
  IsRun E M = Run start E M
