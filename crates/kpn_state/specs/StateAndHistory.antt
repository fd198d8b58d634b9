-- A state with the history that led to it.
use Rattle.std.specs.Prelude.{◌≡◌, ℕ, ◌<◌, ◌≤◌, ◌^◌, List, [], ◌∷◌, ◌++◌, length, drop}
use Rattle.kpn_model.specs.declared.token.Token.{Token}
use Rattle.kpn_model.specs.declared.history.Deed.TheVariants.{Took, Put}
use Rattle.kpn_model.specs.declared.history.Entry.{Entry}
use Rattle.kpn_model.specs.declared.history.Entry.TheVariants.{Did}
use Rattle.kpn_model.specs.declared.history.Status.{Status}
use Rattle.kpn_model.specs.Semantics.{State, Held, tokens, capacity, without_first, after_take, after_put}
use Rattle.kpn_model.specs.History.{growths}

abbrev pub state : List Status → List Held → State
state statuses channels = record { processes = statuses; channels = channels }

abbrev pub held : List Token → ℕ → Held
held tokens capacity = record { tokens = tokens; capacity = capacity }

pub record StateAndHistory : Type 0 where
  pub state : State
  pub history : List Entry
  pub limit : ℕ

abbrev pub state_and_history : State → List Entry → ℕ → StateAndHistory
state_and_history M E limit = record { state = M; history = E; limit = limit }

-- another state, with the same history
abbrev pub put_in : StateAndHistory → State → StateAndHistory
put_in s M = state_and_history M s.history s.limit

abbrev pub more : StateAndHistory → State → Entry → StateAndHistory
more s M e = state_and_history M (s.history ++ e ∷ []) s.limit

-- p has taken the first token of c, and goes on from this local state
abbrev pub more_taken : StateAndHistory → ℕ → List ℕ → ℕ → Token → StateAndHistory
more_taken s p next c t = more s (after_take s.state p next c t) (Did p (Took c t))

-- p has put the token into c, and goes on from this local state
abbrev pub more_put : StateAndHistory → ℕ → List ℕ → ℕ → Token → StateAndHistory
more_put s p next c t = more s (after_put s.state p next c t) (Did p (Put c t))

-- p is a process, and there is room for one more entry
pub record MayEnter (s : StateAndHistory) (p : ℕ) : Type 0 where
  pub process : p < length s.state.processes
  pub room : length s.history < s.limit

-- c is a channel with a token
pub record HasFirst (M : State) (c : ℕ) : Type 0 where
  pub channel : c < length M.channels
  pub some : 0 < length (tokens M c)

-- c is a channel with room for one more token
pub record HasSpace (M : State) (c : ℕ) : Type 0 where
  pub channel : c < length M.channels
  pub space : length (tokens M c) < capacity M c

pub record MayTake (s : StateAndHistory) (p c : ℕ) : Type 0 where
  pub enters : MayEnter s p
  pub first : HasFirst s.state c

pub record MayPut (s : StateAndHistory) (p c : ℕ) : Type 0 where
  pub enters : MayEnter s p
  pub space : HasSpace s.state c

-- the tokens of c fit the new capacity, and there is room for one more entry
pub record MayGrow (s : StateAndHistory) (c to : ℕ) : Type 0 where
  pub channel : c < length s.state.channels
  pub within : length (tokens s.state c) ≤ to
  pub room : length s.history < s.limit

-- this was the first token of c, and is gone, without an entry
pub record Drains (s : StateAndHistory) (c : ℕ) (token : Token) (t : StateAndHistory) : Type 0 where
  pub token_is : tokens s.state c ≡ token ∷ drop 1 (tokens s.state c)
  pub rest : t ≡ put_in s (without_first s.state c)

-- `room` is enough for `limit` entries, `grown` counts growths, and processes and channels fit 16 bits
pub record IsStored (s : StateAndHistory) (room grown : ℕ) : Type 0 where
  pub enough : s.limit ≤ room
  pub counted : grown ≡ length (growths s.history)
  pub processes : length s.state.processes ≤ 2 ^ 16
  pub channels : length s.state.channels ≤ 2 ^ 16
