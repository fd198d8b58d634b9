-- The queue of the ready processes, the counts beside it, and how they fit the standings.
use Rattle.std.specs.Prelude.{◌≡◌, ◌≢◌, ℕ, ◌<◌, ◌≤◌, Bool, List, [], ◌∷◌, ◌++◌, length, set, if◌then◌else◌, nat_eq, count_by, filter, not}
use Rattle.circular_buffer.specs.Buffer.{Buffer}
use Rattle.kpn_state.specs.declared.standing.Standing.{Standing}
use Rattle.kpn_state.specs.declared.standing.Standing.TheVariants.{Ready, Out}
use Rattle.kpn_state.specs.Standings.{standing, is_ready, is_out, is_live}

abbrev pub times : List ℕ → ℕ → ℕ
times queue p = count_by (λ q. nat_eq q p) queue

-- each ready process is in the queue once, and no other is; the queue has room for all
pub record Agrees (standings : List Standing) (queue : List ℕ) (capacity out live : ℕ) : Type 0 where
  pub queued : (p : ℕ) → times queue p ≡ if is_ready (standing standings p) then 1 else 0
  pub ready : length queue ≡ count_by is_ready standings
  pub room_for_all : length standings ≤ capacity
  pub out_is : out ≡ count_by is_out standings
  pub live_is : live ≡ count_by is_live standings

-- p is a ready process
pub record IsReady (standings : List Standing) (p : ℕ) : Type 0 where
  pub ready : standing standings p ≡ Ready
  pub within : p < length standings

abbrev pub NoneIsReady : List Standing → Type 0
NoneIsReady standings = (p : ℕ) → standing standings p ≢ Ready

-- p, which was ready, goes out
pub record GoesOut (standings : List Standing) (p : ℕ) (moved : List Standing) : Type 0 where
  pub was : IsReady standings p
  pub out : moved ≡ set standings p Out

-- 1 for what counts, 0 for what doesn't
pub record Weighs (counts : Bool) (weight : ℕ) : Type 0 where
  pub value : weight ≡ if counts then 1 else 0
  pub few : weight ≤ 1

-- the queue after p, which was not queued, got this standing
abbrev pub queue_after : List ℕ → ℕ → Standing → List ℕ
queue_after queue p x = if is_ready x then queue ++ p ∷ [] else queue

abbrev pub without : ℕ → List ℕ → List ℕ
without p queue = filter (λ q. not (nat_eq q p)) queue

-- p has left the queue, which has its room still
pub record HasLeft (p : ℕ) (queue moved : Buffer ℕ) : Type 0 where
  pub items : moved.items ≡ without p queue.items
  pub room : moved.capacity ≡ queue.capacity
