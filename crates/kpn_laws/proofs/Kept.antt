-- The invariant of every run: how its start, its history and its state belong together.
use Rattle.std.proofs.Common.{◌≡◌, ◌≤◌, List, [], ◌∷◌, ◌++◌, length, refl, sym, ◌∙◌, arith, append-nil, ℕ, get_or, suc, zero, map}
use Rattle.std.proofs.lemmas.List.{length-map}
use Rattle.kpn_model.specs.History.{IsPrefixOf, deeds, growths, grown}
use Rattle.kpn_model.specs.declared.history.Deed.{Deed}
use Rattle.kpn_model.specs.declared.history.Entry.{Entry}
use Rattle.kpn_model.specs.declared.parts.Channel.{Channel}
use Rattle.kpn_model.specs.Network.{Network, no_channel, channel_of, Family}
use Rattle.kpn_model.specs.Semantics.{State, nothing_held, status, tokens, capacity, start}
use Rattle.kpn_laws.specs.Alone.{puts, took}
use Rattle.kpn_laws.proofs.Follows.{status_by, Follows}

module _ (kinds : Family) (net : Network) where
  -- a state in which nothing has happened, with any capacities
  pub record IsFresh (S : State) : Type 0 where
    pub statuses : (p : ℕ) → status S p ≡ status (start kinds net) p
    pub tokens_are : (c : ℕ) → tokens S c ≡ (channel_of net c).tokens
    pub processes : length S.processes ≡ length net.processes
    pub channels : length S.channels ≡ length net.channels

  -- the invariant of a run H from S to M
  pub record Kept (S : State) (H : List Entry) (M : State) : Type 0 where
    -- each status is the one that the process's own deeds lead to
    pub statuses : (p : ℕ) → status M p ≡ status_by kinds net p (deeds H p)
    -- what a channel began with and what its writer put is what its reader took, and then what is left
    pub fifo : (c : ℕ) → (channel_of net c).tokens ++ puts (deeds H (channel_of net c).writer) c ≡ took (deeds H (channel_of net c).reader) c ++ tokens M c
    -- each deed follows from the process's deeds before it and from what all have done
    pub follows : (p : ℕ) (ds : List Deed) (d : Deed) (rest : List Deed) → deeds H p ≡ ds ++ d ∷ rest → Follows kinds net (deeds H) p ds d
    -- each capacity is that of the channel's last growth, or the starting one
    pub capacities : (c : ℕ) → capacity M c ≡ grown (capacity S c) (growths H) c
    -- and was never greater
    pub rising : (gs : List (ℕ × ℕ)) → IsPrefixOf gs (growths H) → (c : ℕ) → grown (capacity S c) gs c ≤ capacity M c
    pub processes : length M.processes ≡ length net.processes
    pub channels : length M.channels ≡ length net.channels

  -- no element is in an empty list
  nil_split : {X : Type 0} (ds : List X) (d : X) (rest : List X) → [] ≡ ds ++ d ∷ rest → ⊥
  nil_split [] d rest e = cc
  nil_split (x ∷ ds) d rest e = cc

  -- if nothing has grown, nothing has a greater capacity
  rising_fresh : (S : State) (gs : List (ℕ × ℕ)) → IsPrefixOf gs [] → (c : ℕ) → grown (capacity S c) gs c ≤ capacity S c
  rising_fresh S [] f c = omega arith
  rising_fresh S (g ∷ gs) f c = let e = f.1 in cc

  -- the invariant holds before anything has happened
  pub kept_fresh : (S : State) → IsFresh S → Kept S [] S
  kept_fresh S f =
      record {
        statuses = f.statuses;
        fifo = λ c. append-nil _ ∙ sym (f.tokens_are c);
        follows = λ p ds d rest e. absurd (nil_split ds d rest e);
        capacities = λ c. refl;
        rising = λ gs f c. rising_fresh S gs f c;
        processes = f.processes;
        channels = f.channels;
      }

  -- what a channel holds at the start are its start tokens
  pub tokens_at :
      (ls : List Channel) (c : ℕ)
      → (get_or (map (λ (l : Channel). record { tokens = l.tokens; capacity = l.capacity }) ls) c nothing_held).tokens ≡ (get_or ls c no_channel).tokens
  tokens_at [] c = refl
  tokens_at (l ∷ ls) zero = refl
  tokens_at (l ∷ ls) (suc c) = tokens_at ls c

  -- nothing has happened at the start
  pub fresh_start : IsFresh (start kinds net)
  fresh_start =
      record {
        statuses = λ p. refl;
        tokens_are = λ c. tokens_at net.channels c;
        processes = length-map net.processes _;
        channels = length-map net.channels _;
      }
