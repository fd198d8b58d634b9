-- Which process waits for which after a run, and the cycles of waits.
use Rattle.std.specs.Prelude.{ℕ, zero, suc, ◌==◌, ◌&&◌, ◌||◌, Bool, false, List, length, slice_get, Option, None, option_map, option_and_then}
use Rattle.std.specs.Option.{option_map_or}
use Rattle.kpn_model.specs.declared.history.Place.{Place}
use Rattle.kpn_model.specs.declared.history.Place.TheVariants.{Stopped, Reads, Writes}
use Rattle.kpn_model.specs.Network.{Network, channel_of}

-- the place is at a read of c, or at a write to it
abbrev pub stands_at_read : ℕ → Place → Bool
stands_at_read c (Reads b) = b == c
stands_at_read c _ = false

abbrev pub stands_at_write : ℕ → Place → Bool
stands_at_write c (Writes b) = b == c
stands_at_write c _ = false

module _ (net : Network) where
  -- whom a process with this place waits for: the writer of a channel it reads, the reader of one it writes
  abbrev pub other_end : Place → Option ℕ
  other_end Stopped = None
  other_end (Reads c) = option_map (λ l. l.writer) (slice_get net.channels c)
  other_end (Writes c) = option_map (λ l. l.reader) (slice_get net.channels c)

  module _ (places : List Place) where
    abbrev pub waits_for : ℕ → Option ℕ
    waits_for p = option_and_then other_end (slice_get places p)

    -- goal is at most n waits from p
    abbrev pub is_met : ℕ → ℕ → ℕ → Bool
    is_met zero goal p = false
    is_met (suc n) goal p = option_map_or (λ q. (q == goal) || is_met n goal q) (waits_for p) false

    -- p waits for itself; the shortest way back visits no process twice, so has at most one step per process
    abbrev pub is_on_cycle : ℕ → Bool
    is_on_cycle p = is_met (length net.processes) p p

    -- a process on a cycle waits at the channel: its reader for a token, or its writer for room
    abbrev pub is_jammed : ℕ → Bool
    is_jammed c =
        let l = channel_of net c in
        (option_map_or (stands_at_read c) (slice_get places l.reader) false && is_on_cycle l.reader)
        || (option_map_or (stands_at_write c) (slice_get places l.writer) false && is_on_cycle l.writer)
