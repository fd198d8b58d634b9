-- The marks at the channels: whether the reader is parked on it, and whether the writer is.
use Rattle.std.specs.Prelude.{ℕ, Bool, false, List, get_or}

pub record MarkLists : Type 0 where
  pub readers : List Bool
  pub writers : List Bool

abbrev pub mark_lists : List Bool → List Bool → MarkLists
mark_lists readers writers = record { readers = readers; writers = writers }

-- false for a number that is no channel's
abbrev pub is_marked : List Bool → ℕ → Bool
is_marked marks c = get_or marks c false
