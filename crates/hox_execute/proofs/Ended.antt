-- A command ends as a part of it does.
use Rattle.std.specs.Prelude.{List, Option, Result, Ok, Err}
use Rattle.hox_files.specs.Files.{Effect}
use Rattle.hox_execute.specs.Commands.{Ends}

pub ends_as :
    {X Y : Type 0} (r : Result X Y) (P Q : X → Type 0) (S T : Y → Type 0) (before after : Option (List Effect)) → ((x : X) → P x → Q x) → ((y : Y) → S y → T y) → Ends P S before after r
    → Ends Q T before after r
ends_as (Ok x) P Q S T before after did stopped ends = record { done = did x ends.done; stop = tt; untouched = tt }
ends_as (Err y) P Q S T before after did stopped ends = record { done = tt; stop = stopped y ends.stop; untouched = ends.untouched }
