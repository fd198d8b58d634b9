-- Code that gives states their start values.
use Rattle.std.specs.Prelude.{◌≡◌, ℕ, ◌+◌, List, [], ◌++◌, length, replicate}
use Rattle.kpn_formula.specs.declared.instruction.Instruction.{Instruction}
use Rattle.kpn_formula.specs.Programs.{run}
use Rattle.hox_formula.specs.Fragments.{working}

-- behind these values the code makes the start values, before other zeros
abbrev pub OpensBehind : List Instruction → List ℕ → List ℕ → ℕ → Type 0
OpensBehind code starts done more =
    run code (working (done ++ replicate (length starts + more) 0) [])
    ≡ working (done ++ (starts ++ replicate more 0)) []

-- from values of which those from a place on are 0, the code makes these values there
pub record Opens (code : List Instruction) (place : ℕ) (starts : List ℕ) : Type 0 where
  pub runs : (done : List ℕ) (more : ℕ) → length done ≡ place → OpensBehind code starts done more
