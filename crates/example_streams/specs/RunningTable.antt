-- How the equations of the running sums of 1, 2 and 3 are solved, step by step (docs/least-solution.md).
use Rattle.std.specs.Prelude.{ℕ, List, [], ◌∷◌, get_or}
use Rattle.kpn_model.specs.declared.token.Token.{Token}
use Rattle.kpn_standard.specs.Standard.{standard}
use Rattle.kpn_streams.specs.Solving.{Approximates, HasStreams}
use Rattle.test_laws.specs.Building.{numbers}
use Rattle.example_streams.specs.RunningSums.{running_sums}

-- the final streams of the four channels
abbrev pub last_column : List (List ℕ)
last_column = (1 ∷ 2 ∷ 3 ∷ []) ∷ (0 ∷ 1 ∷ 3 ∷ 6 ∷ []) ∷ (1 ∷ 3 ∷ 6 ∷ []) ∷ (1 ∷ 3 ∷ 6 ∷ []) ∷ []

-- the streams before, from nothing on
abbrev pub columns : List (List (List ℕ))
columns =
    ([] ∷ [] ∷ [] ∷ [] ∷ [])
    ∷ ((1 ∷ 2 ∷ 3 ∷ []) ∷ (0 ∷ []) ∷ [] ∷ [] ∷ [])
    ∷ ((1 ∷ 2 ∷ 3 ∷ []) ∷ (0 ∷ []) ∷ (1 ∷ []) ∷ [] ∷ [])
    ∷ ((1 ∷ 2 ∷ 3 ∷ []) ∷ (0 ∷ 1 ∷ []) ∷ (1 ∷ []) ∷ (1 ∷ []) ∷ [])
    ∷ ((1 ∷ 2 ∷ 3 ∷ []) ∷ (0 ∷ 1 ∷ []) ∷ (1 ∷ 3 ∷ []) ∷ (1 ∷ []) ∷ [])
    ∷ ((1 ∷ 2 ∷ 3 ∷ []) ∷ (0 ∷ 1 ∷ 3 ∷ []) ∷ (1 ∷ 3 ∷ []) ∷ (1 ∷ 3 ∷ []) ∷ [])
    ∷ ((1 ∷ 2 ∷ 3 ∷ []) ∷ (0 ∷ 1 ∷ 3 ∷ []) ∷ (1 ∷ 3 ∷ 6 ∷ []) ∷ (1 ∷ 3 ∷ []) ∷ [])
    ∷ []

abbrev pub table : ℕ → ℕ → List Token
table n c = numbers (get_or (get_or columns n last_column) c [])

-- these are the approximations, and the last one is what the network computes
pub record RunningTable : Type 0 where
  pub approximates : Approximates standard (running_sums [] 1 3 3) table
  pub computed : HasStreams standard (running_sums [] 1 3 3) (table 7)
