-- Hamming's numbers (examples/hamming.toml): 1, and then the stream's own doubles, triples and quintuples,
-- merged. A gate lets n numbers through.
use Rattle.std.specs.Prelude.{◌≡◌, ℕ, ◌*◌, ◌^◌, ◌<◌, ◌≤◌, List, [], ◌∷◌, length, Contains}
use Rattle.std.specs.List.Sorted.{IsStrictlyIncreasing}
use Rattle.kpn_model.specs.declared.token.Token.{Token}
use Rattle.kpn_model.specs.declared.history.Entry.{Entry}
use Rattle.kpn_model.specs.declared.history.End.{End}
use Rattle.kpn_model.specs.Network.{Network, resized}
use Rattle.kpn_model.specs.Semantics.{State, IsRun}
use Rattle.kpn_model.specs.Endings.{IsNatural, IsFinal}
use Rattle.kpn_model.specs.History.{stream}
use Rattle.kpn_standard.specs.Standard.{standard}
use Rattle.kpn_streams.specs.Joined.{Reaches}
use Rattle.test_laws.specs.Building.{process, sink, take, copy, scale, merge, words, numbers, network}

pub record IsHamming (z : ℕ) : Type 0 where
  pub twos : ℕ
  pub threes : ℕ
  pub fives : ℕ
  pub is : z ≡ 2 ^ twos * (3 ^ threes * 5 ^ fives)

-- the first ones: they increase strictly, are Hamming's, and miss none up to the last
pub record AreFirstHamming (xs : List ℕ) : Type 0 where
  pub rise : IsStrictlyIncreasing xs
  pub only : (z : ℕ) → Contains xs z → IsHamming z
  pub each : (z : ℕ) → IsHamming z → Reaches xs z → Contains xs z

-- these tokens are the first n of Hamming's numbers
pub record AreHamming (ts : List Token) (n : ℕ) : Type 0 where
  pub values : List ℕ
  pub are : ts ≡ numbers values
  pub first : AreFirstHamming values
  pub so_many : length values ≡ n

abbrev pub hamming : ℕ → ℕ → Network
hamming n k =
    network
    (process 4 1 0 ∷ take n ∷ copy ∷ sink k ∷ copy ∷ copy ∷ scale 2 ∷ scale 3 ∷ scale 5 ∷ merge ∷ merge ∷ [])
    (
    words (0, 0) (1, 0) 1
    ∷ words (1, 0) (2, 0) 1
    ∷ words (2, 0) (3, 0) 1
    ∷ words (2, 1) (4, 0) 1
    ∷ words (4, 0) (6, 0) 1
    ∷ words (4, 1) (5, 0) 1
    ∷ words (5, 0) (7, 0) 1
    ∷ words (5, 1) (8, 0) 1
    ∷ words (6, 0) (10, 0) 1
    ∷ words (7, 0) (9, 0) 1
    ∷ words (8, 0) (9, 1) 1
    ∷ words (9, 0) (10, 1) 1
    ∷ words (10, 0) (0, 0) 1
    ∷ []
    )

-- the first n of them are so small that all products fit into 64 bits
abbrev pub AreSmall : ℕ → Type 0
AreSmall n = (xs : List ℕ) → AreFirstHamming xs → length xs ≤ n → (z : ℕ) → Contains xs z → 5 * z < 2 ^ 64

-- as at least the first 62 are
abbrev pub FewAreSmall : Type 0
FewAreSmall = (n : ℕ) → n ≤ 62 → AreSmall n

-- each run, over or not and from any starting capacities, has written the first ones to the sink
abbrev pub HammingInRun : Type 0
HammingInRun =
    (n k : ℕ)
    → AreSmall n → (sizes : ℕ → ℕ) (E : List Entry) (M : State) → IsRun standard (resized (hamming n k) sizes) E M
    → (m : ℕ) × (m ≤ n) × AreHamming (stream (hamming n k) E 2) m

-- a run that terminates or deadlocks has written all n
abbrev pub HammingAtEnd : Type 0
HammingAtEnd =
    (n k : ℕ)
    → AreSmall n → (sizes : ℕ → ℕ) (E : List Entry) (M : State) (a : End)
    → IsFinal standard (resized (hamming n k) sizes) E M a → IsNatural a
    → AreHamming (stream (hamming n k) E 2) n
