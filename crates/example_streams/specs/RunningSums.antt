-- Running sums (examples/running_sums.toml): an adder adds each number to the sum before it, which comes back
-- through a copy. The first such sum is a start token, 0.
use Rattle.std.specs.Prelude.{◌≡◌, ℕ, ◌+◌, ◌%◌, ◌^◌, ◌<◌, List, [], ◌∷◌, length, get_or, take, sum}
use Rattle.kpn_model.specs.declared.token.Token.{Token}
use Rattle.kpn_model.specs.Network.{Network}
use Rattle.kpn_standard.specs.Standard.{standard}
use Rattle.kpn_streams.specs.Solving.{HasStreams}
use Rattle.test_laws.specs.Building.{count, sink, copy, add, words, numbers, sums_back, network}
use Rattle.example_streams.specs.Arriving.{arriving, from_source, on_channels}

-- the source counts n numbers from `from` on, after xs, and the sink takes k
abbrev pub running_sums : List ℕ → ℕ → ℕ → ℕ → Network
running_sums xs from n k =
    network (count from n ∷ add ∷ copy ∷ sink k ∷ [])
    (from_source xs ∷ sums_back ∷ words (1, 0) (2, 0) 1 ∷ words (2, 1) (3, 0) 1 ∷ [])

abbrev pub sums_so_far : ℕ → List ℕ → List ℕ
sums_so_far s [] = []
sums_so_far s (x ∷ xs) = (s + x) % 2 ^ 64 ∷ sums_so_far (s + x) xs

-- the stream of the sums
abbrev pub summed : List ℕ → List Token
summed xs = numbers (sums_so_far 0 xs)

-- the channels from the source to the adder, from the copy back to the adder, from the adder to the copy, and
-- to the sink
abbrev pub running_streams : List ℕ → ℕ → List Token
running_streams xs =
    on_channels (numbers xs ∷ numbers (0 ∷ sums_so_far 0 xs) ∷ summed xs ∷ summed xs ∷ [])

-- for any input the network computes the sums so far
abbrev pub RunningSums : Type 0
RunningSums =
    (xs : List ℕ) (from n k : ℕ)
    → HasStreams standard (running_sums xs from n k) (running_streams (arriving xs from n))

-- each of them is the sum of the numbers up to its place
abbrev pub SumsAreSums : Type 0
SumsAreSums = (xs : List ℕ) (k : ℕ) → k < length xs → get_or (sums_so_far 0 xs) k 0 ≡ sum (take (k + 1) xs) % 2 ^ 64
