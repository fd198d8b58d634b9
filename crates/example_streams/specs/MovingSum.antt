-- A moving sum (examples/moving_sum.toml): an adder gets a signal directly, and also one token later, since
-- that channel begins with 0.
use Rattle.std.specs.Prelude.{ℕ, ◌+◌, ◌%◌, ◌^◌, List, [], ◌∷◌}
use Rattle.kpn_model.specs.declared.token.Token.{Token}
use Rattle.kpn_model.specs.declared.parts.Channel.{Channel}
use Rattle.kpn_model.specs.Network.{Network}
use Rattle.kpn_standard.specs.Standard.{standard}
use Rattle.kpn_streams.specs.Solving.{HasStreams}
use Rattle.test_laws.specs.Building.{count, sink, copy, add, words, holding, numbers, network}
use Rattle.example_streams.specs.Arriving.{arriving, from_source, on_channels}

-- from the copy to the adder, one token later
abbrev pub one_later : Channel
one_later = holding (numbers (0 ∷ [])) (words (1, 1) (2, 1) 1)

-- the source counts n numbers from `from` on, after xs, and the sink takes k
abbrev pub moving_sum : List ℕ → ℕ → ℕ → ℕ → Network
moving_sum xs from n k =
    network (count from n ∷ copy ∷ add ∷ sink k ∷ [])
    (from_source xs ∷ words (1, 0) (2, 0) 1 ∷ one_later ∷ words (2, 0) (3, 0) 1 ∷ [])

-- each number plus the one before it, modulo 2^64; b precedes the first
abbrev pub sums_of_two : ℕ → List ℕ → List ℕ
sums_of_two b [] = []
sums_of_two b (x ∷ xs) = (x + b) % 2 ^ 64 ∷ sums_of_two x xs

-- the channels from the source to the copy, from it to the adder (two), and to the sink
abbrev pub moving_streams : List ℕ → ℕ → List Token
moving_streams xs = on_channels (numbers xs ∷ numbers xs ∷ numbers (0 ∷ xs) ∷ numbers (sums_of_two 0 xs) ∷ [])

-- for any input the network computes the sums of adjacent numbers
abbrev pub MovingSum : Type 0
MovingSum =
    (xs : List ℕ) (from n k : ℕ)
    → HasStreams standard (moving_sum xs from n k) (moving_streams (arriving xs from n))
