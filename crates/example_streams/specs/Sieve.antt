-- A sieve (examples/sieve.toml): three stages, each a copy, a test whether its number divides a word, and a switch.
use Rattle.std.specs.Prelude.{ℕ, ◌%◌, ◌==◌, not, List, [], ◌∷◌, filter, map}
use Rattle.kpn_model.specs.declared.token.Token.{Token}
use Rattle.kpn_model.specs.declared.token.Token.TheVariants.{Flag}
use Rattle.kpn_model.specs.Network.{Network}
use Rattle.kpn_standard.specs.Standard.{standard}
use Rattle.kpn_streams.specs.Functions.{divided}
use Rattle.kpn_streams.specs.Solving.{HasStreams}
use Rattle.test_laws.specs.Building.{count, sink, copy, divides, switch, words, flags, holding, numbers, network}
use Rattle.example_streams.specs.Arriving.{arriving, on_channels}

-- the stages test for a, b and c; the source counts n numbers from `from` on, after xs; sink i takes `takes i`
abbrev pub sieve : ℕ → ℕ → ℕ → List ℕ → ℕ → ℕ → (ℕ → ℕ) → Network
sieve a b c xs from n takes =
    network
    (
    count from n
    ∷ copy
    ∷ divides a
    ∷ switch
    ∷ copy
    ∷ divides b
    ∷ switch
    ∷ copy
    ∷ divides c
    ∷ switch
    ∷ sink (takes 0)
    ∷ sink (takes 1)
    ∷ sink (takes 2)
    ∷ sink (takes 3)
    ∷ []
    )
    (
    holding (numbers xs) (words (0, 0) (1, 0) 1)
    ∷ words (1, 0) (2, 0) 1
    ∷ words (1, 1) (3, 0) 1
    ∷ flags (2, 0) (3, 1) 1
    ∷ words (3, 1) (10, 0) 1
    ∷ words (3, 0) (4, 0) 1
    ∷ words (4, 0) (5, 0) 1
    ∷ words (4, 1) (6, 0) 1
    ∷ flags (5, 0) (6, 1) 1
    ∷ words (6, 1) (11, 0) 1
    ∷ words (6, 0) (7, 0) 1
    ∷ words (7, 0) (8, 0) 1
    ∷ words (7, 1) (9, 0) 1
    ∷ flags (8, 0) (9, 1) 1
    ∷ words (9, 1) (12, 0) 1
    ∷ words (9, 0) (13, 0) 1
    ∷ []
    )

-- those that m divides, in order, and the others
abbrev pub multiples : ℕ → List ℕ → List ℕ
multiples m xs = filter (λ x. x % m == 0) xs

abbrev pub others : ℕ → List ℕ → List ℕ
others m xs = filter (λ x. not (x % m == 0)) xs

-- whether m divides each
abbrev pub tested : ℕ → List ℕ → List Token
tested m xs = map (λ f. Flag f) (divided m xs)

-- the channels before and in a stage with input xs: n, ask, w, yes, drop
abbrev pub stage : ℕ → List ℕ → List (List Token) → List (List Token)
stage m xs rest = numbers xs ∷ numbers xs ∷ numbers xs ∷ tested m xs ∷ numbers (multiples m xs) ∷ rest

-- those of a stage with input xs, and the channel after it
abbrev pub last_stage : ℕ → List ℕ → List (List Token)
last_stage m xs = stage m xs (numbers (others m xs) ∷ [])

-- those of the three stages, and the last
abbrev pub sieve_streams : ℕ → ℕ → ℕ → List ℕ → ℕ → List Token
sieve_streams a b c xs =
    on_channels
    (stage a xs (stage b (others a xs) (last_stage c (others b (others a xs)))))

-- for any input each stage passes on what its number doesn't divide, in order; so the last channel gets the
-- numbers that none of the three divides
abbrev pub Sieve : Type 0
Sieve =
    (a b c : ℕ) (xs : List ℕ) (from n : ℕ) (takes : ℕ → ℕ)
    → HasStreams standard (sieve a b c xs from n takes) (sieve_streams a b c (arriving xs from n))
