-- Short ways to write networks of the standard kinds. They have no names, since runs don't depend on them.
use Rattle.std.specs.Prelude.{ℕ, List, [], ◌∷◌, map}
use Rattle.kpn_model.specs.declared.token.Token.{Token}
use Rattle.kpn_model.specs.declared.token.Token.TheVariants.{Word}
use Rattle.kpn_model.specs.declared.token.Sort.TheVariants.{Words, Flags}
use Rattle.kpn_model.specs.declared.parts.Process.{Process}
use Rattle.kpn_model.specs.declared.parts.Channel.{Channel}
use Rattle.kpn_model.specs.Network.{Network}

abbrev pub process : ℕ → ℕ → ℕ → Process
process kind x y = record { name = []; card = record { kind = kind; args = x ∷ y ∷ 0 ∷ [] } }

-- writes the n numbers from `from` on, and stops
abbrev pub count : ℕ → ℕ → Process
count from n = process 0 from n

-- takes n tokens and stops
abbrev pub sink : ℕ → Process
sink n = process 1 n 0

-- passes n tokens on and stops
abbrev pub take : ℕ → Process
take n = process 2 n 0

-- writes each token to both outputs
abbrev pub copy : Process
copy = process 3 0 0

-- writes the sum of a token from each input
abbrev pub add : Process
add = process 5 0 0

-- writes k times each token
abbrev pub scale : ℕ → Process
scale k = process 6 k 0

-- passes on a tokens of its first input, then b of its second, in turn
abbrev pub weave : ℕ → ℕ → Process
weave a b = process 7 a b

-- passes on the lesser of two tokens, and one of two equal ones
abbrev pub merge : Process
merge = process 8 0 0

-- writes whether m divides each token
abbrev pub divides : ℕ → Process
divides m = process 9 m 0

-- passes each token on to the output that a flag selects
abbrev pub switch : Process
switch = process 10 0 0

-- an empty channel of words from an output to an input, each a process and its port
abbrev pub words : ℕ × ℕ → ℕ × ℕ → ℕ → Channel
words from to capacity =
    record {
      name = [];
      writer = from.0;
      out = from.1;
      reader = to.0;
      input = to.1;
      sort = Words;
      capacity = capacity;
      tokens = [];
    }

-- an empty channel of flags
abbrev pub flags : ℕ × ℕ → ℕ × ℕ → ℕ → Channel
flags from to capacity = record (words from to capacity) { sort = Flags }

abbrev pub holding : List Token → Channel → Channel
holding tokens c = record c { tokens = tokens }

abbrev pub numbers : List ℕ → List Token
numbers ns = map (λ n. Word n) ns

-- the streams of one number, and of one to three or six
abbrev pub just_number : ℕ → List Token
just_number n = numbers (n ∷ [])

abbrev pub one_to_three : List Token
one_to_three = numbers (1 ∷ 2 ∷ 3 ∷ [])

abbrev pub one_to_three_twice : List Token
one_to_three_twice = numbers (1 ∷ 2 ∷ 3 ∷ 1 ∷ 2 ∷ 3 ∷ [])

abbrev pub one_to_six : List Token
one_to_six = numbers (1 ∷ 2 ∷ 3 ∷ 4 ∷ 5 ∷ 6 ∷ [])

-- the channel of running sums from the copy back to the adder, which begins with 0
abbrev pub sums_back : Channel
sums_back = holding (numbers (0 ∷ [])) (words (2, 0) (1, 1) 1)

-- a network with a budget of 10,000; its channels grow by one, up to 65,535
abbrev pub network : List Process → List Channel → Network
network processes channels =
    record {
      processes = processes;
      channels = channels;
      budget = 10000;
      step = 1;
      ceiling = 65535;
    }
