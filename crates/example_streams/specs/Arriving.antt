-- What arrives from a source.
use Rattle.std.specs.Prelude.{ℕ, List, [], ◌++◌, get_or}
use Rattle.std.specs.List.{range_with_len}
use Rattle.kpn_model.specs.declared.token.Token.{Token}
use Rattle.kpn_model.specs.declared.parts.Channel.{Channel}
use Rattle.test_laws.specs.Building.{words, holding, numbers}

-- the start tokens of a channel, and then the n numbers from `from` on that a source counts
abbrev pub arriving : List ℕ → ℕ → ℕ → List ℕ
arriving xs from n = xs ++ range_with_len from n

-- the channel from the source, which begins with these numbers
abbrev pub from_source : List ℕ → Channel
from_source xs = holding (numbers xs) (words (0, 0) (1, 0) 1)

-- these tokens, channel by channel, and none on any other
abbrev pub on_channels : List (List Token) → ℕ → List Token
on_channels streams c = get_or streams c []
