-- The text of a network as a description, with all that `hox` adds: copies, sorts, tokens of files.
use Rattle.std.specs.Prelude.{ℕ, ◌+◌, ◌==◌, nat_le, nat_lt, ◌||◌, Bool, true, false, not, if◌then◌else◌, codes, decimal, List, [], ◌∷◌, ◌++◌, length}
use Rattle.std.specs.List.{flat_map, list_any}
use Rattle.std.specs.Fmt.{signed_decimal}
use Rattle.std.specs.Int.{w64, cast_signed}
use Rattle.kpn_model.specs.declared.token.Token.{Token}
use Rattle.kpn_model.specs.declared.token.Token.TheVariants.{Word, Flag}
use Rattle.kpn_model.specs.declared.token.Sort.{Sort}
use Rattle.kpn_model.specs.declared.token.Sort.TheVariants.{Words, Flags}
use Rattle.kpn_model.specs.declared.kinds.Card.{Card}
use Rattle.kpn_model.specs.declared.parts.Channel.{Channel}
use Rattle.kpn_model.specs.declared.limits.TheConstants.{CEILING}
use Rattle.kpn_model.specs.Network.{Network, card_of}
use Rattle.kpn_model.specs.texts.Names.{process_name}
use Rattle.kpn_model.specs.texts.Reports.{lines_upto}
use Rattle.kpn_standard.specs.Locals.{at}
use Rattle.kpn_picture.specs.Titles.{below}

-- an argument below 0
abbrev pub negative_text : Card → ℕ → List ℕ
negative_text card k = codes "-" ++ decimal (at card.args k + 1)

-- argument k of a card, if its title has it; for an argument -1 - n below 0 the card has n
abbrev pub argument_text : ℕ → Card → ℕ → List ℕ
argument_text arity card k = if nat_lt k (below card arity) then negative_text card k else decimal (at card.args k)

abbrev pub later_argument : ℕ → Card → ℕ → List ℕ
later_argument arity card k = if nat_le arity k then [] else codes ", " ++ argument_text arity card k

-- the first argument, after the key
abbrev pub first_argument : ℕ → Card → List ℕ
first_argument arity card = codes ", args = [" ++ argument_text arity card 0

abbrev pub arguments_part : ℕ → Card → List ℕ
arguments_part arity card =
    if arity == 0 then [] else
    first_argument arity card ++ later_argument arity card 1 ++ later_argument arity card 2 ++ codes "]"

-- a word is written in two's complement
abbrev pub token_text : Token → List ℕ
token_text (Word w) = signed_decimal (cast_signed w64 w)
token_text (Flag true) = codes "true"
token_text (Flag false) = codes "false"

abbrev pub later_token : Token → List ℕ
later_token t = codes ", " ++ token_text t

abbrev pub tokens_part : List Token → List ℕ
tokens_part [] = []
tokens_part (t ∷ ts) = codes ", tokens = [" ++ token_text t ++ flat_map later_token ts ++ codes "]"

-- keys that have their default are left out
abbrev pub port_part : List ℕ → ℕ → List ℕ
port_part key k = if k == 0 then [] else codes ", " ++ key ++ codes " = " ++ decimal k

-- an end of a channel: a process, and its port
abbrev pub end_part : List ℕ → List ℕ → List ℕ → ℕ → List ℕ
end_part head name key port = head ++ name ++ codes "\"" ++ port_part key port

abbrev pub sort_part : Sort → List ℕ
sort_part Words = []
sort_part Flags = codes ", sort = \"flags\""

abbrev pub capacity_part : ℕ → List ℕ
capacity_part capacity = if capacity == 1 then [] else codes ", capacity = " ++ decimal capacity

abbrev pub has_tokens : Channel → Bool
has_tokens c = not (length c.tokens == 0)

-- only version 2 has a higher ceiling and start tokens
abbrev pub is_second : Network → Bool
is_second net = not (nat_le net.ceiling CEILING) || list_any has_tokens net.channels

abbrev pub version_part : Bool → ℕ → List ℕ
version_part true step = codes "version = 2\nstep = " ++ decimal step
version_part false step = codes "version = 1"

abbrev pub kind_part : List ℕ → List ℕ
kind_part kind = codes "\", kind = \"" ++ kind ++ codes "\""

abbrev pub name_part : List ℕ → List ℕ
name_part name = codes "  { name = \"" ++ name

-- what else than its ends is unusual at a channel
abbrev pub state_part : Channel → List ℕ
state_part x = sort_part x.sort ++ capacity_part x.capacity ++ tokens_part x.tokens

module _ (net : Network) where
  abbrev pub process_line : (ℕ → List ℕ × ℕ) → ℕ → List ℕ
  process_line title p =
      let kind = title (card_of net p).kind in
      name_part (process_name net p) ++ kind_part kind.0 ++ arguments_part kind.1 (card_of net p) ++ codes " },\n"

  abbrev pub ends_part : Channel → List ℕ
  ends_part x =
      end_part (codes "\", from = \"") (process_name net x.writer) (codes "out") x.out
      ++ end_part (codes ", to = \"") (process_name net x.reader) (codes "in") x.input

  abbrev pub channel_line : Channel → List ℕ
  channel_line x = name_part x.name ++ ends_part x ++ state_part x ++ codes " },\n"

  abbrev pub head : List ℕ
  head = version_part (is_second net) net.step ++ codes "\nbudget = " ++ decimal net.budget ++ codes "\nprocess = [\n"

  -- all processes, and all channels, a line each
  abbrev pub processes_text : (ℕ → List ℕ × ℕ) → List ℕ
  processes_text title = lines_upto (process_line title) (length net.processes)

  abbrev pub channels_text : List ℕ
  channels_text = flat_map channel_line net.channels

  abbrev pub description : (ℕ → List ℕ × ℕ) → List ℕ
  description title = head ++ processes_text title ++ codes "]\nchannel = [\n" ++ channels_text ++ codes "]\n"
