-- A network: processes, and the channels between their ports.
use Rattle.std.specs.Prelude.{ℕ, ◌+◌, ◌==◌, ◌&&◌, List, [], ◌∷◌, Option, get_or, position}
use Rattle.std.specs.Str.{bytes_eq}
use Rattle.kpn_model.specs.declared.token.Token.{Token}
use Rattle.kpn_model.specs.declared.token.Sort.TheVariants.{Words}
use Rattle.kpn_model.specs.declared.kinds.Card.{Card}
use Rattle.kpn_model.specs.declared.kinds.Answer.{Answer}
use Rattle.kpn_model.specs.declared.parts.Process.{Process}
use Rattle.kpn_model.specs.declared.parts.Channel.{Channel}

-- how processes begin, and what they answer after a read of this token, if any
pub record Family : Type 0 where
  pub start : Card → List ℕ
  pub answer : Card → List ℕ → Option Token → Answer

-- what a card admits: these local states, after a read of this token, if any
abbrev pub Admits : Type 1
Admits = Card → List ℕ → Option Token → Type 0

abbrev pub family_of : (Card → List ℕ) → (Card → List ℕ → Option Token → Answer) → Family
family_of begin answers = record { start = begin; answer = answers }

-- a growth adds `step` to a capacity, up to the ceiling
pub record Network : Type 0 where
  pub processes : List Process
  pub channels : List Channel
  pub budget : ℕ
  pub step : ℕ
  pub ceiling : ℕ

abbrev pub no_process : Process
no_process = record { name = []; card = record { kind = 0; args = 0 ∷ 0 ∷ 0 ∷ [] } }

abbrev pub no_channel : Channel
no_channel = record { name = []; writer = 0; out = 0; reader = 0; input = 0; sort = Words; capacity = 0; tokens = [] }

abbrev pub card_of : Network → ℕ → Card
card_of net p = (get_or net.processes p no_process).card

abbrev pub channel_of : Network → ℕ → Channel
channel_of net c = get_or net.channels c no_channel

abbrev pub in_of : Network → ℕ → ℕ → Option ℕ
in_of net p k = position (λ l. (l.reader == p) && (l.input == k)) net.channels

abbrev pub out_of : Network → ℕ → ℕ → Option ℕ
out_of net p k = position (λ l. (l.writer == p) && (l.out == k)) net.channels

abbrev pub number_of_channel : Network → List ℕ → Option ℕ
number_of_channel net name = position (λ l. bytes_eq l.name name) net.channels

-- the network with other starting capacities
abbrev pub resize : List Channel → (ℕ → ℕ) → List Channel
resize [] sizes = []
resize (l ∷ ls) sizes = record l { capacity = sizes 0 } ∷ resize ls (λ c. sizes (c + 1))

abbrev pub resized : Network → (ℕ → ℕ) → Network
resized net sizes = record net { channels = resize net.channels sizes }
