-- A table of the channels at the ports of each process.
use Rattle.std.specs.Prelude.{◌≡◌, ℕ, ◌<◌, ◌==◌, ◌&&◌, List, [], ◌∷◌, Option, length, get_or, position, IfSome}
use Rattle.kpn_model.specs.declared.parts.Channel.{Channel}
use Rattle.kpn_network.specs.declared.ports.Ports.{Ports}

abbrev pub in_at : List Channel → ℕ → ℕ → Option ℕ
in_at channels p k = position (λ l. (l.reader == p) && (l.input == k)) channels

abbrev pub out_at : List Channel → ℕ → ℕ → Option ℕ
out_at channels p k = position (λ l. (l.writer == p) && (l.out == k)) channels

-- the channels at the three inputs of p
abbrev pub ins_at : List Channel → ℕ → List (Option ℕ)
ins_at channels p = in_at channels p 0 ∷ in_at channels p 1 ∷ in_at channels p 2 ∷ []

-- the channels at the three outputs of p
abbrev pub outs_at : List Channel → ℕ → List (Option ℕ)
outs_at channels p = out_at channels p 0 ∷ out_at channels p 1 ∷ out_at channels p 2 ∷ []

abbrev pub ports_at : List Channel → ℕ → Ports
ports_at channels p = record { ins = ins_at channels p; outs = outs_at channels p }

abbrev pub no_ports : Ports
no_ports = record { ins = []; outs = [] }

pub record HasPorts (channels : List Channel) (count : ℕ) (ports : List Ports) : Type 0 where
  pub many : length ports ≡ count
  pub each : (p : ℕ) → p < count → get_or ports p no_ports ≡ ports_at channels p

-- what was searched for among so many channels: the number of one, if there is one
pub record Finds (channels : ℕ) (found result : Option ℕ) : Type 0 where
  pub is : result ≡ found
  pub within : IfSome result (λ c. c < channels)
