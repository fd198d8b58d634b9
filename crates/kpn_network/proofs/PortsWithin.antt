-- What the table of ports holds: a channel that is found is one of the network's.
use Rattle.std.proofs.Common.{◌≡◌, ℕ, zero, suc, ◌<◌, ◌∙◌, List, length, get_or, Bool, Option, Some, None, refl, sym, arith}
use Rattle.std.specs.List.{position}
use Rattle.std.specs.Option.{IfSome}
use Rattle.std.proofs.lemmas.List.{get_or_read_under}
use Rattle.std.proofs.lemmas.List.Quantifiers.{position-Some}
use Rattle.kpn_model.specs.declared.parts.Channel.{Channel}
use Rattle.kpn_model.specs.Network.{no_channel}
use Rattle.kpn_network.specs.declared.ports.Ports.{Ports}
use Rattle.kpn_network.specs.Ports.{HasPorts, ports_at, no_ports, in_at, out_at}

pub found_within : (f : Channel → Bool) (ls : List Channel) (r : Option ℕ) → r ≡ position f ls → IfSome r (λ c. c < length ls)
found_within f ls None e = tt
found_within f ls (Some i) e = (position-Some f ls i no_channel (sym e)).0

listed : {channels : List Channel} {count : ℕ} {table : List Ports} → HasPorts channels count table → (p : ℕ) (found : Ports) → found ≡ get_or table p found → p < count → found ≡ ports_at channels p
listed {channels} {count} {table} has p found at within = get_or_read_under table p count found no_ports at within (sym has.many) ∙ has.each p within

input_of : (channels : List Channel) (p port : ℕ) → port < 3 → get_or (ports_at channels p).ins port None ≡ in_at channels p port
input_of channels p zero few = refl
input_of channels p (suc zero) few = refl
input_of channels p (suc (suc zero)) few = refl
input_of channels p (suc (suc (suc n))) few = absurd (omega (arith, few))

output_of : (channels : List Channel) (p port : ℕ) → port < 3 → get_or (ports_at channels p).outs port None ≡ out_at channels p port
output_of channels p zero few = refl
output_of channels p (suc zero) few = refl
output_of channels p (suc (suc zero)) few = refl
output_of channels p (suc (suc (suc n))) few = absurd (omega (arith, few))

pub input_is : {channels : List Channel} {count : ℕ} {table : List Ports} → HasPorts channels count table → (p : ℕ) (found : Ports) → found ≡ get_or table p found → p < count → (port : ℕ) → port < 3 → get_or found.ins port None ≡ in_at channels p port
input_is {channels} has p found at within port few = rw (listed has p found at within) (input_of channels p port few)

pub output_is : {channels : List Channel} {count : ℕ} {table : List Ports} → HasPorts channels count table → (p : ℕ) (found : Ports) → found ≡ get_or table p found → p < count → (port : ℕ) → port < 3 → get_or found.outs port None ≡ out_at channels p port
output_is {channels} has p found at within port few = rw (listed has p found at within) (output_of channels p port few)
