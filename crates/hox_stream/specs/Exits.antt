-- The kinds of readers that stop at once, and the sketch in which they read the drained channels.
use Rattle.std.specs.Prelude.{◌≡◌, ◌==◌, ◌&&◌, ◌||◌, ℕ, Bool, List, [], ◌∷◌, map, codes, Option, Some, None, if◌then◌else◌}
use Rattle.std.specs.Option.{option_map_or}
use Rattle.std.specs.List.{find, list_any}
use Rattle.std.specs.Str.{bytes_eq}
use Rattle.kpn_model.specs.declared.token.Token.{Token}
use Rattle.kpn_model.specs.declared.token.Sort.{Sort}
use Rattle.kpn_model.specs.declared.token.Sort.TheVariants.{Words, Flags}
use Rattle.kpn_model.specs.declared.kinds.Card.{Card}
use Rattle.kpn_model.specs.declared.kinds.Signature.{Signature}
use Rattle.kpn_model.specs.declared.kinds.Act.TheVariants.{Stop}
use Rattle.kpn_model.specs.Network.{Family}
use Rattle.kpn_sketch.specs.declared.sketch.Sketch.{Sketch}
use Rattle.kpn_sketch.specs.declared.sketch.ProcessSketch.{ProcessSketch}
use Rattle.kpn_sketch.specs.declared.sketch.ChannelSketch.{ChannelSketch}

abbrev pub nothing_kept : List ℕ
nothing_kept = 0 ∷ 0 ∷ 0 ∷ 0 ∷ []

abbrev pub exit_name : Sort → List ℕ
exit_name Words = codes "words written out"
exit_name Flags = codes "flags written out"

-- the second exit, if the name is its own
abbrev pub flags_exit : List ℕ → Option (ℕ × ℕ)
flags_exit name = if bytes_eq name (exit_name Flags) then Some (1, 0) else None

abbrev pub exit_named : List ℕ → Option (ℕ × ℕ)
exit_named name = if bytes_eq name (exit_name Words) then Some (0, 0) else flags_exit name

abbrev pub one_input : Sort → Signature
one_input sort = record { ins = Some sort ∷ None ∷ None ∷ []; outs = None ∷ None ∷ None ∷ [] }

-- the ports of the second exit
abbrev pub flags_exit_ports : Card → Option Signature
flags_exit_ports card = if card.kind == 1 then Some (one_input Flags) else None

abbrev pub exit_ports : Card → Option Signature
exit_ports card = if card.kind == 0 then Some (one_input Words) else flags_exit_ports card

abbrev pub exits : Family
exits = record { start = λ card. nothing_kept; answer = λ card local last. record { next = local; act = Stop } }

abbrev pub ExitAdmits : Card → List ℕ → Option Token → Type 0
ExitAdmits card local last = (local ≡ nothing_kept) × (last ≡ None)

-- the kinds that only read one channel
abbrev pub is_reader : List ℕ → Bool
is_reader kind = (bytes_eq kind (codes "sink") || bytes_eq kind (codes "drain")) || bytes_eq kind (codes "drain_flags")

abbrev pub is_one_of : List (List ℕ) → List ℕ → Bool
is_one_of names name = list_any (λ other. bytes_eq other name) names

-- the channel with one of these names that leads to this process
abbrev pub channel_to : List ChannelSketch → List (List ℕ) → List ℕ → Option ChannelSketch
channel_to channels names process = find (λ c. bytes_eq c.to process && is_one_of names c.name) channels

-- the exit that reads this channel, if it is there
abbrev pub exit_for : ProcessSketch → Option ChannelSketch → ProcessSketch
exit_for p channel = option_map_or (λ c. record p { kind = exit_name c.sort; args = [] }) channel p

-- a process that only reads a channel of one of these names stops at once
abbrev pub exited : List ChannelSketch → List (List ℕ) → ProcessSketch → ProcessSketch
exited channels names p = if is_reader p.kind then exit_for p (channel_to channels names p.name) else p

abbrev pub with_exits : List (List ℕ) → Sketch → Sketch
with_exits names sketch = record sketch { processes = map (exited sketch.channels names) sketch.processes }
