-- A valid network begins within its capacities, and so stays within them.
use Rattle.std.proofs.Common.{◌≤◌, ℕ, ⊎_elim, Option, length, sym, ap, subst, arith}
use Rattle.std.proofs.lemmas.Bool.{cases_lt}
use Rattle.std.proofs.lemmas.List.{get_or_past}
use Rattle.kpn_model.specs.declared.kinds.Card.{Card}
use Rattle.kpn_model.specs.declared.kinds.Signature.{Signature}
use Rattle.kpn_model.specs.declared.parts.Channel.{Channel}
use Rattle.kpn_model.specs.Network.{Family, Network, no_channel, channel_of}
use Rattle.kpn_model.specs.Valid.{IsValid}
use Rattle.kpn_laws.specs.ValidRuns.{StartsWithin, StaysWithin}
use Rattle.kpn_laws.proofs.Kept.{tokens_at}
use Rattle.kpn_laws.proofs.Within.{always_within}
use Rattle.kpn_laws.proofs.EachMoment.{starts_with}

-- each channel of a valid network begins within its capacity, and a number that is no channel's holds nothing
fits : (signature : Card → Option Signature) (net : Network) → IsValid signature net → (c : ℕ) → length (channel_of net c).tokens ≤ (channel_of net c).capacity
fits signature net valid c =
    ⊎_elim (λ within. valid.start_fits c no_channel within)
    (λ (past : length net.channels ≤ c). subst (λ (l : Channel). length l.tokens ≤ l.capacity) (sym (get_or_past net.channels c no_channel past)) (omega arith))
    (cases_lt c (length net.channels))

-- a valid network begins within its capacities
pub starts_within : (signature : Card → Option Signature) (kinds : Family) → StartsWithin signature kinds
starts_within signature kinds net valid c =
    let f = fits signature net valid c in
    let t = ap length (tokens_at kinds net net.channels c) in
    let n = starts_with kinds net net.channels c in
    omega arith

-- so it stays within them
pub stays_within : (signature : Card → Option Signature) (kinds : Family) → StaysWithin signature kinds
stays_within signature kinds net valid = always_within kinds net (starts_within signature kinds net valid)
