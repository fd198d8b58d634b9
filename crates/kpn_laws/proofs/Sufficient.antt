-- Capacities that suffice, and runs that keep theirs.
use Rattle.std.proofs.Common.{◌≡◌, ◌≤◌, ◌<◌, List, [], ◌∷◌, length, refl, sym, ap, ◌∙◌, arith, ℕ, ◌+◌, zero, suc, get_or, subst}
use Rattle.kpn_model.specs.Endings.{IsFinal}
use Rattle.kpn_model.specs.History.{growths, grown}
use Rattle.kpn_model.specs.declared.parts.Channel.{Channel}
use Rattle.kpn_model.specs.Network.{no_channel, channel_of, Family, resize, resized}
use Rattle.kpn_laws.specs.Sufficient.{KeepsCapacities, OwnEndSuffices}
use Rattle.kpn_laws.proofs.EachMoment.{history_tells_state}

-- no starting capacity is above b, if none of those given is
resize-capacity :
    (ls : List Channel) (sizes : ℕ → ℕ) (b : ℕ) → ((c : ℕ) → c < length ls → sizes c ≤ b) → (c : ℕ) → (get_or (resize ls sizes) c no_channel).capacity ≤ b
resize-capacity [] sizes b h c = omega arith
resize-capacity (l ∷ ls) sizes b h zero = h 0 (omega arith)
resize-capacity (l ∷ ls) sizes b h (suc c) = resize-capacity ls (λ n. sizes (n + 1)) b (λ n small. h (n + 1) (omega arith)) c

-- a run without growths has no greater capacities at its end than at its start
pub keeps_capacities : (kinds : Family) → KeepsCapacities kinds
keeps_capacities kinds net sizes b F N small run none c =
    let told = (history_tells_state kinds (resized net sizes) F N run c).2 in
    let first = resize-capacity net.channels sizes b small c in
    let same : grown (channel_of (resized net sizes) c).capacity (growths F) c ≡ (channel_of (resized net sizes) c).capacity =
    ap (λ g. grown (channel_of (resized net sizes) c).capacity g c) none in
    omega arith

-- channels that are given the capacities which they have stay as they are
resize-same : (ls : List Channel) (sizes : ℕ → ℕ) → ((c : ℕ) → sizes c ≡ (get_or ls c no_channel).capacity) → resize ls sizes ≡ ls
resize-same [] sizes h = refl
resize-same (l ∷ ls) sizes h =
    let first : record l { capacity = sizes 0 } ≡ l = ap (λ n. record l { capacity = n }) (h 0) in
    let next : (c : ℕ) → c + 1 ≡ suc c = λ c. omega arith in
    let rest = resize-same ls (λ c. sizes (c + 1)) (λ c. h (c + 1) ∙ ap (λ x. (get_or (l ∷ ls) x no_channel).capacity) (next c)) in
    λ i. first i ∷ rest i

-- a run of the network itself that terminates or ends in a deadlock shows which capacity suffices
pub own_end : (kinds : Family) → OwnEndSuffices kinds
own_end kinds net E M a b final natural bounded_by =
    let own : ℕ → ℕ = λ c. (channel_of net c).capacity in
    let same : resized net own ≡ net = ap (λ (ls : List Channel). record net { channels = ls }) (resize-same net.channels own (λ c. refl)) in
    record { sizes = own; history = E; state = M; cause = a; final = subst (λ x. IsFinal kinds x E M a) (sym same) final; natural = natural; bounded = bounded_by }
