-- What comes out of two flows that are fed the same in the end.
use Rattle.std.proofs.Common.{◌≡◌, List, [], ◌∷◌, ◌++◌, append-nil, length, refl, sym, ap, ◌∙◌, arith, ℕ, ◌+◌, subst}
use Rattle.kpn_model.specs.declared.token.Token.{Token}
use Rattle.kpn_model.specs.declared.parts.Channel.{Channel}
use Rattle.kpn_model.specs.Network.{Network, Family, channel_of, resize, resized}
use Rattle.kpn_model.specs.Semantics.{State, tokens, IsRun}
use Rattle.kpn_model.specs.History.{put_on, stream, ArePrefixComparable}
use Rattle.kpn_laws.proofs.Outcomes.{all_comparable}
use Rattle.kpn_flow.specs.Events.{Event, entries_of, drained}
use Rattle.kpn_flow.specs.Flows.{AreEnds}
use Rattle.kpn_flow.specs.Preloaded.{preload, preloaded, without_growths, all_fed}
use Rattle.kpn_flow.specs.Pieces.{IsOneRunWithStreams, IsWay, PiecesAreComparable}
use Rattle.kpn_flow.proofs.Untaken.{one_run}

-- two loads of equal tokens make one network
pub preload_same : (ls : List Channel) (more most : ℕ → List Token) (sizes : ℕ → ℕ) → ((c : ℕ) → more c ≡ most c) → preload ls more sizes ≡ preload ls most sizes
preload_same [] more most sizes e = refl
preload_same (l ∷ ls) more most sizes e =
    ap (λ ts. record l { tokens = l.tokens ++ ts; capacity = sizes 0 } ∷ preload ls (λ c. more (c + 1)) (λ c. sizes (c + 1))) (e 0)
    ∙ ap (λ rest. record l { tokens = l.tokens ++ most 0; capacity = sizes 0 } ∷ rest) (preload_same ls (λ c. more (c + 1)) (λ c. most (c + 1)) (λ c. sizes (c + 1)) (λ c. e (c + 1)))

-- with other capacities
resize_preload : (ls : List Channel) (more : ℕ → List Token) (sizes other : ℕ → ℕ) → resize (preload ls more sizes) other ≡ preload ls more other
resize_preload [] more sizes other = refl
resize_preload (l ∷ ls) more sizes other =
    ap (λ rest. record l { tokens = l.tokens ++ more 0; capacity = other 0 } ∷ rest) (resize_preload ls (λ c. more (c + 1)) (λ c. sizes (c + 1)) (λ c. other (c + 1)))

-- room for all that ever is on a channel
abbrev pub room_for : Network → List Event → (ℕ → List Token) → ℕ → ℕ
room_for net xs later c = length (channel_of net c).tokens + length (all_fed xs later c) + length (put_on (entries_of xs) c)

pub whole : (kinds : Family) (net : Network) (inputs outputs : List ℕ) (M : State) → AreEnds kinds net inputs outputs → (xs : List Event) (later : ℕ → List Token) → IsWay kinds net inputs outputs xs M later → IsOneRunWithStreams kinds net outputs xs M later (room_for net xs later)
whole kinds net inputs outputs M ends xs later w = one_run kinds net inputs outputs M ends xs later (room_for net xs later) w.flows w.at_ends w.later_inputs (λ c h. omega arith)

pub pieces_are_comparable : (kinds : Family) → PiecesAreComparable kinds
pieces_are_comparable kinds net inputs outputs ends xs ys M N later last v w fed c output no_input =
    let a = room_for net xs later in
    let b = room_for net ys last in
    let x = whole kinds net inputs outputs M ends xs later v in
    let y = whole kinds net inputs outputs N ends ys last w in
    let E = without_growths (entries_of xs) in
    let F = without_growths (entries_of ys) in
    let one = preloaded net (all_fed xs later) a in
    let two = preloaded net (all_fed ys last) b in
    let same : two ≡ resized one b = ap (λ (ls : List Channel). record net { channels = ls }) (sym (preload_same net.channels (all_fed xs later) (all_fed ys last) b fed) ∙ sym (resize_preload net.channels (all_fed xs later) a b)) in
    let run : IsRun kinds (resized one b) F y.one.state = subst (λ (n : Network). IsRun kinds n F y.one.state) same y.one.run in
    let first : stream one E c ≡ drained xs c ++ tokens M c = x.outputs_are c output ∙ ap (λ l. (drained xs c ++ tokens M c) ++ l) (v.later_inputs c no_input) ∙ append-nil (drained xs c ++ tokens M c) in
    let second : stream (resized one b) F c ≡ drained ys c ++ tokens N c = ap (λ (n : Network). stream n F c) (sym same) ∙ y.outputs_are c output ∙ ap (λ l. (drained ys c ++ tokens N c) ++ l) (w.later_inputs c no_input) ∙ append-nil (drained ys c ++ tokens N c) in
    subst (λ l. ArePrefixComparable l (drained ys c ++ tokens N c)) first
    (subst (λ l. ArePrefixComparable (stream one E c) l) second ((all_comparable kinds one b E F x.one.state y.one.state x.one.run run).streams c))
