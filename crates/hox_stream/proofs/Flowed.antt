-- What is poured and told, one after another.
use Rattle.std.proofs.Common.{◌≡◌, ◌++◌, ℕ, Bool, true, List, [], ◌∷◌, map, refl, sym, ◌∙◌, subst}
use Rattle.std.proofs.lemmas.List.{map-append}
use Rattle.kpn_model.specs.declared.token.Token.{Token}
use Rattle.kpn_model.specs.Network.{Family, Network}
use Rattle.kpn_flow.specs.Events.{Event, Fed, Drained, Flows}
use Rattle.kpn_flow.specs.Flows.{FlowView, IsSameFlow, is_among, with_ended}
use Rattle.kpn_flow.specs.Preloaded.{IsAtEnds}
use Rattle.kpn_flow.proofs.Stretches.{at_ends_both, flows_both}
use Rattle.hox_stream.specs.Ports.{IsSameNet, Pours, ReadsOn, Tells}
use Rattle.hox_stream.specs.Views.{InletView, OutletView}
use Rattle.hox_stream.proofs.Ported.{takes_both, takes_none, takes_read, writes_none}

pub same_net_none : (s : FlowView) → IsSameNet s s
same_net_none s = record { network = refl; inputs = refl; outputs = refl }

pub same_net_both : (s t u : FlowView) → IsSameNet s t → IsSameNet t u → IsSameNet s u
same_net_both s t u x y = record { network = y.network ∙ x.network; inputs = y.inputs ∙ x.inputs; outputs = y.outputs ∙ x.outputs }

pub same_net_of : (s t : FlowView) → IsSameFlow s t → IsSameNet s t
same_net_of s t x = record { network = x.network; inputs = x.inputs; outputs = x.outputs }

-- the flow is the same one
pub flows_there : (kinds : Family) (s t : FlowView) (xs : List Event) (N : FlowView) → IsSameNet s t → Flows kinds t.network t.state xs N.state → Flows kinds s.network t.state xs N.state
flows_there kinds s t xs N same h = subst (λ (n : Network). Flows kinds n t.state xs N.state) same.network h

pub at_ends_there : (s t : FlowView) (xs : List Event) → IsSameNet s t → IsAtEnds (is_among t.inputs) (is_among t.outputs) xs → IsAtEnds (is_among s.inputs) (is_among s.outputs) xs
at_ends_there s t xs same h = subst (λ (l : List ℕ). IsAtEnds (is_among l) (is_among s.outputs) xs) same.inputs (subst (λ (l : List ℕ). IsAtEnds (is_among t.inputs) (is_among l) xs) same.outputs h)

pub pours_none : (kinds : Family) (s t : FlowView) (p q : InletView) → t ≡ s → q ≡ p → Pours kinds s t p q
pours_none kinds s t p q e f =
    subst (λ (x : FlowView). Pours kinds s x p q) (sym e) (subst (λ (x : InletView). Pours kinds s s p x) (sym f) (record { same = same_net_none s; tokens = []; takes = takes_none p; flows = refl; at_ends = tt }))

pub pours_both : (kinds : Family) (s t u : FlowView) (p q r : InletView) → Pours kinds s t p q → Pours kinds t u q r → Pours kinds s u p r
pours_both kinds s t u p q r x y =
    let feed : Token → Event = λ token. Fed p.channel token in
    let more : List Event = map feed y.tokens in
    let all : map feed (x.tokens ++ y.tokens) ≡ map feed x.tokens ++ more = map-append feed x.tokens y.tokens in
    let flows : Flows kinds t.network t.state more u.state = subst (λ c. Flows kinds t.network t.state (map (λ (token : Token). Fed c token) y.tokens) u.state) x.takes.channel y.flows in
    let ends : IsAtEnds (is_among t.inputs) (is_among t.outputs) more = subst (λ c. IsAtEnds (is_among t.inputs) (is_among t.outputs) (map (λ (token : Token). Fed c token) y.tokens)) x.takes.channel y.at_ends in
    record {
      same = same_net_both s t u x.same y.same;
      tokens = x.tokens ++ y.tokens;
      takes = takes_both p q r x.tokens y.tokens x.takes y.takes;
      flows = subst (λ (l : List Event). Flows kinds s.network s.state l u.state) (sym all) (flows_both kinds s.network s.state t.state u.state (map feed x.tokens) more x.flows (flows_there kinds s t more u x.same flows));
      at_ends = subst (λ (l : List Event). IsAtEnds (is_among s.inputs) (is_among s.outputs) l) (sym all) (at_ends_both (is_among s.inputs) (is_among s.outputs) (map feed x.tokens) more x.at_ends (at_ends_there s t more x.same ends));
    }

-- a source is read on
pub pours_read : (kinds : Family) (s : FlowView) (p q : InletView) → ReadsOn p q → Pours kinds s s p q
pours_read kinds s p q r = record { same = same_net_none s; tokens = []; takes = takes_read p q r; flows = refl; at_ends = tt }

-- an input ends
pub pours_ended : (kinds : Family) (s t : FlowView) (c : ℕ) (p : InletView) → t ≡ with_ended s c → Pours kinds s t p p
pours_ended kinds s t c p e =
    subst (λ (x : FlowView). Pours kinds s x p p) (sym e) (record { same = record { network = refl; inputs = refl; outputs = refl }; tokens = []; takes = takes_none p; flows = refl; at_ends = tt })

-- what is drained of an output goes out at an end
pub drained_at_ends : (ins outs : ℕ → Bool) (c : ℕ) (ts : List Token) → outs c ≡ true → IsAtEnds ins outs (map (λ token. Drained c token) ts)
drained_at_ends ins outs c [] e = tt
drained_at_ends ins outs c (t ∷ ts) e = (e, drained_at_ends ins outs c ts e)

-- and what is fed into an input comes in at one
pub fed_at_ends : (ins outs : ℕ → Bool) (c : ℕ) (ts : List Token) → ins c ≡ true → IsAtEnds ins outs (map (λ token. Fed c token) ts)
fed_at_ends ins outs c [] e = tt
fed_at_ends ins outs c (t ∷ ts) e = (e, fed_at_ends ins outs c ts e)

-- nothing is drained
pub tells_none : (kinds : Family) (s : FlowView) (p : OutletView) → Tells kinds s s p p
tells_none kinds s p = record { same = same_net_none s; tokens = []; writes = writes_none p; flows = refl; at_ends = tt }
