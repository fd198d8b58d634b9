-- Many tokens are fed at once.
use Rattle.std.proofs.Common.{◌≡◌, ◌≤◌, ℕ, true, List, drop, length, map, take, sym, subst, arith}
use Rattle.std.proofs.lemmas.List.{length-take-le, take-take}
use Rattle.kpn_model.specs.declared.token.Token.{Token}
use Rattle.kpn_model.specs.Network.{Family}
use Rattle.kpn_flow.specs.Events.{Fed, Flows}
use Rattle.kpn_flow.specs.Flows.{FlowView, IsSameFlow, is_among}
use Rattle.hox_stream.specs.Gathering.{Gathers, LeadsOn, end_of}
use Rattle.hox_stream.specs.Ports.{Pours}
use Rattle.hox_stream.specs.Views.{InletView}
use Rattle.hox_stream.proofs.Flowed.{fed_at_ends, same_net_of}
use Rattle.hox_stream.proofs.Gathered.{passed_by, takes_gathered}

-- of the tokens that were gathered the first were fed, and their records were taken
pub pours_batch : (kinds : Family) (s t : FlowView) (p q : InletView) (tokens : List Token) (ends : List ℕ) (count fed used : ℕ) → IsSameFlow s t → Gathers p.layout p.sort p.kept tokens ends count → count ≤ length tokens
    → fed ≤ length (take count tokens) → Flows kinds s.network s.state (map (λ (token : Token). Fed p.channel token) (take fed (take count tokens))) t.state → is_among s.inputs p.channel ≡ true
    → used ≡ end_of ends fed → q ≡ passed_by p used fed → Pours kinds s t p q
pours_batch kinds s t p q tokens ends count fed used same gathers some few flows input at e =
    let within : fed ≤ count = omega (arith, few, length-take-le count tokens some) in
    let size : length (take fed tokens) ≡ fed = length-take-le fed tokens (omega (arith, within, some)) in
    let leads : LeadsOn p.layout p.sort p.kept (drop used p.kept) (take fed tokens) = subst (λ n. LeadsOn p.layout p.sort p.kept (drop n p.kept) (take fed tokens)) (sym at) (gathers.leads fed within) in
    record {
      same = same_net_of s t same;
      tokens = take fed tokens;
      takes = takes_gathered p q used fed (take fed tokens) leads (sym size) e;
      flows = subst (λ (l : List Token). Flows kinds s.network s.state (map (λ (token : Token). Fed p.channel token) l) t.state) (take-take fed count tokens within) flows;
      at_ends = fed_at_ends (is_among s.inputs) (is_among s.outputs) p.channel (take fed tokens) input;
    }
