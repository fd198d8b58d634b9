-- Tokens that are fed one after another.
use Rattle.std.proofs.Common.{◌≡◌, List, [], ◌∷◌, length, map, take, get_or, refl, sym, ap, ◌∙◌, arith, ℕ, ◌+◌, ◌<◌, subst, set, drop}
use Rattle.std.proofs.lemmas.List.{take_more, take_more_set, map-append, drop-drop, drop-set-lt}
use Rattle.kpn_model.specs.declared.token.Token.{Token}
use Rattle.kpn_model.specs.Network.{Network, Family}
use Rattle.kpn_model.specs.Semantics.{State}
use Rattle.kpn_flow.specs.Events.{Event, Happens, Flows}
use Rattle.kpn_flow.proofs.Stretches.{flows_both}

-- one event more for one token more
pub one_more :
    (kinds : Family) (net : Network) (f : Token → Event) (ts : List Token) (n : ℕ) (d : Token) (M N O : State) → n < length ts → Flows kinds net M (map f (take n ts)) N → Happens kinds net N (f (get_or ts n d)) O
    → Flows kinds net M (map f (take (n + 1) ts)) O
one_more kinds net f ts n d M N O within flows happens =
    subst (λ l. Flows kinds net M l O) (sym (ap (map f) (take_more ts n d within) ∙ map-append f (take n ts) (get_or ts n d ∷ [])))
    (flows_both kinds net M N O (map f (take n ts)) (f (get_or ts n d) ∷ []) flows (O, happens, refl))

-- one event more, for a token that was put into its place
pub one_more_set :
    (kinds : Family) (net : Network) (f : Token → Event) (ts : List Token) (n : ℕ) (t : Token) (M N O : State) → n < length ts → Flows kinds net M (map f (take n ts)) N → Happens kinds net N (f t) O
    → Flows kinds net M (map f (take (n + 1) (set ts n t))) O
one_more_set kinds net f ts n t M N O within flows happens =
    subst (λ l. Flows kinds net M l O) (sym (ap (map f) (take_more_set ts n t within) ∙ map-append f (take n ts) (t ∷ [])))
    (flows_both kinds net M N O (map f (take n ts)) (f t ∷ []) flows (O, happens, refl))

-- what stands behind the place stays
drop_set : (ts : List Token) (n : ℕ) (t : Token) → drop (n + 1) (set ts n t) ≡ drop (n + 1) ts
drop_set ts n t = drop-set-lt (n + 1) ts n t (omega arith)

drop_both : (ts us : List Token) (n : ℕ) → drop n ts ≡ drop n us → drop (n + 1) ts ≡ drop (n + 1) us
drop_both ts us n e = sym (drop-drop 1 n ts) ∙ ap (λ (l : List Token). drop 1 l) e ∙ drop-drop 1 n us

pub rest_set : (ts us : List Token) (n : ℕ) (t : Token) → drop n ts ≡ drop n us → drop (n + 1) (set ts n t) ≡ drop (n + 1) us
rest_set ts us n t e = drop_set ts n t ∙ drop_both ts us n e
