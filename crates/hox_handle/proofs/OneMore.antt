-- One word more is fed, or drained.
use Rattle.std.proofs.Common.{◌≡◌, ℕ, ◌+◌, ◌<◌, List, [], ◌∷◌, ◌++◌, length, map, take, drop, set, get_or, refl, sym, ap, ◌∙◌, subst, arith}
use Rattle.std.proofs.lemmas.List.{take_more, take_more_set, map-append, drop-drop, drop-set-lt}
use Rattle.kpn_model.specs.declared.token.Token.{Token}
use Rattle.kpn_model.specs.Network.{Network, Family}
use Rattle.kpn_flow.specs.Events.{Event, Happens, Flows, Fed, Drained}
use Rattle.kpn_flow.specs.Flows.{FlowView, IsSameFlow}
use Rattle.kpn_flow.proofs.Stretches.{flows_both}
use Rattle.hox_handle.specs.Words.{word_of, HasFed, HasDrained}

same_both : (s t u : FlowView) → IsSameFlow s t → IsSameFlow t u → IsSameFlow s u
same_both s t u a b = record { network = b.network ∙ a.network; inputs = b.inputs ∙ a.inputs; unended = b.unended ∙ a.unended; outputs = b.outputs ∙ a.outputs }

words_both : (ts : List Token) (t : Token) (ws : List ℕ) → map word_of ts ≡ ws → map word_of (ts ++ t ∷ []) ≡ ws ++ word_of t ∷ []
words_both ts t ws e = map-append word_of ts (t ∷ []) ∙ ap (λ (l : List ℕ). l ++ word_of t ∷ []) e

module _ (kinds : Family) (s t u : FlowView) (c : ℕ) (same : IsSameFlow t u) where
  flows_more : (event : Token → Event) (ts : List Token) (token : Token) → t.network ≡ s.network → Flows kinds s.network s.state (map event ts) t.state
      → Happens kinds t.network t.state (event token) u.state → Flows kinds s.network s.state (map event (ts ++ token ∷ [])) u.state
  flows_more event ts token net flows happens =
      subst (λ l. Flows kinds s.network s.state l u.state) (sym (map-append event ts (token ∷ [])))
      (flows_both kinds s.network s.state t.state u.state (map event ts) (event token ∷ []) flows (u.state, subst (λ (m : Network). Happens kinds m t.state (event token) u.state) net happens, refl))

  pub one_fed : (ws : List ℕ) (n : ℕ) (token : Token) → n < length ws → word_of token ≡ get_or ws n 0 → u.counts ≡ t.counts
      → HasFed kinds s t c (take n ws) → Happens kinds t.network t.state (Fed c token) u.state → HasFed kinds s u c (take (n + 1) ws)
  one_fed ws n token within is counts d happens = record {
    tokens = d.tokens ++ token ∷ [];
    words_are = words_both d.tokens token (take n ws) d.words_are ∙ ap (λ (v : ℕ). take n ws ++ v ∷ []) is ∙ sym (take_more ws n 0 within);
    same = same_both s t u d.same same;
    counts = counts ∙ d.counts;
    flows = flows_more (Fed c) d.tokens token d.same.network d.flows happens;
  }

  pub one_drained : (ws : List ℕ) (n : ℕ) (token : Token) (w : ℕ) → n < length ws → w ≡ word_of token → u.counts ≡ t.counts
      → HasDrained kinds s t c (take n ws) → Happens kinds t.network t.state (Drained c token) u.state → HasDrained kinds s u c (take (n + 1) (set ws n w))
  one_drained ws n token w within is counts d happens = record {
    tokens = d.tokens ++ token ∷ [];
    words_are = words_both d.tokens token (take n ws) d.words_are ∙ ap (λ (v : ℕ). take n ws ++ v ∷ []) (sym is) ∙ sym (take_more_set ws n w within);
    same = same_both s t u d.same same;
    counts = counts ∙ d.counts;
    flows = flows_more (Drained c) d.tokens token d.same.network d.flows happens;
  }

-- what stands behind the place stays
pub rest_more : (xs ys : List ℕ) (n w : ℕ) → drop n xs ≡ drop n ys → drop (n + 1) (set xs n w) ≡ drop (n + 1) ys
rest_more xs ys n w e = drop-set-lt (n + 1) xs n w (omega arith) ∙ sym (drop-drop 1 n xs) ∙ ap (λ (l : List ℕ). drop 1 l) e ∙ drop-drop 1 n ys
