-- From an output no process takes a token.
use Rattle.std.proofs.Common.{◌≡◌, List, [], ◌∷◌, ◌++◌, length, refl, sym, ap, ◌∙◌, ℕ, ◌+◌, ◌<◌, ◌≤◌, Bool, true, false, cond}
use Rattle.std.proofs.lemmas.Bool.{ne_eqb}
use Rattle.kpn_model.specs.declared.token.Token.{Token}
use Rattle.kpn_model.specs.declared.history.Deed.TheVariants.{Took, Put, Stopped}
use Rattle.kpn_model.specs.declared.history.Entry.TheVariants.{Did, Grew}
use Rattle.kpn_model.specs.Network.{Network, Family, channel_of}
use Rattle.kpn_model.specs.Semantics.{State, tokens, start}
use Rattle.kpn_model.specs.History.{put_on, taken}
use Rattle.kpn_laws.proofs.EachMoment.{history_tells_state}
use Rattle.kpn_laws.proofs.StreamsOfRun.{each_approaches}
use Rattle.kpn_flow.specs.Events.{Event, Went, Fed, Drained, Flows, entries_of}
use Rattle.kpn_flow.specs.Flows.{is_among, AreEnds}
use Rattle.kpn_flow.specs.Preloaded.{IsAtEnds, preloaded, without_growths, all_fed}
use Rattle.kpn_flow.specs.Pieces.{IsOneRunWithStreams}
use Rattle.kpn_flow.proofs.Ahead.{Respects, true_false}
use Rattle.kpn_flow.proofs.Feeding.{feeding_is_preloading}
use Rattle.kpn_flow.proofs.Mute.{respects, still_start}

taken_none : (ins outs : ℕ → Bool) (xs : List Event) (c : ℕ) → Respects ins outs xs → outs c ≡ true → taken (without_growths (entries_of xs)) c ≡ []
taken_none ins outs [] c r e = refl
taken_none ins outs (Went (Did p (Put b t)) ∷ xs) c r e = taken_none ins outs xs c r.1 e
taken_none ins outs (Went (Did p (Took b t)) ∷ xs) c r e =
    ap (λ y. cond y (t ∷ []) [] ++ taken (without_growths (entries_of xs)) c) (ne_eqb b c (λ s. true_false (outs c) e (ap outs (sym s) ∙ r.0)))
    ∙ taken_none ins outs xs c r.1 e
taken_none ins outs (Went (Did p Stopped) ∷ xs) c r e = taken_none ins outs xs c r e
taken_none ins outs (Went (Grew b to) ∷ xs) c r e = taken_none ins outs xs c r e
taken_none ins outs (Fed b t ∷ xs) c r e = taken_none ins outs xs c r.1 e
taken_none ins outs (Drained b t ∷ xs) c r e = taken_none ins outs xs c r.1 e

-- the law of feeding, with what comes out
pub one_run :
    (kinds : Family) (net : Network) (inputs outputs : List ℕ) (M : State) → AreEnds kinds net inputs outputs → (xs : List Event) (later : ℕ → List Token) (sizes : ℕ → ℕ)
    → Flows kinds net (start kinds net) xs M → IsAtEnds (is_among inputs) (is_among outputs) xs → ((c : ℕ) → is_among inputs c ≡ false → later c ≡ [])
    → ((c : ℕ) → c < length net.channels → length (channel_of net c).tokens + length (all_fed xs later c) + length (put_on (entries_of xs) c) ≤ sizes c)
    → IsOneRunWithStreams kinds net outputs xs M later sizes
one_run kinds net inputs outputs M ends xs later sizes flows at_ends last room =
    let one = feeding_is_preloading kinds net xs M later sizes flows
    (record { ins = is_among inputs; outs = is_among outputs; inputs = ends.only_fed; outputs = λ c e. (ends.only_drained c e).1; at_ends = at_ends; later_inputs = last; room = room }) in
    let E = without_growths (entries_of xs) in
    let other = preloaded net (all_fed xs later) sizes in
    let keeps = respects kinds net (is_among inputs) (is_among outputs) (λ c e. (ends.only_fed c e).1) (λ c e. (ends.only_drained c e).1) xs (start kinds net) M flows (still_start kinds net) at_ends in
    record {
      one = one;
      outputs_are = λ c e. (history_tells_state kinds other E one.state one.run c).0 ∙ ap (λ l. l ++ tokens one.state c) (taken_none (is_among inputs) (is_among outputs) xs c keeps e) ∙ one.tokens_are c;
      approach = each_approaches kinds other E one.state one.run;
    }
