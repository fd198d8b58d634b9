-- Why a flow is not opened whose channels may be fed and drained.
use Rattle.std.proofs.Common.{◌≡◌, ◌&&◌, ◌||◌, ◌⊎◌, ℕ, Bool, true, false, nat_lt, List, [], ◌∷◌, ◌++◌, length, map, take, get_or, Option, Some, None, Result, Ok, Err, IfOk, IfErr, if◌then◌else◌, inl, inr, ⊎_elim, refl, sym, ap, ◌∙◌, subst, ◌<◌, ◌+◌}
use Rattle.std.proofs.lemmas.Bool.{and_right, or_from, or_parts}
use Rattle.std.proofs.lemmas.List.{get_or_read, length-map, map-append, map_more}
use Rattle.std.proofs.lemmas.List.Folds.{list_any-append}
use Rattle.std.specs.List.{list_any}
use Rattle.kpn_model.specs.declared.parts.Process.{Process}
use Rattle.kpn_sketch.specs.declared.fault.NetFault.{NetFault}
use Rattle.kpn_model.specs.declared.kinds.Card.{Card}
use Rattle.kpn_model.specs.Network.{Family, Network, number_of_channel}
use Rattle.kpn_flow.specs.declared.ends.FlowFault.{FlowFault}
use Rattle.kpn_flow.specs.declared.ends.FlowFault.TheVariants.{Bodies, Card as OtherCard, Channel, Twice, Writer, Reader, Memory}
use Rattle.kpn_flow.specs.Flows.{FlowView}
use Rattle.kpn_flow.specs.Ends.{IsFlowFault, end_fault, is_no_channel}
use Rattle.hox_stream.specs.declared.starting.Way.TheVariants.{In, Out}
use Rattle.hox_stream.specs.declared.starting.StreamFault.{StreamFault}
use Rattle.hox_stream.specs.declared.starting.StreamFault.TheVariants.{Description, Input, Output, Twice as NamedTwice, Memory as NoMemory}
use Rattle.hox_stream.specs.Starts.{AreNamed, IsFresh, IsStarted, IsStartFault, IsStreamFault, cards_in, is_busy, is_twice}

-- what was found by the name at a place
pub at_name : (net : Network) (names : List (List ℕ)) (k : ℕ) (item name : List ℕ) (found : Option ℕ) → k < length names → item ≡ get_or names k item → name ≡ item → found ≡ number_of_channel net name → number_of_channel net (get_or names k []) ≡ found
at_name net names k item name found within is read by_name = sym (by_name ∙ ap (number_of_channel net) (read ∙ get_or_read names k item within is []))

-- one name more
pub named_more : (f : List ℕ → Option ℕ) (names : List (List ℕ)) (k : ℕ) (channels : List ℕ) (c : ℕ) (new : List ℕ) → k < length names → map f (take k names) ≡ map Some channels → f (get_or names k []) ≡ Some c → new ≡ channels ++ c ∷ []
    → map f (take (k + 1) names) ≡ map Some new
named_more f names k channels c new within named at is =
    map_more f names k [] within ∙ ap (λ l. l ++ f (get_or names k []) ∷ []) named ∙ ap (λ o. map Some channels ++ o ∷ []) at ∙ sym (map-append Some channels (c ∷ [])) ∙ ap (λ l. map Some l) (sym is)

-- one channel more that does not pass
pub none_more : (test : ℕ → Bool) (xs : List ℕ) (x : ℕ) (new : List ℕ) → list_any test xs ≡ false → test x ≡ false → new ≡ xs ++ x ∷ [] → list_any test new ≡ false
none_more test xs x new none e is = ap (λ l. list_any test l) is ∙ list_any-append test xs (x ∷ []) ∙ or_from (list_any test xs) (test x || false) none (or_from (test x) false e refl)

-- where none passes the second test, none passes both
none_both : (p q : ℕ → Bool) (xs : List ℕ) → list_any q xs ≡ false → list_any (λ c. p c && q c) xs ≡ false
none_both p q [] e = refl
none_both p q (x ∷ xs) e = let r = or_parts (q x) (list_any q xs) e in or_from (p x && q x) (list_any (λ c. p c && q c) xs) (and_right (p x) (q x) r.0) (none_both p q xs r.1)

if_twice : Bool → Option FlowFault
if_twice b = if b then Some Twice else None

not_channel : (b : Bool) → if_twice b ≡ Some Channel → ⊥
unfolding if_twice
not_channel true e = cc
not_channel false e = cc

not_writer : (b : Bool) → if_twice b ≡ Some Writer → ⊥
unfolding if_twice
not_writer true e = cc
not_writer false e = cc

not_reader : (b : Bool) → if_twice b ≡ Some Reader → ⊥
unfolding if_twice
not_reader true e = cc
not_reader false e = cc

is_so : (b : Bool) → if_twice b ≡ Some Twice → b ≡ true
unfolding if_twice
is_so true e = refl
is_so false e = cc

module _ (kinds : Family) (net : Network) (inputs outputs : List ℕ) (no_in : list_any (is_no_channel net) inputs ≡ false) (no_out : list_any (is_no_channel net) outputs ≡ false)
    (idle_in : list_any (is_busy kinds net In) inputs ≡ false) (idle_out : list_any (is_busy kinds net Out) outputs ≡ false) where
  fault_if_twice : end_fault kinds net (cards_in net) inputs outputs ≡ if_twice (is_twice inputs outputs)
  unfolding if_twice
  fault_if_twice =
      rw (no_in, no_out, none_both (λ c. nat_lt c (length net.channels)) (is_busy kinds net In) inputs idle_in, none_both (λ c. nat_lt c (length net.channels)) (is_busy kinds net Out) outputs idle_out) refl

  at_cards : (f : FlowFault) → IsFlowFault kinds net (cards_in net) inputs outputs f → ((f ≡ Twice) × (is_twice inputs outputs ≡ true)) ⊎ (f ≡ Memory)
  at_cards Bodies h = absurd (h (length-map net.processes (λ (x : Process). x.card)))
  at_cards OtherCard h = absurd (h.1 refl)
  at_cards Channel h = absurd (not_channel (is_twice inputs outputs) (subst (λ (o : Option FlowFault). o ≡ Some Channel) fault_if_twice h.1))
  at_cards Twice h = inl (refl, is_so (is_twice inputs outputs) (subst (λ (o : Option FlowFault). o ≡ Some Twice) fault_if_twice h.1))
  at_cards Writer h = absurd (not_writer (is_twice inputs outputs) (subst (λ (o : Option FlowFault). o ≡ Some Writer) fault_if_twice h.1))
  at_cards Reader h = absurd (not_reader (is_twice inputs outputs) (subst (λ (o : Option FlowFault). o ≡ Some Reader) fault_if_twice h.1))
  at_cards Memory h = inr refl

  -- a channel is named twice, or memory was refused
  pub few_faults : (cards : List Card) → cards ≡ cards_in net → (f : FlowFault) → IsFlowFault kinds net cards inputs outputs f → ((f ≡ Twice) × (is_twice inputs outputs ≡ true)) ⊎ (f ≡ Memory)
  few_faults cards same f h = at_cards f (subst (λ (l : List Card). IsFlowFault kinds net l inputs outputs f) same h)

  -- and the fault of the stream says which
  pub start_fault_of : (cards : List Card) → cards ≡ cards_in net → (f : FlowFault) → IsFlowFault kinds net cards inputs outputs f → (fault : StreamFault) → (f ≡ Twice → fault ≡ NamedTwice) → (f ≡ Memory → fault ≡ NoMemory)
      → IsStartFault inputs outputs fault
  start_fault_of cards same f h fault twice memory =
      ⊎_elim (λ x. subst (λ (e : StreamFault). IsStartFault inputs outputs e) (sym (twice x.0)) x.1) (λ x. subst (λ (e : StreamFault). IsStartFault inputs outputs e) (sym (memory x)) tt) (few_faults cards same f h)

module _ (kinds : Family) (net : Network) (fed drained : List (List ℕ)) where
  -- a flow at its start is one of the stream
  pub started : (inputs outputs : List ℕ) (r : Result FlowView StreamFault) → IfOk r (IsFresh kinds net) → IfOk r (λ s. s.inputs ≡ inputs) → IfOk r (λ s. s.outputs ≡ outputs) → AreNamed net fed inputs → AreNamed net drained outputs
      → IfOk r (IsStarted kinds net fed drained)
  started inputs outputs (Ok s) fresh ins outs a b = record { fresh = fresh; inputs = subst (λ l. AreNamed net fed l) (sym ins) a; outputs = subst (λ l. AreNamed net drained l) (sym outs) b }
  started inputs outputs (Err f) fresh ins outs a b = tt

  start_fault : (inputs outputs : List ℕ) (f : StreamFault) → AreNamed net fed inputs → AreNamed net drained outputs → IsStartFault inputs outputs f → IsStreamFault kinds net (λ _. ⊥) fed drained f
  start_fault inputs outputs (Description fault) a b h = absurd h
  start_fault inputs outputs (Input fault) a b h = absurd h
  start_fault inputs outputs (Output fault) a b h = absurd h
  start_fault inputs outputs NamedTwice a b h = (inputs, outputs, a, b, h)
  start_fault inputs outputs NoMemory a b h = tt

  -- and a fault at the start is one of the stream
  pub not_started : (inputs outputs : List ℕ) (r : Result FlowView StreamFault) → AreNamed net fed inputs → AreNamed net drained outputs → IfErr r (IsStartFault inputs outputs) → IfErr r (IsStreamFault kinds net (λ _. ⊥) fed drained)
  not_started inputs outputs (Ok s) a b h = tt
  not_started inputs outputs (Err f) a b h = start_fault inputs outputs f a b h

  net_fault : (no_network : NetFault → Type 0) (f : StreamFault) → IsStreamFault kinds net (λ _. ⊥) fed drained f → IsStreamFault kinds net no_network fed drained f
  net_fault no_network (Description fault) h = absurd h
  net_fault no_network (Input fault) h = h
  net_fault no_network (Output fault) h = h
  net_fault no_network NamedTwice h = h
  net_fault no_network NoMemory h = h

  -- a network that is there has no fault itself
  pub not_opened : (no_network : NetFault → Type 0) (r : Result FlowView StreamFault) → IfErr r (IsStreamFault kinds net (λ _. ⊥) fed drained) → IfErr r (IsStreamFault kinds net no_network fed drained)
  not_opened no_network (Ok s) h = tt
  not_opened no_network (Err f) h = net_fault no_network f h
