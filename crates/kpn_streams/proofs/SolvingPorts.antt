-- The ports of a process, and what its inputs hold.
use Rattle.std.proofs.Common.{◌≡◌, ◌≤◌, ◌<◌, ⊎_elim, ℕ, ◌==◌, Bool, true, false, not, ◌||◌, List, [], length, refl, sym, ap, ◌∙◌, subst, arith, Option, Some, None, is_some, get_or, nat_lt, slice_get, ltb-true, eq-eqb}
use Rattle.std.specs.Option.{option_map_or}
use Rattle.std.specs.List.{range_with_len, list_all}
use Rattle.std.proofs.lemmas.Bool.{cases_lt, cases_Bool, and_parts, both_ways}
use Rattle.std.proofs.lemmas.List.{get_or_past}
use Rattle.std.proofs.lemmas.List.Folds.{list_all_at}
use Rattle.std.proofs.lemmas.List.FromFn.{length-range_with_len, get_or-range_with_len, get_or-map-range_with_len, length-map-range_with_len}
use Rattle.kpn_model.specs.declared.token.Token.{Token}
use Rattle.kpn_model.specs.declared.parts.Channel.{Channel}
use Rattle.kpn_model.specs.Network.{Family, Network, no_channel, channel_of, in_of, out_of}
use Rattle.kpn_laws.specs.Alone.{Streams, BeginsWith}
use Rattle.kpn_laws.proofs.States.{in_of-reader, in_of-input, out_of-writer, out_of-out}
use Rattle.kpn_streams.specs.Solving.{BeginsAt, EndsAt, HasPorts, fed, TestTellsPorts, TestTellsOrder, EquationByTest}

-- a test that all pass each one passes
passes : {X : Type 0} (test : X → Bool) (xs : List X) (i : ℕ) (d : X) → list_all test xs ≡ true → i < length xs → test (get_or xs i d) ≡ true
passes test xs i d all within =
    ⊎_elim (λ t. t) (λ f. absurd (both_ways (list_all test xs) (list_all_at test xs i d within f) all)) (cases_Bool (test (get_or xs i d)))

-- of two tests of which one holds the first does, if not the second
first_of_two : (a b : Bool) → (a || not b) ≡ true → b ≡ true → a ≡ true
first_of_two true b h e = refl
first_of_two false true h e = cc
first_of_two false false h e = cc

-- an option that has nothing, if it can't have something
none_of : (o : Option ℕ) → ((c : ℕ) → o ≡ Some c → ⊥) → o ≡ None
none_of None h = refl
none_of (Some c) h = absurd (h c refl)

-- an option that has something
pub some_there : (o : Option ℕ) → is_some o ≡ true → (c : ℕ) × (o ≡ Some c)
some_there None h = absurd cc
some_there (Some c) h = (c, refl)

-- the test tells which ports a process has
pub test_tells_ports : TestTellsPorts
test_tells_ports net p inputs outputs h =
    let a = and_parts (nat_lt p (length net.processes)) _ h in
    let b = and_parts (list_all (λ (l : Channel). nat_lt l.input inputs || not (l.reader == p)) net.channels) _ a.1 in
    let c = and_parts (list_all (λ (l : Channel). nat_lt l.out outputs || not (l.writer == p)) net.channels) _ b.1 in
    let below : (k x : ℕ) → in_of net p k ≡ Some x → k < inputs = λ k x at.
    let r = in_of-reader net p k x at in
    let t = passes (λ (l : Channel). nat_lt l.input inputs || not (l.reader == p)) net.channels x no_channel b.0 r.0 in
    let lt = ltb-true (channel_of net x).input inputs (first_of_two (nat_lt (channel_of net x).input inputs) ((channel_of net x).reader == p) t (eq-eqb (channel_of net x).reader p r.1)) in
    subst (λ i. i < inputs) (in_of-input net p k x at) lt in
    let outs_below : (k x : ℕ) → out_of net p k ≡ Some x → k < outputs = λ k x at.
    let r = out_of-writer net p k x at in
    let t = passes (λ (l : Channel). nat_lt l.out outputs || not (l.writer == p)) net.channels x no_channel c.0 r.0 in
    let lt = ltb-true (channel_of net x).out outputs (first_of_two (nat_lt (channel_of net x).out outputs) ((channel_of net x).writer == p) t (eq-eqb (channel_of net x).writer p r.1)) in
    subst (λ i. i < outputs) (out_of-out net p k x at) lt in
    record {
      process = ltb-true p (length net.processes) a.0;
      ins = λ k past. none_of (in_of net p k) (λ x at. let lt = below k x at in absurd (omega arith));
      outs = λ k. (
        λ some. let x = some_there (out_of net p k) some in outs_below k x.0 x.1,
        λ lt.
            let t = passes (λ i. is_some (out_of net p i)) (range_with_len 0 outputs) k 0 c.1 (omega (arith, length-range_with_len 0 outputs)) in
            let same : get_or (range_with_len 0 outputs) k 0 ≡ k = omega (arith, get_or-range_with_len 0 outputs k 0 lt) in
            subst (λ i. is_some (out_of net p i) ≡ true) same t,
      );
    }

-- the test tells whether channels are in order
pub test_tells_order : TestTellsOrder
test_tells_order net h b c first second e =
    let n = length net.channels in
    let all = range_with_len 0 n in
    let long = length-range_with_len 0 n in
    let Test : ℕ → ℕ → Bool = λ b c. nat_lt b c || not ((channel_of net b).reader == (channel_of net c).writer) in
    let at_b : get_or all b 0 ≡ b = omega (arith, get_or-range_with_len 0 n b 0 first) in
    let at_c : get_or all c 0 ≡ c = omega (arith, get_or-range_with_len 0 n c 0 second) in
    let of_b = passes (λ b. list_all (λ c. Test b c) all) all b 0 h (omega arith) in
    let of_c = passes (λ c. Test (get_or all b 0) c) all c 0 of_b (omega arith) in
    let t : Test b c ≡ true = subst (λ x. Test b x ≡ true) at_c (subst (λ x. Test x (get_or all c 0) ≡ true) at_b of_c) in
    ltb-true b c (first_of_two (nat_lt b c) ((channel_of net b).reader == (channel_of net c).writer) t (eq-eqb (channel_of net b).reader (channel_of net c).writer e))

-- what stands at an input is what the channel there has
pub fed_get :
    (net : Network) (X : ℕ → List Token) (p inputs outputs : ℕ) → HasPorts net p inputs outputs → (k : ℕ)
    → get_or (fed net X p inputs) k [] ≡ option_map_or X (in_of net p k) []
fed_get net X p inputs outputs ports k =
    ⊎_elim
    (λ (within : k < inputs). get_or-map-range_with_len (λ i. option_map_or X (in_of net p i) []) 0 inputs k k [] within (omega arith))
    (λ (past : inputs ≤ k).
    let few = length-map-range_with_len (λ i. option_map_or X (in_of net p i) []) 0 inputs in
    get_or_past (fed net X p inputs) k [] (omega arith) ∙ sym (ap (λ o. option_map_or X o []) (ports.ins k past)))
    (cases_lt k inputs)

-- if the streams of the channels there begin with the tokens X, those at the inputs begin with what is fed
pub begins_fed :
    (net : Network) (X : ℕ → List Token) (U : Streams) (p inputs outputs : ℕ) → HasPorts net p inputs outputs
    → ((k b : ℕ) → in_of net p k ≡ Some b → BeginsWith (U b) (X b)) → (k : ℕ) → BeginsAt U (in_of net p k) (get_or (fed net X p inputs) k [])
begins_fed net X U p inputs outputs ports begins k =
    subst (λ l. BeginsAt U (in_of net p k) l) (sym (fed_get net X p inputs outputs ports k)) (at (in_of net p k) refl)
  where
    at : (o : Option ℕ) → in_of net p k ≡ o → BeginsAt U o (option_map_or X o [])
    at None e = refl
    at (Some c) e = begins k c e

-- and if they have no others, neither have those at the inputs
pub ends_fed :
    (net : Network) (X : ℕ → List Token) (U : Streams) (p inputs outputs : ℕ) → HasPorts net p inputs outputs
    → ((b n : ℕ) (t : Token) → U b n ≡ Some t → slice_get (X b) n ≡ Some t) → (k : ℕ) → EndsAt U (in_of net p k) (get_or (fed net X p inputs) k [])
ends_fed net X U p inputs outputs ports ends k = subst (λ l. EndsAt U (in_of net p k) l) (sym (fed_get net X p inputs outputs ports k)) (at (in_of net p k))
  where
    at : (o : Option ℕ) → EndsAt U o (option_map_or X o [])
    at None = tt
    at (Some c) = ends c

-- an equation of a network that is written out
pub equation_by_test : (kinds : Family) → EquationByTest kinds
equation_by_test kinds net X c ts inputs outs test writes is =
    record { inputs = inputs; outs = outs; ports = test_tells_ports net (channel_of net c).writer inputs (length outs) test; writes = writes; is = is }
