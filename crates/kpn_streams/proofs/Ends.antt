-- What count and sink write.
use Rattle.std.proofs.Common.{◌≡◌, ◌+◌, ℕ, zero, suc, nat_lt, Bool, true, false, List, [], ◌∷◌, length, refl, sym, ap, subst, arith, lt-ltb, le-ltb, Option, Some, None}
use Rattle.std.specs.List.{range_with_len}
use Rattle.std.proofs.lemmas.List.{length-replicate}
use Rattle.kpn_model.specs.declared.token.Token.{Token}
use Rattle.kpn_model.specs.declared.token.Token.TheVariants.{Word}
use Rattle.kpn_model.specs.declared.kinds.Card.{Card}
use Rattle.kpn_model.specs.declared.history.Status.TheVariants.{Live}
use Rattle.kpn_standard.specs.declared.kind.Kind.TheVariants.{Count, Sink}
use Rattle.kpn_standard.specs.Locals.{one}
use Rattle.kpn_standard.specs.Signatures.{card_of_kind}
use Rattle.kpn_standard.specs.Standard.{standard}
use Rattle.kpn_streams.specs.Fed.{nothing, WritesFrom}
use Rattle.kpn_streams.specs.Functions.{words}
use Rattle.kpn_streams.specs.Kinds.{CountWrites, SinkWrites}
use Rattle.kpn_streams.proofs.Fed.{chosen, chosen_else, stops, waits, reads, puts}

module _ (from n : ℕ) (others : List ℕ) where
  abbrev count : Card
  count = card_of_kind Count (from ∷ n ∷ others)

  -- after i numbers `left` more are due, the next of them m
  counts : (i left m : ℕ) → i + left ≡ n → m ≡ from + i → WritesFrom standard count (Live (one i) None) [] (words (range_with_len m left) ∷ [])
  counts i zero m all next = stops standard count (one i) (chosen_else (nat_lt i n) _ _ (le-ltb i n (omega arith))) refl
  counts i (suc left) m all next =
      subst (λ k. WritesFrom standard count (Live (one i) None) [] ((Word k ∷ words (range_with_len (m + 1) left)) ∷ [])) (sym next)
      (puts standard count (one (i + 1)) (Word (from + i)) (chosen (nat_lt i n) _ _ (lt-ltb i n (omega arith))) (counts (i + 1) left (m + 1) (omega arith) (omega arith)))

-- count writes the n numbers from `from` on
pub count_writes : CountWrites
count_writes from n others = counts from n others 0 n from (omega arith) (omega arith)

module _ (n : ℕ) (others : List ℕ) (outputs : ℕ) where
  abbrev sink : Card
  sink = card_of_kind Sink (n ∷ others)

  -- as many outputs with nothing on them
  none : nothing (length (nothing outputs)) ≡ nothing outputs
  none = ap (λ k. nothing k) (length-replicate outputs [])

  -- with no token it waits or stops
  dry : (i : ℕ) (last : Option Token) (test : Bool) → nat_lt i n ≡ test → WritesFrom standard sink (Live (one i) last) ([] ∷ []) (nothing outputs)
  dry i last true e = waits standard sink (one (i + 1)) 0 (chosen (nat_lt i n) _ _ e) refl none
  dry i last false e = stops standard sink (one i) (chosen_else (nat_lt i n) _ _ e) none

  -- with one it reads it or stops
  fed :
      (i : ℕ) (last : Option Token) (t : Token) (ts : List Token) (test : Bool) → nat_lt i n ≡ test
      → WritesFrom standard sink (Live (one (i + 1)) (Some t)) (ts ∷ []) (nothing outputs)
      → WritesFrom standard sink (Live (one i) last) ((t ∷ ts) ∷ []) (nothing outputs)
  fed i last t ts true e w = reads standard sink (one (i + 1)) 0 t ts (chosen (nat_lt i n) _ _ e) refl w
  fed i last t ts false e w = stops standard sink (one i) (chosen_else (nat_lt i n) _ _ e) none

  -- after i tokens it writes nothing, whatever comes
  sinks : (ts : List Token) (i : ℕ) (last : Option Token) → WritesFrom standard sink (Live (one i) last) (ts ∷ []) (nothing outputs)
  sinks [] i last = dry i last (nat_lt i n) refl
  sinks (t ∷ ts) i last = fed i last t ts (nat_lt i n) refl (sinks ts (i + 1) (Some t))

-- sink writes nothing
pub sink_writes : SinkWrites
sink_writes n others ts outputs = sinks n others outputs ts 0 None
