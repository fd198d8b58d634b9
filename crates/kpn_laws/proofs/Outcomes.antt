-- Whatever the starting capacities: one outcome, and all runs are prefix-comparable.
use Rattle.std.proofs.Common.{◌≡◌, List, ◌++◌, sym, ap, ◌∙◌, ℕ, subst}
use Rattle.kpn_model.specs.History.{IsPrefixOf, ArePrefixComparable, deeds, put_on, stream, place_of}
use Rattle.kpn_model.specs.Determinacy.{AreAllPrefixComparable, AgreeInTheEnd, OneOutcome, AllPrefixComparable}
use Rattle.kpn_model.specs.Semantics.{IsRun, State, status, answered, wants, start, Run, IsBlocked, IsQuiet}
use Rattle.kpn_model.specs.Endings.{IsFinal, IsNatural}
use Rattle.kpn_model.specs.declared.history.Entry.{Entry}
use Rattle.kpn_model.specs.Network.{Network, channel_of, Family, resized}
use Rattle.kpn_model.specs.declared.history.End.{End}
use Rattle.kpn_laws.proofs.Lists.{same_from_prefixes, comparable_after}
use Rattle.kpn_laws.specs.Alone.{puts}
use Rattle.kpn_laws.proofs.Views.{puts_comparable}
use Rattle.kpn_laws.proofs.Follows.{status_by}
use Rattle.kpn_laws.proofs.Kept.{IsFresh, fresh_start}
use Rattle.kpn_laws.proofs.KeptByRuns.{kept_run}
use Rattle.kpn_laws.proofs.Comparable.{runs_comparable}
use Rattle.kpn_laws.proofs.Domination.{dominated}
use Rattle.kpn_laws.proofs.Causes.{over_quiet, none_blocked}
use Rattle.kpn_laws.proofs.Streams.{put_on_deeds}
use Rattle.kpn_laws.proofs.Wiring.{answered_alike, over_alike, place_alike}
use Rattle.kpn_laws.proofs.Resized.{resize-tokens, wired_resized, fresh_resized, run_resized}

module _ (kinds : Family) (net : Network) (sizes : ℕ → ℕ) where
  -- in any two runs, what each process does is prefix-comparable, and so is each stream
  all_comparable_here : (E F : List Entry) (M N : State) → IsRun kinds net E M → IsRun kinds (resized net sizes) F N → AreAllPrefixComparable net (resized net sizes) E F
  all_comparable_here E F M N run run' =
      let S = start kinds net in
      let S' = start kinds (resized net sizes) in
      let r = run_resized kinds net sizes F N run' in
      let line = runs_comparable kinds net S S' (fresh_start kinds net) (fresh_resized kinds net sizes) F N r E M run in
      record {
        deeds = line;
        streams = λ c.
            let w = (channel_of net c).writer in
            let put : ArePrefixComparable (put_on E c) (put_on F c) =
            subst (λ l. ArePrefixComparable l (put_on F c)) (sym (put_on_deeds kinds net S E M run c))
            (subst (λ l. ArePrefixComparable (puts (deeds E w) c) l) (sym (put_on_deeds kinds net S' F N r c)) (puts_comparable (deeds E w) (deeds F w) c (line w))) in
            subst (λ l. ArePrefixComparable (stream net E c) (l ++ put_on F c)) (sym (resize-tokens net.channels sizes c)) (comparable_after (channel_of net c).tokens _ _ put);
      }

  -- a run to a quiet state without a blocked writer has all that is done in any other
  dominates :
      (S S' : State) → IsFresh kinds net S → IsFresh kinds net S' → (E F : List Entry) (M N : State) → Run kinds net S E M → IsQuiet kinds net M
      → ((p c : ℕ) → IsBlocked kinds net M p c → ⊥) → Run kinds net S' F N → (p : ℕ) → IsPrefixOf (deeds F p) (deeds E p)
  dominates S S' f f' E F M N run quiet free run' =
      dominated kinds net (λ _. Unit {0}) (λ _ _ _. tt) S S' f f' E M run quiet (λ H K p c _ _ b. absurd (free p c b)) F N run' tt

  -- each of two such runs has all that is done in the other, so they have done the same
  one_outcome_here :
      (E F : List Entry) (M N : State) (a b : End) → IsFinal kinds net E M a → IsNatural a → IsFinal kinds (resized net sizes) F N b → IsNatural b
      → AgreeInTheEnd kinds net (resized net sizes) E F M N
  one_outcome_here E F M N a b x n y m =
      let S = start kinds net in
      let S' = start kinds (resized net sizes) in
      let f = fresh_start kinds net in
      let r = run_resized kinds net sizes F N y.run in
      let over = over_alike kinds (resized net sizes) net (wired_resized net sizes) N b y.over in
      let did : (p : ℕ) → deeds E p ≡ deeds F p = λ p. same_from_prefixes _ _
      (dominates S' S (fresh_resized kinds net sizes) f F E N M r (over_quiet kinds net N b over) (none_blocked kinds net N b m over) x.run p)
      (dominates S S' f (fresh_resized kinds net sizes) E F M N x.run (over_quiet kinds net M a x.over) (none_blocked kinds net M a n x.over) r p) in
      let k = kept_run kinds net S f E M x.run in
      let j = kept_run kinds net S' (fresh_resized kinds net sizes) F N r in
      let wanted : (p : ℕ) → wants kinds net M p ≡ wants kinds net N p = λ p. ap (λ s. answered kinds net p s) (k.statuses p ∙ ap (λ l. status_by kinds net p l) (did p) ∙ sym (j.statuses p)) in
      record {
        deeds = did;
        streams = λ c. ap (λ l. (channel_of net c).tokens ++ l) (put_on_deeds kinds net S E M x.run c ∙ ap (λ l. puts l c) (did (channel_of net c).writer) ∙ sym (put_on_deeds kinds net S' F N r c))
            ∙ ap (λ l. l ++ put_on F c) (sym (resize-tokens net.channels sizes c));
        places = λ p.
            ap (λ o. place_of net p o) (wanted p)
            ∙ sym (place_alike kinds (resized net sizes) net (wired_resized net sizes) p (wants kinds net N p))
            ∙ ap (λ o. place_of (resized net sizes) p o) (sym (answered_alike kinds (resized net sizes) net (wired_resized net sizes) p (status N p)));
      }

-- runs that terminate or end in a deadlock have one outcome
pub one_outcome : (kinds : Family) → OneOutcome kinds
one_outcome kinds net sizes E F M N a b x n y m = one_outcome_here kinds net sizes E F M N a b x n y m

-- any two runs are prefix-comparable
pub all_comparable : (kinds : Family) → AllPrefixComparable kinds
all_comparable kinds net sizes E F M N x y = all_comparable_here kinds net sizes E F M N x y
