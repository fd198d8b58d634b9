-- What the kinds for signals write.
use Rattle.std.proofs.Common.{◌≡◌, sym, subst, ℕ, List, [], ◌∷◌, Option, Some, None, refl}
use Rattle.kpn_model.specs.declared.token.Token.{Token}
use Rattle.kpn_model.specs.declared.kinds.Card.{Card}
use Rattle.kpn_model.specs.declared.history.Status.TheVariants.{Live}
use Rattle.kpn_model.specs.Network.{Family}
use Rattle.kpn_standard.specs.Locals.{three}
use Rattle.kpn_signals.specs.declared.turns.TheConstants.{READS_FIRST, READS_SECOND, WRITES}
use Rattle.kpn_signals.specs.Shapes.{step_answer, number_of, join_answer}
use Rattle.kpn_streams.specs.Fed.{WritesFrom}
use Rattle.kpn_streams.specs.Signals.{stepped, StepsScan, joined, JoinsScan}
use Rattle.kpn_streams.proofs.Fed.{waits, reads, puts}

module _ (kinds : Family) (card : Card) where
  module _ (step : List ℕ → Token → List ℕ × Token) (is : (local : List ℕ) (last : Option Token) → kinds.answer card local last ≡ step_answer step local last) where
    -- with what is kept it writes the scan of what comes
    pub steps : (ts : List Token) (kept : List ℕ) → WritesFrom kinds card (Live kept None) (ts ∷ []) (stepped step kept ts ∷ [])
    steps [] kept = waits kinds card kept 0 (is kept None) refl refl
    steps (t ∷ ts) kept = reads kinds card kept 0 t ts (is kept None) refl (puts kinds card (step kept t).0 (step kept t).1 (is kept (Some t)) (steps ts (step kept t).0))

  module _ (join : ℕ → ℕ → Token → ℕ × Token) (is : (local : List ℕ) (last : Option Token) → kinds.answer card local last ≡ join_answer join local last) where
    -- with the word that is kept it writes what it makes of both streams
    pub joins : (xs ys : List Token) (kept : ℕ) → WritesFrom kinds card (Live (three READS_FIRST 0 kept) None) (xs ∷ ys ∷ []) (joined join kept xs ys ∷ [])
    joins [] ys kept = waits kinds card (three READS_SECOND 0 kept) 0 (is (three READS_FIRST 0 kept) None) refl refl
    joins (x ∷ xs) [] kept =
        reads kinds card (three READS_SECOND 0 kept) 0 x xs (is (three READS_FIRST 0 kept) None) refl
        (waits kinds card (three WRITES (number_of x) kept) 1 (is (three READS_SECOND 0 kept) (Some x)) refl refl)
    joins (x ∷ xs) (y ∷ ys) kept =
        let made = join kept (number_of x) y in
        reads kinds card (three READS_SECOND 0 kept) 0 x xs (is (three READS_FIRST 0 kept) None) refl
        (reads kinds card (three WRITES (number_of x) kept) 1 y ys (is (three READS_SECOND 0 kept) (Some x)) refl
        (puts kinds card (three READS_FIRST 0 made.0) made.1 (is (three WRITES (number_of x) kept) (Some y)) (joins xs ys made.0)))

pub steps_scan : (kinds : Family) → StepsScan kinds
steps_scan kinds card step is ts = steps kinds card step is ts (kinds.start card)

pub joins_scan : (kinds : Family) → JoinsScan kinds
joins_scan kinds card join kept is starts xs ys =
    subst (λ (l : List ℕ). WritesFrom kinds card (Live l None) (xs ∷ ys ∷ []) (joined join kept xs ys ∷ [])) (sym starts) (joins kinds card join is xs ys kept)
