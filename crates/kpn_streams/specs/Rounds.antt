-- What kinds that go in rounds write.
use Rattle.std.specs.Prelude.{◌≡◌, ℕ, ◌≤◌, List, [], ◌∷◌, Option, Some, length, map, zip}
use Rattle.std.specs.List.{range_with_len}
use Rattle.kpn_model.specs.declared.token.Token.{Token}
use Rattle.kpn_model.specs.declared.kinds.Card.{Card}
use Rattle.kpn_model.specs.declared.kinds.Signature.{Signature}
use Rattle.kpn_standard.specs.Locals.{at}
use Rattle.kpn_rounds.specs.Steps.{count, RoundStep}
use Rattle.kpn_rounds.specs.Rounds.{number_of, token_at, made_by, rounds_family}
use Rattle.kpn_streams.specs.Fed.{Writes}
use Rattle.kpn_streams.specs.Filters.{scanned}

-- streams side by side, as numbers: the inputs of each round, as many rounds as the shortest stream has tokens
abbrev pub side_by_side : List (List Token) → List (List ℕ)
side_by_side [] = []
side_by_side (ts ∷ []) = map (λ t. number_of t ∷ []) ts
side_by_side (ts ∷ us ∷ more) = map (λ p. number_of p.0 ∷ p.1) (zip ts (side_by_side (us ∷ more)))

module _ (s : Signature) where
  -- what an output gets of the outputs of each round
  abbrev pub column : List (List ℕ) → ℕ → List Token
  column made k = map (λ ws. token_at s.outs k (at ws k)) made

  abbrev pub columns : List (List ℕ) → List (List Token)
  columns made = map (column made) (range_with_len 0 (count s.outs))

  -- what the outputs get of the rounds of a step, from what is kept at first, on these inputs
  abbrev pub rounds_made : RoundStep → List ℕ → List (List Token) → List (List Token)
  rounds_made step kept ins = columns (scanned (made_by s step) kept (side_by_side ins))

-- fed with a stream for each input, a process writes what the steps make of the streams side by side
abbrev pub RoundsScan : (Card → Option Signature) → (Card → List ℕ) → (Card → RoundStep) → Type 0
RoundsScan ports start step =
    (card : Card) (s : Signature) (ins : List (List Token))
    → ports card ≡ Some s → 1 ≤ length ins → length ins ≡ count s.ins
    → Writes (rounds_family ports start step) card ins (rounds_made s (step card) (start card) ins)

-- whatever the ports, the start and the step
abbrev pub AllRoundsScan : Type 0
AllRoundsScan =
    (ports : Card → Option Signature) (start : Card → List ℕ) (step : Card → RoundStep) → RoundsScan ports start step
