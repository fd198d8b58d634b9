-- What a step needs and gives.
use Rattle.std.specs.Prelude.{◌⊎◌, ℕ, ◌<◌, List, [], ◌∷◌, Option, Some, IsSome}
use Rattle.kpn_model.specs.declared.kinds.Card.{Card}
use Rattle.kpn_model.specs.declared.kinds.Signature.{Signature}
use Rattle.kpn_model.specs.declared.token.Sort.{Sort}
use Rattle.kpn_compute.specs.Filters.{IsWord, AreKept, OfEachCard, OfAllKept}

-- how many ports there are, of three
abbrev pub count : List (Option Sort) → ℕ
count (Some _ ∷ Some _ ∷ Some _ ∷ _) = 3
count (Some _ ∷ Some _ ∷ _) = 2
count (Some _ ∷ _) = 1
count _ = 0

-- an input or an output
abbrev pub HasPort : Signature → Type 0
HasPort s = (0 < count s.ins) ⊎ (0 < count s.outs)

abbrev pub AreMade : List ℕ → Type 0
AreMade (a ∷ b ∷ c ∷ []) = IsWord a × IsWord b × IsWord c
AreMade made = ⊥

-- what is kept and what is written, of what was kept and what was read
abbrev pub RoundStep : Type 0
RoundStep = List ℕ → List ℕ → List ℕ × List ℕ

-- of what is kept and of three words a step makes four words to be kept, and three
abbrev pub MakesWords : (List ℕ → List ℕ → List ℕ × List ℕ) → List ℕ → Type 0
MakesWords step kept =
    (x y z : ℕ)
    → IsWord x → IsWord y → IsWord z → AreKept (step kept (x ∷ y ∷ z ∷ [])).0 × AreMade (step kept (x ∷ y ∷ z ∷ [])).1

-- four words are kept at the start, and each step makes words
pub record StepWords (ports : Card → Option Signature) (start : Card → List ℕ) (step : Card → RoundStep) : Type 0 where
  pub at_start : OfEachCard (λ card. IsSome (ports card) → AreKept (start card))
  pub after_step : OfEachCard (λ card. IsSome (ports card) → OfAllKept (MakesWords (step card)))
