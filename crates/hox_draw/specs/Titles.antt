-- The titles of processes that are formulas.
use Rattle.std.specs.Prelude.{◌≡◌, ◌⊎◌, ℕ, codes, decimal, List, [], ◌++◌, Some, EachIndex, slice_index_or}
use Rattle.kpn_model.specs.declared.kinds.Card.{Card}
use Rattle.kpn_model.specs.Network.{Network, card_of}
use Rattle.kpn_front.specs.Names.{KindNames}
use Rattle.hox_formula.specs.Texts.{IsCardOfText}

-- the title of each kind, and how many arguments follow it
abbrev pub Titles : Type 0
Titles = ℕ → List ℕ × ℕ

module _ (named : KindNames) (net : Network) where
  -- process p has the kind of the formulas of this number
  abbrev pub HasFormulaKind : ℕ → ℕ → Type 0
  HasFormulaKind p kind = named (codes "formula " ++ decimal kind) ≡ Some ((card_of net p).kind, 3)

  -- process p has the card of this formula: its kind, and its arguments
  abbrev pub HasFormula : ℕ → Card → Type 0
  HasFormula p formula = HasFormulaKind p formula.kind × ((card_of net p).args ≡ formula.args)

  -- the text is a formula, whose card process p has: the kind by its name, and the arguments
  pub record IsFormulaOf (p : ℕ) (text : List ℕ) : Type 0 where
    pub card : Card
    pub says : IsCardOfText text card
    pub kind : HasFormulaKind p card.kind
    pub args : (card_of net p).args ≡ card.args

  -- a title of process p is empty, or such a formula
  abbrev pub IsTitleOf : ℕ → List ℕ → Type 0
  IsTitleOf p title = (title ≡ []) ⊎ IsFormulaOf p title

  -- title p is one of process p
  abbrev pub AreTitles : List (List ℕ) → Type 0
  AreTitles titles = EachIndex titles (λ p. IsTitleOf p (slice_index_or titles p []))
