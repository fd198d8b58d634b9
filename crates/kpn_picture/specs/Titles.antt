-- The titles of kinds: the name and the number of arguments of each.
use Rattle.std.specs.Prelude.{◌≡◌, ◌⊎◌, ℕ, ◌/◌, ◌%◌, ◌==◌, nat_lt, if◌then◌else◌, List, [], ◌++◌, codes, decimal, Option, Some, None}
use Rattle.std.specs.Option.{option_map_or}
use Rattle.kpn_model.specs.declared.kinds.Card.{Card}
use Rattle.kpn_model.specs.declared.kinds.Signature.{Signature}
use Rattle.kpn_standard.specs.Locals.{at}
use Rattle.kpn_standard.specs.Table.{row_of, numbered}
use Rattle.kpn_signals.specs.Table.{numbered as signal_numbered, called_by}
use Rattle.kpn_formula.specs.Formulas.{kind_name}
use Rattle.kpn_compute.specs.Both.{HasNoPorts}
use Rattle.kpn_picture.specs.declared.titles.Title.{Title}

-- the name and the number of arguments of each kind
abbrev pub KindTitles : Type 0
KindTitles = ℕ → List ℕ × ℕ

-- the title of each standard kind, by its number; empty for any other number
abbrev pub standard_title : ℕ → List ℕ × ℕ
standard_title number = option_map_or (λ kind. ((row_of kind).name, (row_of kind).arguments)) (numbered number) ([], 0)

-- the title of each kind for signals: its name in descriptions
abbrev pub signals_title : ℕ → List ℕ × ℕ
signals_title number = option_map_or called_by (signal_numbered number) ([], 0)

-- the title of each formula
abbrev pub formulas_title : ℕ → List ℕ × ℕ
formulas_title number = (kind_name number, 3)

-- the name of a kind: a word, with perhaps a number behind it
abbrev pub name_of : List ℕ → Option ℕ → List ℕ
name_of word None = word
name_of word (Some n) = word ++ (codes " " ++ decimal n)

-- the name in a title
abbrev pub name_in : Title → List ℕ
name_in title = name_of title.word.now title.number

-- the argument after those of a card's title: how many of these, from the first on, are below 0
abbrev pub below : Card → ℕ → ℕ
below card arity = if nat_lt arity 3 then at card.args arity else 0

-- the titles of two joined families
abbrev pub both_title : (ℕ → List ℕ × ℕ) → (ℕ → List ℕ × ℕ) → ℕ → List ℕ × ℕ
both_title first second number = (if number % 2 == 0 then first else second) (number / 2)

-- a name means this kind, with this number of arguments; or it is refused, since two joined families have it:
-- no card of its number has ports
abbrev pub MeansKind : (Card → Option Signature) → Option (ℕ × ℕ) → ℕ × ℕ → Type 0
MeansKind ports None kind = ⊥
MeansKind ports (Some meant) kind = (meant ≡ kind) ⊎ HasNoPorts ports meant

-- the kind of a card, as it is titled: its number, and its number of arguments
abbrev pub titled_kind : KindTitles → Card → ℕ × ℕ
titled_kind title card = (card.kind, (title card.kind).1)

-- the name in a card's title means its kind, if no argument is below 0
abbrev pub TitleMeansKind : (Card → Option Signature) → (List ℕ → Option (ℕ × ℕ)) → KindTitles → Card → Type 0
TitleMeansKind ports named title card =
    below card (title card.kind).1 ≡ 0 → MeansKind ports (named (title card.kind).0) (titled_kind title card)

abbrev pub TitleNamesKind : (List ℕ → Option (ℕ × ℕ)) → KindTitles → Card → Type 0
TitleNamesKind named title card =
    below card (title card.kind).1 ≡ 0 → named (title card.kind).0 ≡ Some (titled_kind title card)
