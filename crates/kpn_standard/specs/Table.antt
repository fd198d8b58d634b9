-- The table of the twelve standard kinds.
use Rattle.std.specs.Prelude.{ℕ, ◌==◌, List, [], ◌∷◌, Option, codes}
use Rattle.std.specs.List.{find}
use Rattle.std.specs.Str.{bytes_eq}
use Rattle.kpn_model.specs.declared.token.Sort.{Sort}
pub use Rattle.kpn_compute.specs.KindTable.{no_port, one_word, two_words, one_flag, word_and_flag, two_words_and_flag}
use Rattle.kpn_standard.specs.declared.kind.Kind.{Kind}
use Rattle.kpn_standard.specs.declared.kind.Row.{Row as CodeRow}
use Rattle.kpn_standard.specs.declared.kind.Kind.TheVariants.{Count, Sink, Take, Copy, Prefix, Add, Scale, Weave, Merge, Divides, Switch, Select}

pub record Row : Type 0 where
  pub number : ℕ
  pub name : List ℕ
  pub arguments : ℕ
  pub ins : List (Option Sort)
  pub outs : List (Option Sort)

abbrev pub tabled : ℕ → List ℕ → ℕ → List (Option Sort) → List (Option Sort) → Row
tabled number name count ins outs = record { number = number; name = name; arguments = count; ins = ins; outs = outs }

-- a row of the code, without where its name lies in memory
abbrev pub plain_row : CodeRow → Row
plain_row row = tabled row.number row.name.now row.arguments row.ins row.outs

abbrev pub row_of : Kind → Row
row_of Count = tabled 0 (codes "count") 2 no_port one_word
row_of Sink = tabled 1 (codes "sink") 1 one_word no_port
row_of Take = tabled 2 (codes "take") 1 one_word one_word
row_of Copy = tabled 3 (codes "copy") 0 one_word two_words
row_of Prefix = tabled 4 (codes "prefix") 1 one_word one_word
row_of Add = tabled 5 (codes "add") 0 two_words one_word
row_of Scale = tabled 6 (codes "scale") 1 one_word one_word
row_of Weave = tabled 7 (codes "weave") 2 two_words one_word
row_of Merge = tabled 8 (codes "merge") 0 two_words one_word
row_of Divides = tabled 9 (codes "divides") 1 one_word one_flag
row_of Switch = tabled 10 (codes "switch") 0 word_and_flag two_words
row_of Select = tabled 11 (codes "select") 0 two_words_and_flag one_word

abbrev pub all_kinds : List Kind
all_kinds = Count ∷ Sink ∷ Take ∷ Copy ∷ Prefix ∷ Add ∷ Scale ∷ Weave ∷ Merge ∷ Divides ∷ Switch ∷ Select ∷ []

abbrev pub numbered : ℕ → Option Kind
numbered number = find (λ kind. number == (row_of kind).number) all_kinds

abbrev pub called : List ℕ → Option Kind
called name = find (λ kind. bytes_eq name (row_of kind).name) all_kinds
