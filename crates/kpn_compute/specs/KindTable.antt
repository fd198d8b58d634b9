-- The definitions in a table of kinds, for crates with kinds of their own; those of the model are re-exported.
use Rattle.std.specs.Prelude.{ℕ, List, [], ◌∷◌, Option, Some, None, get_or}
pub use Rattle.kpn_model.specs.declared.token.Sort.{Sort}
pub use Rattle.kpn_model.specs.declared.token.Sort.TheVariants.{Words, Flags}
pub use Rattle.kpn_model.specs.declared.token.Token.{Token}
pub use Rattle.kpn_model.specs.declared.token.Token.TheVariants.{Word, Flag}
pub use Rattle.kpn_model.specs.declared.kinds.Card.{Card}
pub use Rattle.kpn_model.specs.declared.kinds.Signature.{Signature}
pub use Rattle.kpn_model.specs.declared.kinds.Act.{Act}
pub use Rattle.kpn_model.specs.declared.kinds.Act.TheVariants.{Read, Write, Stop}
pub use Rattle.kpn_model.specs.declared.kinds.Answer.{Answer}
pub use Rattle.kpn_model.specs.Network.{Family}

abbrev pub at : List ℕ → ℕ → ℕ
at xs k = get_or xs k 0

abbrev pub no_port : List (Option Sort)
no_port = None ∷ None ∷ None ∷ []

abbrev pub one_word : List (Option Sort)
one_word = Some Words ∷ None ∷ None ∷ []

abbrev pub two_words : List (Option Sort)
two_words = Some Words ∷ Some Words ∷ None ∷ []

abbrev pub one_flag : List (Option Sort)
one_flag = Some Flags ∷ None ∷ None ∷ []

abbrev pub word_and_flag : List (Option Sort)
word_and_flag = Some Words ∷ Some Flags ∷ None ∷ []

abbrev pub two_words_and_flag : List (Option Sort)
two_words_and_flag = Some Words ∷ Some Words ∷ Some Flags ∷ []
