-- With which local states and last tokens a process of a standard card may be asked.
use Rattle.std.specs.Prelude.{ℕ, List, Option, Some, None}
use Rattle.kpn_model.specs.declared.token.Token.{Token}
use Rattle.kpn_model.specs.declared.kinds.Card.{Card}
use Rattle.kpn_standard.specs.declared.kind.Kind.{Kind}
use Rattle.kpn_standard.specs.declared.kind.Kind.TheVariants.{Count, Sink, Take, Copy, Prefix, Add, Scale, Weave, Merge, Divides, Switch, Select}
use Rattle.kpn_standard.specs.Locals.{at, IsLocal, LastFits}
use Rattle.kpn_standard.specs.Ends.{CountLine, SinkLine}
use Rattle.kpn_standard.specs.Copies.{TakeLine, CopyLine, PrefixLine}
use Rattle.kpn_standard.specs.Arithmetic.{AddLine, ScaleLine}
use Rattle.kpn_standard.specs.Merging.{WeaveLine, MergeLine}
use Rattle.kpn_standard.specs.Flags.{DividesLine, SwitchLine, SelectLine}
use Rattle.kpn_standard.specs.Table.{numbered}

abbrev pub LineOf : Option Kind → List ℕ → List ℕ → Option Token → Type 0
LineOf None args = λ local last. ⊥
LineOf (Some Count) args = CountLine (at args 1)
LineOf (Some Sink) args = SinkLine (at args 0)
LineOf (Some Take) args = TakeLine (at args 0)
LineOf (Some Copy) args = CopyLine
LineOf (Some Prefix) args = PrefixLine
LineOf (Some Add) args = AddLine
LineOf (Some Scale) args = ScaleLine
LineOf (Some Weave) args = WeaveLine (at args 0) (at args 1)
LineOf (Some Merge) args = MergeLine
LineOf (Some Divides) args = DividesLine
LineOf (Some Switch) args = SwitchLine
LineOf (Some Select) args = SelectLine

abbrev pub HasLine : ℕ → List ℕ → List ℕ → Option Token → Type 0
HasLine number = LineOf (numbered number)

-- the kind has a line for the two, and all numbers have 64 bits
pub record Admitted (card : Card) (local : List ℕ) (last : Option Token) : Type 0 where
  pub local_fits : IsLocal local
  pub last_fits : LastFits last
  pub line : HasLine card.kind card.args local last
