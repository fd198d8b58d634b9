-- Formulas as kinds: a process whose kind is a formula gets a card that means it.
use Rattle.std.specs.Prelude.{◌≡◌, ℕ, pos, codes, decimal, List, [], ◌++◌, map}
use Rattle.std.specs.List.{AllZip}
use Rattle.kpn_model.specs.declared.kinds.Card.{Card}
use Rattle.kpn_sketch.specs.declared.sketch.ProcessSketch.{ProcessSketch}
use Rattle.kpn_sketch.specs.declared.sketch.Delayed.{Delayed}
use Rattle.kpn_sketch.specs.declared.sketch.Sketch.{Sketch}
use Rattle.kpn_sketch.specs.Description.{DescribesDelayed}
use Rattle.hox_formula.specs.Texts.{IsCardOfText}

-- a process of this card, by the name of its kind
abbrev pub with_card : ProcessSketch → Card → ProcessSketch
with_card p card = record p { kind = codes "formula " ++ decimal card.kind; args = map (λ n. pos n) card.args }

-- the process itself, or one whose card means the formula that its kind is; a formula has no arguments
pub data IsWritten (p q : ProcessSketch) : Type 0 where
  stays : q ≡ p → IsWritten p q
  formula : (card : Card) → IsCardOfText p.kind card → p.args ≡ [] → q ≡ with_card p card → IsWritten p q

-- each formula may be a card, and nothing else changes
pub record AreWritten (sketch written : Sketch) : Type 0 where
  pub each : AllZip IsWritten sketch.processes written.processes
  pub rest : written ≡ record sketch { processes = written.processes }

pub record IsWrittenOut (described written : Delayed) : Type 0 where
  pub formulas : AreWritten described.sketch written.sketch
  pub delays : written.delays ≡ described.delays

-- a way to write out what the text describes
pub record WritesOut (text : List ℕ) (write : Delayed → Delayed) : Type 0 where
  pub out : (described : Delayed) → DescribesDelayed text described → IsWrittenOut described (write described)
