-- The default budget of a description.
use Rattle.std.specs.Prelude.{ℕ, pos, Bool, false, codes, List, is_some, if◌then◌else◌, ◌≡◌, IsUtf8, None}
use Rattle.std.specs.Option.{option_map_or}
use Rattle.toml.specs.declared.de.error.Error.{Error}
use Rattle.toml.specs.Errors.{IsMemory}
use Rattle.toml.specs.Data.{Members, get_member}
use Rattle.toml.specs.Parse.{parse_document}
use Rattle.kpn_model.specs.texts.Version.{greatest_budget_in}
use Rattle.kpn_sketch.specs.declared.sketch.Sketch.{Sketch}

abbrev pub has_budget : Members → Bool
has_budget table = is_some (get_member (codes "budget") table)

abbrev pub says_budget : List ℕ → Bool
says_budget text = option_map_or has_budget (parse_document text) false

-- what an error tells of a text: it is no TOML, unless memory was refused
abbrev pub IsErrorOf : Error → List ℕ → Type 0
IsErrorOf error text = (IsMemory error → ⊥) → IsUtf8 text → parse_document text ≡ None

-- the sketch with the greatest budget of its version
abbrev pub of_greatest_budget : Sketch → Sketch
of_greatest_budget sketch = record sketch { budget = pos (greatest_budget_in sketch.version) }

-- the greatest budget of the version if the text states none
abbrev pub with_greatest_budget : List ℕ → Sketch → Sketch
with_greatest_budget text sketch = if says_budget text then sketch else of_greatest_budget sketch
