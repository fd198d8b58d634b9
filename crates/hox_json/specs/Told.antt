-- What a line tells of a name.
use Rattle.std.specs.Prelude.{ℕ, List}
use Rattle.serde_json.specs.Data.{Data}
use Rattle.hox_json.specs.declared.named.Fact.{Fact}
use Rattle.hox_json.specs.declared.named.Fact.TheVariants.{State, Sizes, Tokens}
use Rattle.hox_json.specs.Json.{sizes_data, state_data, tokens_data}

abbrev pub data_of : Fact → List (List ℕ) → Data
data_of State = state_data
data_of Sizes = sizes_data
data_of Tokens = tokens_data
