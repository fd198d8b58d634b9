-- The sketch that a TOML document describes.
use Rattle.std.specs.Prelude.{◌≡◌, ℕ, ℤ, pos, Bool, true, false, IsUtf8, IsSome, codes, List, [], ◌∷◌, Option, Some, None, option_and_then, if◌then◌else◌}
use Rattle.toml.specs.Data.{Data, integer, boolean, Members, as_str, as_integer, as_table}
use Rattle.std.specs.Str.{bytes_eq}
use Rattle.kpn_model.specs.declared.token.Sort.{Sort}
use Rattle.kpn_model.specs.declared.token.Sort.TheVariants.{Words, Flags}
use Rattle.kpn_sketch.specs.declared.sketch.TokenSketch.{TokenSketch}
use Rattle.kpn_sketch.specs.declared.sketch.TokenSketch.TheVariants.{Integer, Boolean}
use Rattle.kpn_sketch.specs.declared.sketch.ProcessSketch.{ProcessSketch}
use Rattle.kpn_sketch.specs.declared.sketch.ChannelSketch.{ChannelSketch}
use Rattle.kpn_sketch.specs.declared.sketch.Sketch.{Sketch}
use Rattle.kpn_sketch.specs.declared.sketch.Delay.{Delay}
use Rattle.kpn_sketch.specs.declared.sketch.Delayed.{Delayed}
use Rattle.kpn_sketch.specs.declared.form.Reading.{Reading}
use Rattle.toml.specs.Errors.{IsMemory}
use Rattle.toml.specs.Parse.{parse_document}
use Rattle.toml.specs.declared.de.error.Error.{Error}
use Rattle.kpn_model.specs.declared.limits.TheConstants.{DEFAULT_BUDGET}
use Rattle.kpn_sketch.specs.declared.fault.NetFault.{NetFault}
use Rattle.kpn_sketch.specs.declared.fault.NetFault.TheVariants.{NotToml, Keys, Memory}
use Rattle.kpn_sketch.specs.Form.{required, optional, array_of, has_only}
use Rattle.kpn_model.specs.texts.Version.{is_two}

infixl 10 ◌>>=◌
abbrev ◌>>=◌ : {A B : Type 0} → Option A → (A → Option B) → Option B
o >>= f = option_and_then f o

-- the table, if it has no other keys than these
abbrev pub known_table : List (List ℕ) → Data → Option Members
known_table known d = as_table d >>= (λ table. if has_only known table then Some table else None)

-- flags, if the text names them
abbrev pub flags_if_named : List ℕ → Option Sort
flags_if_named text = if bytes_eq text (codes "flags") then Some Flags else None

abbrev pub sort_named : List ℕ → Option Sort
sort_named text = if bytes_eq text (codes "words") then Some Words else flags_if_named text

abbrev pub described_sort : Data → Option Sort
described_sort d = as_str d >>= sort_named

abbrev pub process_keys : List (List ℕ)
process_keys = codes "name" ∷ codes "kind" ∷ codes "args" ∷ []

abbrev pub described_process : Data → Option ProcessSketch
described_process d =
    known_table process_keys d >>= (λ table.
    required as_str (codes "name") table >>= (λ name.
    required as_str (codes "kind") table >>= (λ kind.
    optional (array_of as_integer) [] (codes "args") table >>= (λ args.
    Some (record { name = name; kind = kind; args = args })))))

abbrev pub token_of : Data → Option TokenSketch
token_of (integer z) = Some (Integer z)
token_of (boolean b) = Some (Boolean b)
token_of _ = None

-- channels have start tokens from version 2 on, and delays if these are read
abbrev pub held_keys : Bool → List (List ℕ)
held_keys has_delays = codes "tokens" ∷ (if has_delays then codes "delay" ∷ [] else [])

abbrev pub later_keys : Reading → List (List ℕ)
later_keys reading = if is_two reading.version then held_keys reading.has_delays else []

-- those without which a channel has a default
abbrev pub default_keys : Reading → List (List ℕ)
default_keys reading = codes "out" ∷ codes "in" ∷ codes "sort" ∷ codes "capacity" ∷ later_keys reading

abbrev pub channel_keys : Reading → List (List ℕ)
channel_keys reading = codes "name" ∷ codes "from" ∷ codes "to" ∷ default_keys reading

abbrev pub channel_from : Members → Option ChannelSketch
channel_from table =
    required as_str (codes "name") table >>= (λ name.
    required as_str (codes "from") table >>= (λ from.
    required as_str (codes "to") table >>= (λ to.
    optional as_integer (pos 0) (codes "out") table >>= (λ out.
    optional as_integer (pos 0) (codes "in") table >>= (λ input.
    optional described_sort Words (codes "sort") table >>= (λ sort.
    optional as_integer (pos 1) (codes "capacity") table >>= (λ capacity.
    optional (array_of token_of) [] (codes "tokens") table >>= (λ tokens.
    Some (record {
      name = name;
      from = from;
      to = to;
      out = out;
      input = input;
      sort = sort;
      capacity = capacity;
      tokens = tokens;
    })))))))))

abbrev pub described_channel : Reading → Data → Option ChannelSketch
described_channel reading d = known_table (channel_keys reading) d >>= channel_from

-- the delay in the table of a channel
abbrev pub delay_from : Members → Option Delay
delay_from table = optional as_integer (pos 0) (codes "delay") table >>= (λ tokens. Some (record { tokens = tokens }))

abbrev pub described_delay : Data → Option Delay
described_delay d = as_table d >>= (λ table. delay_from table)

-- growths have a step from version 2 on
abbrev pub step_keys : ℤ → List (List ℕ)
step_keys version = if is_two version then codes "step" ∷ [] else []

abbrev pub top_keys : ℤ → List (List ℕ)
top_keys version = codes "version" ∷ codes "budget" ∷ codes "process" ∷ codes "channel" ∷ step_keys version

-- how channels are read in a version
abbrev pub reading_of : ℤ → Bool → Reading
reading_of version has_delays = record { version = version; has_delays = has_delays }

-- the channels in the table of a description
abbrev pub described_channels : ℤ → Bool → Members → Option (List ChannelSketch)
described_channels version has_delays table =
    optional (array_of (described_channel (reading_of version has_delays))) [] (codes "channel") table

abbrev pub sketch_by : Bool → Members → Option Sketch
sketch_by has_delays table =
    required as_integer (codes "version") table >>= (λ version.
    if has_only (top_keys version) table then
    optional as_integer (pos DEFAULT_BUDGET) (codes "budget") table >>= (λ budget.
    optional as_integer (pos 1) (codes "step") table >>= (λ step.
    required (array_of described_process) (codes "process") table >>= (λ processes.
    described_channels version has_delays table >>= (λ channels.
    Some (record { version = version; budget = budget; step = step; processes = processes; channels = channels })))))
    else None)

abbrev pub sketch_of : Members → Option Sketch
sketch_of = sketch_by false

-- the sketch without the delays, and these
abbrev pub delayed_of : Members → Option Delayed
delayed_of table =
    sketch_by true table >>= (λ sketch.
    optional (array_of described_delay) [] (codes "channel") table >>= (λ delays.
    Some (record { sketch = sketch; delays = delays })))

-- an error is one of memory, or the text has no document
abbrev pub IsTomlErrorOf : Error → List ℕ → Type 0
IsTomlErrorOf error text = (IsMemory error → ⊥) → IsUtf8 text → parse_document text ≡ None

-- how the table of a document is read
abbrev pub Reader : Type 0 → Type 0
Reader A = Members → Option A

module _ {A : Type 0} (read : Reader A) where
  -- this is read of the text
  abbrev pub DescribesBy : List ℕ → A → Type 0
  DescribesBy text described = IsUtf8 text × (option_and_then read (parse_document text) ≡ Some described)

  -- `Memory` at any time; else one of the others, if nothing is read of the text
  abbrev pub IsFaultBy : List ℕ → NetFault → Type 0
  IsFaultBy text NotToml = IsUtf8 text → parse_document text ≡ None
  IsFaultBy text Keys = IsUtf8 text × IsSome (parse_document text) × (option_and_then read (parse_document text) ≡ None)
  IsFaultBy text Memory = Unit {0}
  IsFaultBy text _ = ⊥

abbrev pub Describes : List ℕ → Sketch → Type 0
Describes = DescribesBy sketch_of

abbrev pub IsReadFault : List ℕ → NetFault → Type 0
IsReadFault = IsFaultBy sketch_of

abbrev pub DescribesDelayed : List ℕ → Delayed → Type 0
DescribesDelayed = DescribesBy delayed_of

abbrev pub IsDelayedFault : List ℕ → NetFault → Type 0
IsDelayedFault = IsFaultBy delayed_of
