-- Fan-out: where several channels leave one output, copies stand between.
use Rattle.std.specs.Prelude.{◌+◌, ℕ, ℤ, pos, Bool, false, not, ◌&&◌, ◌||◌, if◌then◌else◌, codes, decimal, List, [], ◌∷◌, ◌++◌, length, map, filter, get_or, Option, Some, None, is_some, ◌≡◌}
use Rattle.std.specs.List.{find, list_any, range_with_len}
use Rattle.std.specs.Option.{option_map_or, option_to_list, unwrap_or}
use Rattle.std.specs.Str.{bytes_eq}
use Rattle.kpn_model.specs.declared.token.Sort.{Sort}
use Rattle.kpn_model.specs.declared.token.Sort.TheVariants.{Words, Flags}
use Rattle.kpn_front.specs.Names.{KindNames, Signatures}
use Rattle.kpn_sketch.specs.declared.fault.NetFault.TheVariants.{Counts, Twice}
use Rattle.kpn_sketch.specs.declared.sketch.ProcessSketch.{ProcessSketch}
use Rattle.kpn_sketch.specs.declared.sketch.ChannelSketch.{ChannelSketch}
use Rattle.kpn_sketch.specs.declared.sketch.Sketch.{Sketch}
use Rattle.kpn_net.specs.Faults.{has_fault, same_out, sketched_out_sort}
use Rattle.hox_network.specs.declared.copies.Output.{Output}
use Rattle.hox_network.specs.declared.copies.TheConstants.{MOST_NAMES}

-- what f makes of each item, given those before it, and it with those after it
module _ {A B : Type 0} (f : List A → List A → List B) where
  abbrev pub each_from : List A → List A → List B
  each_from earlier [] = []
  each_from earlier (x ∷ later) = f earlier (x ∷ later) ++ each_from (earlier ++ x ∷ []) later

  abbrev pub each : List A → List B
  each items = each_from [] items

-- the option holds these items, one or none
abbrev pub HoldsItems : {A : Type 0} → List A → Option A → Type 0
HoldsItems items option = option_to_list option ≡ items

-- an output: its process and its number
abbrev pub output_pair : Output → List ℕ × ℤ
output_pair output = (output.process.now, output.out)

-- number 0, if so
abbrev pub first_if : Bool → Option ℕ
first_if b = if b then Some 0 else None

-- the number of the last item that passes the test
abbrev pub last_position : {A : Type 0} → (A → Bool) → List A → Option ℕ
last_position test [] = None
last_position test (x ∷ xs) = option_map_or (λ k. Some (k + 1)) (last_position test xs) (first_if (test x))

abbrev pub numbered : ℕ → List ℕ
numbered k = codes "copy_" ++ decimal k

abbrev pub has_process_named : Sketch → List ℕ → Bool
has_process_named sketch name = list_any (λ p. bytes_eq p.name name) sketch.processes

abbrev pub has_channel_named : Sketch → List ℕ → Bool
has_channel_named sketch name = list_any (λ c. bytes_eq c.name name) sketch.channels

-- no process and no channel has the name
abbrev pub is_free : Sketch → List ℕ → Bool
is_free sketch name = not (has_process_named sketch name || has_channel_named sketch name)

-- those of copy_0, copy_1, .. , of the first n, that are free
unfoldable pub free_names : ℕ → Sketch → List (List ℕ)
free_names n sketch = filter (is_free sketch) (map numbered (range_with_len 0 n))

-- a copy is of words or of flags
abbrev pub copy_kind : Option Sort → List ℕ
copy_kind (Some Flags) = codes "copy_flags"
copy_kind _ = codes "copy"

-- a process of this kind never writes
abbrev pub is_input : List ℕ → Bool
is_input kind = bytes_eq kind (codes "input") || bytes_eq kind (codes "input_flags")

abbrev pub leaves_input : Sketch → ChannelSketch → Bool
leaves_input sketch c = option_map_or (λ p. is_input p.kind) (find (λ p. bytes_eq p.name c.from) sketch.processes) false

module _ (named : KindNames) (signature : Signatures) (sketch : Sketch) where
  -- both channels leave one output, and it exists
  abbrev pub shares : ChannelSketch → ChannelSketch → Bool
  shares c d = is_some (sketched_out_sort named signature sketch c) && same_out c d

  -- a later channel leaves the same output; then a copy writes to this channel and to the later ones
  abbrev pub branches : ChannelSketch → List ChannelSketch → Bool
  branches c later = list_any (shares c) later

  -- the first of several channels that leave an input: what is fed into it is for all
  abbrev pub is_fed : List ChannelSketch → ChannelSketch → List ChannelSketch → Bool
  is_fed earlier c later = leaves_input sketch c && not (branches c earlier) && branches c later

-- the copy at channel k has name k of these, and so has the channel to it; but if k is fed, the channel to the copy has
-- the name of k, and its capacity, and k has that of the copy
module _ (named : KindNames) (signature : Signatures) (sketch : Sketch) (names : List (List ℕ)) where
  abbrev pub copy_name : ℕ → List ℕ
  copy_name k = get_or names k []

  -- the last earlier channel that leaves the same output
  abbrev last_sharing : List ChannelSketch → ChannelSketch → Option ℕ
  last_sharing earlier c = last_position (shares named signature sketch c) earlier

  -- what a channel's tokens come from: its output, or output 1 of the copy at the last earlier channel that leaves it
  abbrev pub source : List ChannelSketch → ChannelSketch → List ℕ × ℤ
  source earlier c = option_map_or (λ k. (copy_name k, pos 1)) (last_sharing earlier c) (c.from, c.out)

  -- a copy at a channel
  abbrev copy_of : List ChannelSketch → ChannelSketch → ProcessSketch
  copy_of earlier c = record {
    name = copy_name (length earlier);
    kind = copy_kind (sketched_out_sort named signature sketch c);
    args = [];
  }

  -- the copy at a channel, if there is one
  abbrev pub copy_at : List ChannelSketch → List ChannelSketch → List ProcessSketch
  copy_at earlier [] = []
  copy_at earlier (c ∷ later) =
      if branches named signature sketch c later then copy_of earlier c ∷ [] else []

  -- the channel is the first of several that leave an input
  abbrev gets_fed : List ChannelSketch → ChannelSketch → List ChannelSketch → Bool
  gets_fed earlier c later = is_fed named signature sketch earlier c later

  -- a channel to a copy of this name, from what its tokens come from
  abbrev copy_link : List ChannelSketch → ChannelSketch → List ChannelSketch → List ℕ → (List ℕ × ℤ) → ChannelSketch
  copy_link earlier c later name from = record {
    name = if gets_fed earlier c later then c.name else name;
    from = from.0;
    to = name;
    out = from.1;
    input = pos 0;
    sort = Words;
    capacity = if gets_fed earlier c later then c.capacity else pos 1;
    tokens = [];
  }

  -- the channel to that copy
  abbrev pub link_at : List ChannelSketch → List ChannelSketch → List ChannelSketch
  link_at earlier [] = []
  link_at earlier (c ∷ later) =
      let name = copy_name (length earlier) in
      let from = source earlier c in
      if branches named signature sketch c later then copy_link earlier c later name from ∷ [] else []

  -- output 0 of the copy at a channel
  abbrev own_output : List ChannelSketch → List ℕ × ℤ
  own_output earlier = (copy_name (length earlier), pos 0)

  -- the output that a channel leaves now: output 0 of its copy, or what its tokens come from
  abbrev pub leaves : List ChannelSketch → ChannelSketch → List ChannelSketch → List ℕ × ℤ
  leaves earlier c later = if branches named signature sketch c later then own_output earlier else source earlier c

  -- the name of a channel now
  abbrev moved_name : List ChannelSketch → ChannelSketch → List ChannelSketch → List ℕ
  moved_name earlier c later = if gets_fed earlier c later then copy_name (length earlier) else c.name

  -- the sort of the output that it leaves, if that exists, else its own
  abbrev output_sort : ChannelSketch → Sort
  output_sort c = unwrap_or (sketched_out_sort named signature sketch c) c.sort

  -- the channel with this name, this output and this sort
  abbrev moved_to : List ℕ → (List ℕ × ℤ) → Sort → ChannelSketch → ChannelSketch
  moved_to name output sort c = record c { name = name; from = output.0; out = output.1; sort = sort }

  -- with the sort of the output, so that a fault of sorts is one of the input
  abbrev pub moved_at : List ChannelSketch → List ChannelSketch → List ChannelSketch
  moved_at earlier [] = []
  moved_at earlier (c ∷ later) = moved_to (moved_name earlier c later) (leaves earlier c later) (output_sort c) c ∷ []

  abbrev pub all_copies : List ProcessSketch
  all_copies = each copy_at sketch.channels

  -- the channels to the copies
  abbrev pub all_links : List ChannelSketch
  all_links = each link_at sketch.channels

  -- the channels, now that there are copies
  abbrev pub all_moved : List ChannelSketch
  all_moved = each moved_at sketch.channels

  -- the sketch with its copies, after all that it has
  abbrev pub copied : Sketch
  copied = record sketch { processes = sketch.processes ++ all_copies; channels = all_moved ++ all_links }

module _ (named : KindNames) (signature : Signatures) where
  -- two channels share a port, within the limits of a description
  abbrev needs_copies : Sketch → Bool
  needs_copies sketch = not (has_fault named signature sketch Counts) && has_fault named signature sketch Twice

  -- the copies have free names
  abbrev copied_freely : Sketch → Sketch
  copied_freely sketch = copied named signature sketch (free_names MOST_NAMES sketch)

  -- with copies, if two channels share a port, within the limits of a description
  abbrev pub with_copies : Sketch → Sketch
  with_copies sketch = if needs_copies sketch then copied_freely sketch else sketch
