-- The TOML document of a sketch, with every key of its version.
use Rattle.std.specs.Prelude.{ℕ, pos, Bool, true, false, ◌&&◌, ◌==◌, if◌then◌else◌, codes, List, length, map}
use Rattle.std.specs.List.{list_all}
use Rattle.std.specs.Int.{w64, cast_signed}
use Rattle.std.specs.Ordering.{int_eq, nat_cmp, match_ordering}
use Rattle.std.specs.Cmp.Lexicographic.{slice_cmp}
use Rattle.toml.specs.Data.{Data, string, integer, boolean, array, table, Members, no_members, member}
use Rattle.toml.specs.View.{items_of}
use Rattle.kpn_model.specs.texts.Version.{is_two}
use Rattle.kpn_model.specs.declared.token.Sort.{Sort}
use Rattle.kpn_model.specs.declared.token.Sort.TheVariants.{Words, Flags}
use Rattle.kpn_sketch.specs.declared.sketch.TokenSketch.{TokenSketch}
use Rattle.kpn_sketch.specs.declared.sketch.TokenSketch.TheVariants.{Integer, Boolean, Word}
use Rattle.kpn_sketch.specs.declared.sketch.ProcessSketch.{ProcessSketch}
use Rattle.kpn_sketch.specs.declared.sketch.ChannelSketch.{ChannelSketch}
use Rattle.kpn_sketch.specs.declared.sketch.Sketch.{Sketch}

-- the members from the first on, with one more before it, in its place or after it; `later` has it after the first
abbrev pub placed_member : List ℕ → Data → List ℕ → Data → Members → Members → Members
placed_member k d l e ms later =
    match_ordering (slice_cmp nat_cmp k l) (member k d (member l e ms)) (member l d ms) (member l e later)

-- the table with one more member, in the order of the keys
abbrev pub with_member : List ℕ → Data → Members → Members
with_member k d no_members = member k d no_members
with_member k d (member l e ms) = placed_member k d l e ms (with_member k d ms)

-- a word by its value is written in two's complement
abbrev pub token_value : TokenSketch → Data
token_value (Integer z) = integer z
token_value (Boolean b) = boolean b
token_value (Word w) = integer (cast_signed w64 w)

abbrev pub sort_value : Sort → Data
sort_value Words = string (codes "words")
sort_value Flags = string (codes "flags")

-- the arguments, and the kind with the name
abbrev pub args_value : ProcessSketch → Data
args_value p = array (items_of (map integer p.args))

abbrev pub kind_members : ProcessSketch → Members
kind_members p = member (codes "kind") (string p.kind) (member (codes "name") (string p.name) no_members)

abbrev pub process_value : ProcessSketch → Data
process_value p = table (member (codes "args") (args_value p) (kind_members p))

-- the start tokens
abbrev pub tokens_members : ChannelSketch → Members
tokens_members c = member (codes "tokens") (array (items_of (map token_value c.tokens))) no_members

-- only version 2 has start tokens
abbrev pub last_members : Bool → ChannelSketch → Members
last_members two c = member (codes "to") (string c.to) (if two then tokens_members c else no_members)

-- the sort, and what follows it
abbrev pub sort_members : Bool → ChannelSketch → Members
sort_members two c = member (codes "sort") (sort_value c.sort) (last_members two c)

abbrev pub channel_value : Bool → ChannelSketch → Data
channel_value two c = table (
    member (codes "capacity") (integer c.capacity) (
    member (codes "from") (string c.from) (
    member (codes "in") (integer c.input) (
    member (codes "name") (string c.name) (member (codes "out") (integer c.out) (sort_members two c))
    )
    )
    )
    )

-- only version 2 has a step
abbrev pub version_members : Sketch → Members
version_members s =
    let version = member (codes "version") (integer s.version) no_members in
    if is_two s.version then member (codes "step") (integer s.step) version else version

abbrev pub sketch_members : Sketch → Members
sketch_members s =
    member (codes "budget") (integer s.budget) (
    member (codes "channel") (array (items_of (map (channel_value (is_two s.version)) s.channels))) (
    member (codes "process") (array (items_of (map process_value s.processes))) (version_members s)
    )
    )

abbrev pub has_no_tokens : ChannelSketch → Bool
has_no_tokens c = length c.tokens == 0

-- a text can say the token
abbrev pub is_said : TokenSketch → Bool
is_said (Integer z) = true
is_said (Boolean b) = true
is_said (Word w) = false

abbrev pub has_said_tokens : ChannelSketch → Bool
has_said_tokens c = list_all is_said c.tokens

-- the step is 1, and no channel has start tokens
abbrev pub suits_version_one : Sketch → Bool
suits_version_one s = int_eq s.step (pos 1) && list_all has_no_tokens s.channels

-- in version 2 if no start token is a word by its value, in others with a step of 1 and no start tokens
abbrev pub is_describable : Sketch → Bool
is_describable s = if is_two s.version then list_all has_said_tokens s.channels else suits_version_one s
