-- Members that the code has, with more.
use Rattle.std.specs.Prelude.{ℕ, Bool, List, String, map}
use Rattle.std.specs.Borrow.{Bor}
use Rattle.std.specs.declared.alloc.Global.{Global}
use Rattle.serde_json.specs.Data.{Members}
use Rattle.serde_json.specs.View.{members_view, view}
use Rattle.serde_json.specs.declared.value.Value.{Value}
use Rattle.hox_json.specs.declared.named.Fact.{Fact}
use Rattle.hox_json.specs.Json.{put_if, put_named, with_history, with_places, with_rest, with_verdict}
use Rattle.hox_json.specs.Told.{data_of}

-- the members of an object, as the code has them
abbrev pub MemberEntries : Type 0
MemberEntries = List (String Global × Value)

-- texts without where they lie in memory
abbrev pub plain_texts : List (Bor (List ℕ)) → List (List ℕ)
plain_texts texts = map (λ s. s.now) texts

-- the members, and what the lines tell
abbrev pub verdict_put : List (Bor (List ℕ)) → MemberEntries → Members
verdict_put lines entries = with_verdict (plain_texts lines) (members_view entries)

abbrev pub places_put : List (Bor (List ℕ)) → MemberEntries → Members
places_put lines entries = with_places (plain_texts lines) (members_view entries)

abbrev pub history_put : List (Bor (List ℕ)) → MemberEntries → Members
history_put lines entries = with_history (plain_texts lines) (members_view entries)

abbrev pub rest_put : List (Bor (List ℕ)) → MemberEntries → Members
rest_put lines entries = with_rest (plain_texts lines) (members_view entries)

-- the members, and one more if it is told
abbrev pub value_put_if : Bool → List ℕ → Value → MemberEntries → Members
value_put_if is_told key value entries = put_if is_told key (view value) (members_view entries)

-- the members, and the one that the words name
abbrev pub named_put : Fact → List (Bor (List ℕ)) → MemberEntries → Members
named_put told words entries = put_named (data_of told) (members_view entries) (plain_texts words)
