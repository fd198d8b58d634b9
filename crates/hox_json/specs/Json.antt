-- The JSON of the report of a run.
use Rattle.std.specs.Prelude.{◌==◌, ◌-◌, ◌||◌, ℕ, Bool, true, false, not, codes, List, [], ◌∷◌, ◌++◌, map, drop, length, nat_lt, slice_index_or, if◌then◌else◌, Option, Some, None}
use Rattle.std.specs.List.{after_first, before_first, filter, fold, slice_split}
use Rattle.std.specs.Str.{bytes_eq}
use Rattle.serde_json.specs.Data.{Data, Members, array, boolean, member, negative, no_members, number, object, put, string, unsigned}
use Rattle.serde_json.specs.Read.{read}
use Rattle.serde_json.specs.View.{items_of}
use Rattle.serde_json.specs.Written.{compact_text}

abbrev pub is_space : ℕ → Bool
is_space b = b == 32

-- the lines of a text, and an empty one after the last line feed
abbrev pub lines : List ℕ → List (List ℕ)
lines text = slice_split (λ b. b == 10) text

-- the first word of a line, the text after it, and the words in that
abbrev pub word_of : List ℕ → List ℕ
word_of line = before_first is_space line

abbrev pub text_after : List ℕ → List ℕ
text_after line = after_first is_space line

abbrev pub words_after : List ℕ → List (List ℕ)
words_after line = drop 1 (slice_split is_space line)

-- those that begin with this word
abbrev pub begins : List ℕ → List ℕ → Bool
begins word line = bytes_eq (word_of line) word

abbrev pub lines_of : List ℕ → List (List ℕ) → List (List ℕ)
lines_of word lines = filter (begins word) lines

abbrev pub first_text : List (List ℕ) → List ℕ
first_text lines = text_after (slice_index_or lines 0 [])

-- an integer or a flag
abbrev pub is_plain : Data → Bool
is_plain (boolean b) = true
is_plain (number (unsigned n)) = true
is_plain (number (negative z)) = true
is_plain _ = false

abbrev pub plain_or : List ℕ → Option Data → Data
plain_or text None = string text
plain_or text (Some d) = if is_plain d then d else string text

-- a token or a number: what it reads as, if that is an integer or a flag, else itself as a string
unfoldable pub token_data : List ℕ → Data
token_data text = plain_or text (read text)

abbrev pub tokens_data : List (List ℕ) → Data
tokens_data words = array (items_of (map token_data words))

abbrev pub names_data : List (List ℕ) → Data
names_data words = array (items_of (map string words))

abbrev pub word_at : List (List ℕ) → ℕ → List ℕ
word_at words k = slice_index_or words k []

abbrev pub put_if : Bool → List ℕ → Data → Members → Members
put_if is_told key d ms = if is_told then put key d ms else ms

-- the words begin with `reads CHANNEL` or `writes CHANNEL`
abbrev pub waits : List (List ℕ) → Bool
waits words = bytes_eq (word_at words 0) (codes "reads") || bytes_eq (word_at words 0) (codes "writes")

-- the channel for which a process waits, and the number of its steps
abbrev pub put_channel : List (List ℕ) → Members → Members
put_channel words ms = put_if (waits words) (codes "channel") (string (word_at words 1)) ms

abbrev pub put_steps : List (List ℕ) → Members → Members
put_steps words ms =
    put_if (nat_lt 2 (length words)) (codes "steps") (token_data (word_at words (length words - 1))) ms

-- of a process: its state, the channel for which it waits, and after `steps` their number, if it is there
abbrev pub state_data : List (List ℕ) → Data
state_data words =
    let state = put (codes "state") (string (word_at words 0)) no_members in
    object (put_steps words (put_channel words state))

-- `put N`, and `left N` before it
abbrev pub put_members : List (List ℕ) → Members
put_members words = member (codes "put") (token_data (word_at words 1)) no_members

abbrev pub left_members : List (List ℕ) → Members
left_members words = member (codes "left") (token_data (word_at words 3)) (put_members words)

-- of a channel: `put N left N capacity N`
abbrev pub sizes_data : List (List ℕ) → Data
sizes_data words = object (member (codes "capacity") (token_data (word_at words 5)) (left_members words))

-- the channel of a growth
abbrev pub channel_members : List (List ℕ) → Members
channel_members words = member (codes "channel") (string (word_at words 0)) no_members

-- a growth: `CHANNEL CAPACITY`
abbrev pub growth_data : List (List ℕ) → Data
growth_data words = object (member (codes "capacity") (token_data (word_at words 1)) (channel_members words))

abbrev pub growths_data : List (List ℕ) → Data
growths_data lines = array (items_of (map (λ line. growth_data (words_after line)) lines))

-- the first of the words names the value of the others
abbrev pub put_named : (List (List ℕ) → Data) → Members → List (List ℕ) → Members
put_named value ms [] = ms
put_named value ms (name ∷ words) = put name (value words) ms

abbrev pub named : (List (List ℕ) → Data) → List (List ℕ) → Members
named value lines = fold (λ ms line. put_named value ms (words_after line)) no_members lines

module _ (report : List (List ℕ)) where
  abbrev pub has : List ℕ → Bool
  has word = not (length (lines_of word report) == 0)

  abbrev pub text_of : List ℕ → List ℕ
  text_of word = first_text (lines_of word report)

  abbrev pub is_cycle : Bool
  is_cycle = bytes_eq (word_of (text_of (codes "verdict"))) (codes "cycle")

  -- the end and the verdict, and who waits for whom
  abbrev pub verdict_text : List ℕ
  verdict_text = if is_cycle then codes "cycle" else text_of (codes "verdict")

  abbrev pub with_verdict : Members → Members
  with_verdict ms =
      let ended = put (codes "verdict") (string verdict_text) (put (codes "end") (string (text_of (codes "end"))) ms) in
      put_if is_cycle (codes "cycle") (names_data (words_after (text_of (codes "verdict")))) ended

  -- the states of the processes
  abbrev pub states_data : Data
  states_data = object (named state_data (lines_of (codes "process") report))

  -- processes and channels, if the report has them
  abbrev pub with_places : Members → Members
  with_places ms =
      put_if (has (codes "channel")) (codes "channels") (object (named sizes_data (lines_of (codes "channel") report)))
      (put_if (has (codes "process")) (codes "processes") states_data ms)

  -- what a run that ended did
  abbrev pub with_history : Members → Members
  with_history ms =
      put_if (has (codes "entries")) (codes "streams") (object (named tokens_data (lines_of (codes "stream") report)))
      (put_if (has (codes "entries")) (codes "growths") (growths_data (lines_of (codes "grew") report))
      (put_if (has (codes "entries")) (codes "entries") (token_data (text_of (codes "entries"))) ms))

  -- the names of those who could go on
  abbrev pub active_words : List (List ℕ)
  active_words = words_after (slice_index_or (lines_of (codes "active") report) 0 [])

  -- who could go on, and the streams of a run that was cut
  abbrev pub with_rest : Members → Members
  with_rest ms =
      put_if (has (codes "prefix")) (codes "prefixes") (object (named tokens_data (lines_of (codes "prefix") report)))
      (put_if (has (codes "active")) (codes "active") (names_data active_words) ms)

  abbrev pub members : Members
  members = with_rest (with_history (with_places (with_verdict no_members)))

abbrev pub report_data : List ℕ → Data
report_data text = object (members (lines text))

-- on a line
unfoldable pub json_text : List ℕ → List ℕ
json_text report = compact_text (report_data report) ++ codes "\n"
