-- Arguments of the form CHANNEL=FILE.
use Rattle.std.specs.Prelude.{◌≡◌, ◌≢◌, ◌<◌, ◌==◌, ◌&&◌, ◌||◌, ◌⊎◌, ◌++◌, ℕ, suc, Bool, true, false, not, codes, is_none, length, get_or, List, [], ◌∷◌, map, count_by, nat_lt, take, if◌then◌else◌, Option, Some, None, Ok}
use Rattle.std.specs.List.{All, AllZip, Any, Contains, after_first, before_first, filter, flat_map, list_any}
use Rattle.std.specs.Str.{bytes_eq}
use Rattle.hox_format.specs.declared.tables.Shared.{Shared}
use Rattle.hox_format.specs.Forms.{Form, form}
use Rattle.hox_format.specs.Saying.{format_said, pieces}
use Rattle.hox_format.specs.Tables.{shared_by}
use Rattle.hox_files.specs.declared.formats.FormatStop.{FormatStop}
use Rattle.hox_files.specs.declared.formats.FormatStop.TheVariants.{Alone, Head, NoUse, Twice, Unknown, Unlike}
use Rattle.hox_files.specs.declared.pairs.Pair.{Pair}
use Rattle.hox_files.specs.declared.stops.Stop.{Stop}
use Rattle.hox_files.specs.declared.stops.Stop.TheVariants.{Clash, Format, InputTwice, Memory, NoPair, Refused, Unread, Words}
use Rattle.hox_files.specs.Files.{standard, texts_in}
use Rattle.hox_files.specs.Formats.{HasEquals, IsForm, IsNoFormat, all_channels, format_texts, is_equals, named_channel, named_twice, unsigned_names}
use Rattle.hox_files.specs.declared.formats.Formats.{Formats}
use Rattle.std.specs.Borrow.{Bor}

-- a channel in a text CHANNEL,..=FILE: the file, its place among the channels, and their number
pub record Part : Type 0 where
  pub channel : List ℕ
  pub file : List ℕ
  pub place : ℕ
  pub count : ℕ

abbrev pub part_at : List ℕ → ℕ → ℕ → List ℕ → Part
part_at file count place name = record { channel = name; file = file; place = place; count = count }

abbrev pub parts_from : List ℕ → ℕ → ℕ → List (List ℕ) → List Part
parts_from file count place [] = []
parts_from file count place (name ∷ names) = part_at file count place name ∷ parts_from file count (suc place) names

-- the channels come before the first `=`, separated by commas, and the file after it
abbrev pub names_in : List ℕ → List (List ℕ)
names_in text = pieces (before_first is_equals text)

-- the file given for each of these channels
abbrev pub parts_named : List ℕ → List (Bor (List ℕ)) → List Part
parts_named file names = parts_from file (length names) 0 (texts_in names)

abbrev pub parts : List ℕ → List Part
parts text = parts_from (after_first is_equals text) (length (names_in text)) 0 (names_in text)

-- a channel, its file and the file's format, by these texts and the names of the unsigned channels
pub record IsPair (texts unsigned : List (List ℕ)) (part : Part) (pair : Pair) : Type 0 where
  pub channel : pair.channel.now ≡ part.channel
  pub file : pair.file.now ≡ part.file
  pub place : pair.place ≡ part.place
  pub count : pair.count ≡ part.count
  pub format : IsForm texts unsigned pair.channel.now pair.file.now (form pair.format)

-- a pair by these formats
abbrev pub IsPairBy : Formats → Part → Pair → Type 0
IsPairBy formats part pair = IsPair (format_texts formats) (unsigned_names formats) part pair

-- the file is given for this channel alone
abbrev pub is_alone : Pair → Bool
is_alone pair = pair.count == 1

abbrev pub shared_in : Pair → Option Shared
shared_in pair = shared_by (form pair.format) pair.count

-- the file is given for several channels, but its format is for one
abbrev pub is_single : Pair → Bool
is_single pair = not (is_alone pair) && is_none (shared_in pair)

-- the formats of a channel and the one before it in its file differ
pub record IsUnlike (last pair : Pair) : Type 0 where
  pub later : 0 < pair.place
  pub other : shared_in pair ≢ shared_in last

abbrev pub AreShared : List Pair → Type 0
AreShared pairs = All (λ p. is_single p ≡ false) pairs

module _ (pairs : List Pair) (file channel : List ℕ) where
  -- item k, if there is one, is this pair
  abbrev IsAt : ℕ → Pair → Type 0
  IsAt k pair = get_or pairs k pair ≡ pair

  -- the pair has this file and channel, and its format differs from that of the one before it
  abbrev IsOther : Pair → Pair → Type 0
  IsOther last pair = (pair.file.now ≡ file) × (pair.channel.now ≡ channel) × IsUnlike last pair

  -- items k and k + 1 are such pairs
  abbrev AreUnlikeAt : ℕ → Pair → Pair → Type 0
  AreUnlikeAt k last pair = IsAt k last × IsAt (suc k) pair × (suc k < length pairs) × IsOther last pair

  -- some items are
  abbrev HasUnlike : Type 0
  HasUnlike = (k : ℕ) × (last pair : Pair) × AreUnlikeAt k last pair

-- some file of several channels has a format for one, or its formats differ
abbrev pub IsUnshared : List Pair → FormatStop → Type 0
IsUnshared pairs (Alone file) = Any (λ p. (p.file.now ≡ file.now) × (is_single p ≡ true)) pairs
IsUnshared pairs (Unlike file channel) = HasUnlike pairs file.now channel.now
IsUnshared pairs (Unknown fault) = ⊥
IsUnshared pairs (NoUse channel) = ⊥
IsUnshared pairs (Twice channel) = ⊥
IsUnshared pairs (Head file fault) = ⊥

-- each text has an `=`, and these are the pairs of its channels, in order
pub record AreSaid (formats unsigned texts : List (List ℕ)) (pairs : List Pair) : Type 0 where
  pub said : All HasEquals texts
  pub each : AllZip (IsPair formats unsigned) (flat_map parts texts) pairs

-- and their files can have these channels
pub record ArePairs (formats unsigned texts : List (List ℕ)) (pairs : List Pair) : Type 0 where
  pub said : AreSaid formats unsigned texts pairs
  pub shared : AreShared pairs

-- these are the pairs by these formats
abbrev pub ArePairsBy : Formats → List (List ℕ) → List Pair → Type 0
ArePairsBy formats texts pairs = ArePairs (format_texts formats) (unsigned_names formats) texts pairs

abbrev pub IsNoPair : List ℕ → List (List ℕ) → List ℕ → List ℕ → Type 0
IsNoPair name texts option text = (option ≡ name) × Contains texts text × (HasEquals text → ⊥)

abbrev pub IsUnsaid : List (List ℕ) → List ℕ → List (List ℕ) → Stop → Type 0
IsUnsaid formats name texts (NoPair option text) = IsNoPair name texts option.now text.now
IsUnsaid formats name texts (Format stop) = IsNoFormat formats stop
IsUnsaid formats name texts Memory = Unit {0}
IsUnsaid formats name texts InputTwice = ⊥
IsUnsaid formats name texts (Clash one other) = ⊥
IsUnsaid formats name texts (Unread file error) = ⊥
IsUnsaid formats name texts (Refused refusal) = ⊥
IsUnsaid formats name texts (Words fault) = ⊥

-- why the texts say no pairs, by these formats
abbrev pub UnsaidBy : Formats → List ℕ → List (List ℕ) → Stop → Type 0
UnsaidBy formats name texts stop = IsUnsaid (format_texts formats) name texts stop

module _ (formats unsigned texts : List (List ℕ)) where
  -- the texts say pairs, but some file can't have its channels
  abbrev HasUnshared : FormatStop → Type 0
  HasUnshared stop = (pairs : List Pair) × AreSaid formats unsigned texts pairs × IsUnshared pairs stop

-- why the texts name no pairs: they say none, or a file can't have its channels
abbrev pub IsUnpaired : List (List ℕ) → List (List ℕ) → List ℕ → List (List ℕ) → Stop → Type 0
IsUnpaired formats unsigned name texts (NoPair option text) = IsNoPair name texts option.now text.now
IsUnpaired formats unsigned name texts (Format stop) = IsNoFormat formats stop ⊎ HasUnshared formats unsigned texts stop
IsUnpaired formats unsigned name texts Memory = Unit {0}
IsUnpaired formats unsigned name texts InputTwice = ⊥
IsUnpaired formats unsigned name texts (Clash one other) = ⊥
IsUnpaired formats unsigned name texts (Unread file error) = ⊥
IsUnpaired formats unsigned name texts (Refused refusal) = ⊥
IsUnpaired formats unsigned name texts (Words fault) = ⊥

-- why these texts name no pairs, by these formats
abbrev pub IsUnpairedBy : Formats → List ℕ → List (List ℕ) → Stop → Type 0
IsUnpairedBy formats name texts stop = IsUnpaired (format_texts formats) (unsigned_names formats) name texts stop

-- the first pair of each file
abbrev pub firsts : List Pair → List Pair
firsts pairs = filter (λ (p : Pair). p.place == 0) pairs

-- the channels side by side in one file, and the first of them
pub record Group : Type 0 where
  pub first : Pair
  pub pairs : List Pair

-- the first pair, and those after it with the same file
abbrev pub group_in : List Pair → List Pair
group_in [] = []
group_in (p ∷ ps) = take p.count (p ∷ ps)

abbrev pub begins : Pair → Bool
begins pair = (pair.place == 0) && not (is_alone pair)

abbrev pub groups : List Pair → List Group
groups [] = []
groups (p ∷ ps) = if begins p then record { first = p; pairs = group_in (p ∷ ps) } ∷ groups ps else groups ps

-- files of one channel, and then those of several
abbrev pub is_grouped : Pair → Bool
is_grouped pair = not (is_alone pair)

abbrev pub in_order : List Pair → List Pair
in_order pairs = filter is_alone pairs ++ filter is_grouped pairs

abbrev pub channels_of : List Pair → List (List ℕ)
channels_of pairs = map (λ (p : Pair). p.channel.now) pairs

abbrev pub files_of : List Pair → List (List ℕ)
files_of pairs = map (λ (p : Pair). p.file.now) pairs

-- how many pairs name standard input or output
abbrev pub count_standard : List Pair → ℕ
count_standard pairs = count_by (λ (p : Pair). bytes_eq p.file.now standard) pairs

-- the description's file and the pairs name standard input more than once
abbrev pub is_named_twice : List ℕ → List Pair → Bool
is_named_twice file pairs = nat_lt (if bytes_eq file standard then 0 else 1) (count_standard pairs)

abbrev pub has_channel : List Pair → List ℕ → Bool
has_channel pairs name = list_any (λ (p : Pair). bytes_eq p.channel.now name) pairs

-- a format for this channel is of use to some pair
abbrev pub is_of_use : List Pair → List Pair → List ℕ → Bool
is_of_use inputs outputs name = (bytes_eq name all_channels || has_channel inputs name) || has_channel outputs name

-- a text is a format for a channel of these pairs or for all
pub record IsUsable (inputs outputs : List Pair) (text : List ℕ) : Type 0 where
  pub has : HasEquals text
  pub says : Form
  pub said : format_said (after_first is_equals text) ≡ Ok says
  pub of_use : is_of_use inputs outputs (before_first is_equals text) ≡ true

-- each of these texts is, and no channel is named twice
pub record AreUsable (inputs outputs : List Pair) (texts : List (List ℕ)) : Type 0 where
  pub each : All (IsUsable inputs outputs) texts
  pub once : named_twice texts ≡ None

module _ (inputs outputs : List Pair) (channel : List ℕ) where
  -- the text is for this channel, which has no file
  abbrev IsUselessText : List ℕ → Type 0
  IsUselessText text = (channel ≡ named_channel text) × (is_of_use inputs outputs channel ≡ false)

  -- one of these texts is
  abbrev HasUselessText : List (List ℕ) → Type 0
  HasUselessText texts = (text : List ℕ) × Contains texts text × IsUselessText text

-- why such texts are of no use
abbrev pub IsUseless : List (List ℕ) → List Pair → List Pair → FormatStop → Type 0
IsUseless texts inputs outputs (Unknown fault) = IsNoFormat texts (Unknown fault)
IsUseless texts inputs outputs (NoUse channel) = HasUselessText inputs outputs channel.now texts
IsUseless texts inputs outputs (Twice channel) = named_twice texts ≡ Some channel.now
IsUseless texts inputs outputs (Head file fault) = ⊥
IsUseless texts inputs outputs (Alone file) = ⊥
IsUseless texts inputs outputs (Unlike file channel) = ⊥

abbrev pub IsUnusable : List (List ℕ) → List Pair → List Pair → Stop → Type 0
IsUnusable texts inputs outputs (NoPair option text) = IsNoPair (codes "format") texts option.now text.now
IsUnusable texts inputs outputs (Format stop) = IsUseless texts inputs outputs stop
IsUnusable texts inputs outputs Memory = ⊥
IsUnusable texts inputs outputs InputTwice = ⊥
IsUnusable texts inputs outputs (Clash one other) = ⊥
IsUnusable texts inputs outputs (Unread file error) = ⊥
IsUnusable texts inputs outputs (Refused refusal) = ⊥
IsUnusable texts inputs outputs (Words fault) = ⊥
