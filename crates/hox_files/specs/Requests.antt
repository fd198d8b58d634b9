-- A command's request, and the files read for it.
use Rattle.std.specs.Prelude.{◌≡◌, ◌==◌, ◌&&◌, ◌<◌, ◌⊎◌, not, ℕ, codes, Bool, false, true, List, length, map, Option, Some, IfSome, Result, Ok, Err}
use Rattle.std.specs.List.{AllZip, Any}
use Rattle.kpn_model.specs.Network.{Network}
use Rattle.hox_network.specs.declared.reading.TheConstants.{LONGEST_FILE}
use Rattle.hox_network.specs.declared.request.Fault.{Fault}
use Rattle.hox_network.specs.declared.request.Request.{Request}
use Rattle.hox_network.specs.declared.request.StreamAs.{StreamAs}
use Rattle.hox_network.specs.declared.request.TokenFile.{TokenFile}
use Rattle.hox_network.specs.Preparing.{Serves}
use Rattle.kpn_tokens.specs.declared.layouts.Decimals.{Decimals}
use Rattle.kpn_tokens.specs.declared.layouts.Layout.{Layout}
use Rattle.hox_format.specs.declared.records.Records.{Records}
use Rattle.hox_format.specs.declared.records.HeadFault.{HeadFault}
use Rattle.hox_format.specs.Records.{IsRecordsResult, records_bytes}
use Rattle.hox_format.specs.Forms.{form}
use Rattle.hox_format.specs.Heads.{layout_of}
use Rattle.hox_files.specs.declared.files.FileSystem.{Ghosts as FileSystemOf}
use Rattle.hox_files.specs.declared.formats.FormatStop.{FormatStop}
use Rattle.hox_files.specs.declared.formats.FormatStop.TheVariants.{Alone, Head, NoUse, Twice, Unknown, Unlike}
use Rattle.hox_files.specs.declared.pairs.Pair.{Pair}
use Rattle.hox_files.specs.declared.reading.Asked.{Asked}
use Rattle.hox_files.specs.declared.reading.ReadError.{ReadError}
use Rattle.hox_files.specs.declared.reading.ReadError.TheVariants.{Failed, TooLong, Memory as NoMemory}
use Rattle.hox_files.specs.declared.reading.CommandOptions.{CommandOptions}
use Rattle.hox_files.specs.declared.stops.Stop.{Stop}
use Rattle.hox_files.specs.declared.stops.Stop.TheVariants.{Clash, Format, InputTwice, Memory, NoPair, Refused, Unread, Words}
use Rattle.hox_files.specs.declared.uses.Role.TheVariants.{Tokens}
use Rattle.hox_files.specs.Formats.{is_named}
use Rattle.hox_files.specs.Pairs.{ArePairs, AreUsable, IsUnpaired, IsUnusable, count_standard, firsts, is_named_twice}
use Rattle.hox_files.specs.Uses.{AreApart, IsMisuse, Used, uses_in}
use Rattle.std.specs.Borrow.{Bor}
use Rattle.kpn_front.specs.Names.{KindNames, Signatures}
use Rattle.hox_files.specs.declared.uses.Use.{Use}
use Rattle.hox_files.specs.Files.{Clashing, Contents, texts_in}

-- what a command wants, as contracts see it
pub record Want : Type 0 where
  pub file : List ℕ
  pub workers : ℕ
  pub budget : Option ℕ
  pub show : List (List ℕ)
  pub formats : List (List ℕ)
  pub unsigned : List (List ℕ)
  pub is_quiet : Bool
  pub is_json : Bool

abbrev pub want_of : CommandOptions → Want
want_of wanted = record {
  file = wanted.file.now;
  workers = wanted.workers;
  budget = wanted.budget;
  show = texts_in wanted.show.now;
  formats = texts_in wanted.formats.now;
  unsigned = texts_in wanted.unsigned.now;
  is_quiet = wanted.is_quiet;
  is_json = wanted.is_json;
}

-- a report goes to standard output, unless the command is quiet, or a stream goes there
abbrev pub is_told : Bool → List Pair → Bool
is_told is_quiet outputs = not is_quiet && (count_standard outputs == 0)

-- the uses of files in a request
abbrev pub uses_asked : Want → List Pair → List Pair → List Used
uses_asked want tokens outputs = uses_in Tokens want.file tokens (firsts outputs) (is_told want.is_quiet outputs)

-- why reading a file failed; these are its bytes, if known
abbrev pub IsErrorIn : Option (List ℕ) → ReadError → Type 0
IsErrorIn known (Failed error) = Unit {0}
IsErrorIn known TooLong = IfSome known (λ bytes. LONGEST_FILE < length bytes)
IsErrorIn known NoMemory = Unit {0}

abbrev pub plain_decimals : Bool → Decimals
plain_decimals is_unsigned = record { digits = 0; is_unsigned = is_unsigned }

abbrev pub shown_as : List (List ℕ) → List ℕ → StreamAs Decimals
shown_as unsigned channel = record { channel = channel; written = plain_decimals (is_named unsigned channel) }

abbrev pub written_as : Pair → StreamAs Layout
written_as pair = record { channel = pair.channel.now; written = layout_of (form pair.format) }

-- the request besides tokens
pub record AsksRest (want : Want) (outputs : List Pair) (request : Request) : Type 0 where
  pub workers : request.workers ≡ want.workers
  pub budget : request.budget ≡ want.budget
  pub show : request.show ≡ map (shown_as want.unsigned) want.show
  pub outputs_are : request.outputs ≡ map written_as outputs

-- the records for the pair's channel among these bytes, or what is wrong before them
abbrev pub IsReadFrom : Pair → List ℕ → Result (Option Records) HeadFault → Type 0
IsReadFrom pair bytes result = IsRecordsResult (form pair.format) pair.place pair.count bytes true result

-- a channel's file with these records of its bytes
abbrev pub file_with : List ℕ → Records → List ℕ → TokenFile
file_with channel records bytes = record {
  channel = channel;
  layout = records.layout;
  bytes = records_bytes records bytes;
  rate = records.rate;
}

-- the tokens of a channel are the records of its file
pub record IsFileOf (pair : Pair) (bytes : List ℕ) (file : TokenFile) : Type 0 where
  pub channel : file.channel ≡ pair.channel.now
  pub records : Records
  pub told : IsReadFrom pair bytes (Ok (Some records))
  pub layout : file.layout ≡ records.layout
  pub bytes_are : file.bytes ≡ records_bytes records bytes
  pub rate : file.rate ≡ records.rate

-- what precedes its tokens is faulty, or out of memory
abbrev pub IsHeadFault : Pair → List ℕ → FormatStop → Type 0
IsHeadFault pair bytes (Head file fault) = (file.now ≡ pair.file.now) × IsReadFrom pair bytes (Err fault)
IsHeadFault pair bytes (Unknown fault) = ⊥
IsHeadFault pair bytes (NoUse channel) = ⊥
IsHeadFault pair bytes (Twice channel) = ⊥
IsHeadFault pair bytes (Alone file) = ⊥
IsHeadFault pair bytes (Unlike file channel) = ⊥

abbrev pub IsNoFileOf : Pair → List ℕ → Stop → Type 0
IsNoFileOf pair bytes (Format stop) = IsHeadFault pair bytes stop
IsNoFileOf pair bytes Memory = Unit {0}
IsNoFileOf pair bytes (NoPair option text) = ⊥
IsNoFileOf pair bytes InputTwice = ⊥
IsNoFileOf pair bytes (Clash one other) = ⊥
IsNoFileOf pair bytes (Unread file error) = ⊥
IsNoFileOf pair bytes (Refused refusal) = ⊥
IsNoFileOf pair bytes (Words fault) = ⊥

-- the contents of each file, if known
module _ (contents : Contents) where
  abbrev pub AreBytesOf : Pair → List ℕ → Type 0
  AreBytesOf pair bytes = IfSome (contents pair.file.now) (λ known. bytes ≡ known)

  -- the tokens of a channel are those of its file
  abbrev pub IsRead : Pair → TokenFile → Type 0
  IsRead pair file = (bytes : List ℕ) × AreBytesOf pair bytes × IsFileOf pair bytes file

  -- the request, with the contents of the token files
  pub record IsRequest (want : Want) (tokens outputs : List Pair) (request : Request) : Type 0 where
    pub files : AllZip IsRead tokens request.tokens
    pub rest : AsksRest want outputs request

  abbrev pub IsReadError : List ℕ → ReadError → Type 0
  IsReadError name error = IsErrorIn (contents name) error

  abbrev pub IsHeadless : List Pair → FormatStop → Type 0
  IsHeadless pairs stop = Any (λ p. (bytes : List ℕ) × AreBytesOf p bytes × IsHeadFault p bytes stop) pairs

  -- some pair's file can't be read or is faulty before its tokens; or out of memory
  abbrev pub IsUnfetched : List Pair → Stop → Type 0
  IsUnfetched pairs (Unread file error) = Any (λ (p : Pair). p.file.now ≡ file.now) pairs × IsReadError file.now error
  IsUnfetched pairs (Format stop) = IsHeadless pairs stop
  IsUnfetched pairs Memory = Unit {0}
  IsUnfetched pairs (NoPair option text) = ⊥
  IsUnfetched pairs InputTwice = ⊥
  IsUnfetched pairs (Clash one other) = ⊥
  IsUnfetched pairs (Refused refusal) = ⊥
  IsUnfetched pairs (Words fault) = ⊥

  -- whether two names, each written or else read, can't be used together, if known
  module _ (clash : Clashing) (want : Want) (token_texts output_texts : List (List ℕ)) where
    -- the texts name channels and files, standard input at most once, no uses clash, and this is the request
    pub record IsAsked (asked : Asked) : Type 0 where
      pub tokens : ArePairs want.formats want.unsigned token_texts asked.tokens.items
      pub outputs : ArePairs want.formats want.unsigned output_texts asked.outputs.items
      pub formats : AreUsable asked.tokens.items asked.outputs.items want.formats
      pub once : is_named_twice want.file asked.tokens.items ≡ false
      pub apart : AreApart clash (uses_asked want asked.tokens.items asked.outputs.items)
      pub request : IsRequest want asked.tokens.items asked.outputs.items asked.request

    -- the texts of tokens name these pairs
    abbrev AreTokens : List Pair → Type 0
    AreTokens tokens = ArePairs want.formats want.unsigned token_texts tokens

    -- the texts of outputs name these
    abbrev AreOutputs : List Pair → Type 0
    AreOutputs outputs = ArePairs want.formats want.unsigned output_texts outputs

    -- the formats wanted don't fit these pairs
    abbrev AreUnusable : List Pair → List Pair → Stop → Type 0
    AreUnusable tokens outputs stop = IsUnusable want.formats tokens outputs stop

    -- some file of tokens is faulty before them
    abbrev HasHeadless : FormatStop → Type 0
    HasHeadless stop = (tokens : List Pair) × AreTokens tokens × IsHeadless tokens stop

    -- these two of the uses asked for clash
    abbrev DoClash : List Pair → List Pair → Use → Use → Type 0
    DoClash tokens outputs one other = IsMisuse clash (uses_asked want tokens outputs) (Clash one other)

    -- a text names no file, or a text on formats is none or of no use
    abbrev pub AreUnpaired : Stop → Type 0
    AreUnpaired stop =
        IsUnpaired want.formats want.unsigned (codes "tokens") token_texts stop
        ⊎ (IsUnpaired want.formats want.unsigned (codes "out") output_texts stop
        ⊎ ((tokens outputs : List Pair) × AreTokens tokens × AreOutputs outputs × AreUnusable tokens outputs stop))

    -- why there is no request, for each fault
    abbrev pub IsUnasked : Stop → Type 0
    IsUnasked (NoPair option text) = AreUnpaired (NoPair option text)
    IsUnasked (Format stop) = AreUnpaired (Format stop) ⊎ HasHeadless stop
    IsUnasked InputTwice = (tokens : List Pair) × AreTokens tokens × (is_named_twice want.file tokens ≡ true)
    IsUnasked (Clash one other) =
        (tokens outputs : List Pair) × AreTokens tokens × AreOutputs outputs × DoClash tokens outputs one other
    IsUnasked (Unread file error) = (tokens : List Pair) × AreTokens tokens × IsUnfetched tokens (Unread file error)
    IsUnasked Memory = Unit {0}
    IsUnasked (Refused refusal) = ⊥
    IsUnasked (Words fault) = ⊥

  module _ {X : Type 0} (named : KindNames) (signature : Signatures) (gives : Network → Result X Fault → Type 0) where
    -- the description in a file is read, with this result
    pub record ServesFile (name : List ℕ) (result : Result X Fault) : Type 0 where
      pub has_failed : Bool
      pub serves : Serves named signature gives (contents name) false has_failed result

-- the options, the texts of tokens and the texts of outputs, as they are given
module _ {S I O : Type 0} (system : FileSystemOf S I O) (files : S) (wanted : CommandOptions) where
  -- this is what they ask of these files
  abbrev pub AsksFor : List (Bor (List ℕ)) → List (Bor (List ℕ)) → Asked → Type 0
  AsksFor tokens outputs asked =
      IsAsked (system.contents files) (system.clash files) (want_of wanted) (texts_in tokens) (texts_in outputs) asked

  -- there is no request, for this reason
  abbrev pub AsksInVain : List (Bor (List ℕ)) → List (Bor (List ℕ)) → Stop → Type 0
  AsksInVain tokens outputs stop =
      IsUnasked (system.contents files) (system.clash files) (want_of wanted) (texts_in tokens) (texts_in outputs) stop
