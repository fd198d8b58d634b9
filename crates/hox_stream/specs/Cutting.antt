-- Text that arrives in pieces, cut into records.
use Rattle.std.specs.Prelude.{◌≡◌, ◌<◌, ◌≤◌, ◌+◌, ◌++◌, ℕ, Bool, true, List, [], length, drop, nat_le, Option, Some, None}
use Rattle.std.specs.List.{list_any}
use Rattle.kpn_model.specs.declared.token.Token.{Token}
use Rattle.kpn_model.specs.declared.token.Sort.{Sort}
use Rattle.kpn_model.specs.Valid.{IsOfSort}
use Rattle.kpn_tokens.specs.declared.layouts.Layout.{Layout}
use Rattle.kpn_tokens.specs.declared.layouts.Layout.TheVariants.{Lines, Fields, Frames}
use Rattle.kpn_tokens.specs.declared.layouts.RecordFault.{RecordFault}
use Rattle.kpn_tokens.specs.Records.{Begin, Fails, FirstFails, FirstSays, IsEnded, IsWhole, Say, first, rest}
use Rattle.kpn_tokens.specs.Rows.{is_line_feed}
use Rattle.kpn_tokens.specs.Samples.{frame_size}
use Rattle.hox_stream.specs.declared.cutting.Refusal.{Refusal}
use Rattle.hox_stream.specs.declared.cutting.Refusal.TheVariants.{Fault, TooLong}
use Rattle.hox_stream.specs.declared.cutting.FirstRecord.{FirstRecord}
use Rattle.hox_stream.specs.declared.cutting.FirstToken.{FirstToken}
use Rattle.hox_stream.specs.declared.cutting.FirstRecord.TheVariants.{Record, Refused, Wanting, Memory}

-- whether the first record is complete
abbrev pub has_record : Layout → List ℕ → Bool
has_record (Lines decimals) bytes = list_any is_line_feed bytes
has_record (Fields column) bytes = list_any is_line_feed bytes
has_record (Frames frame) bytes = nat_le (frame_size frame) (length bytes)

-- why the first record is rejected
abbrev pub IsRefused : Layout → Sort → List ℕ → Bool → Refusal → Type 0
IsRefused layout sort bytes last (Fault fault) =
    FirstFails layout sort bytes fault × (0 < length bytes) × IsWhole layout bytes last
IsRefused layout sort bytes last TooLong = 4096 < length (first layout bytes)

-- what these bytes begin with: a record, a rejected one, or no record yet; or out of memory
abbrev pub IsFirstRecord : Layout → Sort → List ℕ → Bool → FirstRecord → Type 0
IsFirstRecord layout sort bytes last (Record said used) =
    FirstSays layout sort bytes said × (0 < length bytes) × (drop used bytes ≡ rest layout bytes)
    × (used ≤ length bytes) × IsWhole layout bytes last × (length (first layout bytes) ≤ 4096)
IsFirstRecord layout sort bytes last (Refused refusal) = IsRefused layout sort bytes last refusal
IsFirstRecord layout sort bytes last Wanting =
    (IsEnded layout bytes → ⊥) × (length bytes ≤ 4096) × (last ≡ true → bytes ≡ [])
IsFirstRecord layout sort bytes last Memory = 0 < length bytes

-- the first record has this token, of the sort, and this many bytes, whatever comes after it
pub record IsFirstToken (layout : Layout) (sort : Sort) (bytes : List ℕ) (told : FirstToken) : Type 0 where
  pub next : (last : Bool) → IsFirstRecord layout sort bytes last (Record (Some told.token) told.used)
  pub sorted : IsOfSort sort told.token

-- the first `records` records of a text are these tokens, and `left` follows them
pub record Leads (layout : Layout) (sort : Sort) (text left : List ℕ) (tokens : List Token) (records : ℕ) : Type 0 where
  pub says : (more : List Token) → Say layout sort left more → Say layout sort text (tokens ++ more)
  pub begins : (more : List Token) → Begin layout sort left more → Begin layout sort text (tokens ++ more)
  pub fails : (number : ℕ) (fault : RecordFault) → Fails layout sort left number fault
      → Fails layout sort text (records + number) fault

-- the text leads to what is left, if the text is known
abbrev pub Passes : Layout → Sort → Option (List ℕ) → Option (List ℕ) → List Token → ℕ → Type 0
Passes layout sort None left tokens records = Unit {0}
Passes layout sort (Some text) None tokens records = ⊥
Passes layout sort (Some text) (Some left) tokens records = Leads layout sort text left tokens records
