-- Files opened at their records.
use Rattle.std.specs.Prelude.{◌≡◌, ℕ, Bool, true, List, drop, length, take, Option, Some, IfSome, option_map, Ok, Err, false}
use Rattle.std.specs.Io.KnownBytes.{Consumes, IsAtEnd, prepend_known}
use Rattle.kpn_tokens.specs.declared.layouts.Layout.{Layout}
use Rattle.hox_format.specs.declared.records.Records.{Records}
use Rattle.hox_format.specs.declared.resumed.Resumed.{Resumed}
use Rattle.hox_format.specs.declared.resuming.Begun.{Begun}
use Rattle.hox_format.specs.declared.resuming.Front.{Front}
use Rattle.hox_format.specs.declared.resuming.BeginFault.{BeginFault}
use Rattle.hox_format.specs.declared.resuming.BeginFault.TheVariants.{Head, Memory, Unread}
use Rattle.hox_format.specs.Records.{IsRecordsResult, records_bytes, sized}
use Rattle.hox_format.specs.Forms.{Form}

-- what is left to read of a file: the held bytes, then the source, up to a size
abbrev pub left_in : Option ℕ → List ℕ → Option (List ℕ) → Option (List ℕ)
left_in size held remaining = option_map (sized size) (prepend_known held remaining)

abbrev pub left_of : {X : Type 0} → (X → Option (List ℕ)) → Resumed X → Option (List ℕ)
left_of remaining r = left_in r.left (drop r.next r.held.items) (remaining r.source)

abbrev pub source_of : {X : Type 0} → Resumed X → X
source_of r = r.source

abbrev pub resumed_has_failed : {X : Type 0} → (X → Bool) → Resumed X → Bool
resumed_has_failed has_failed r = has_failed r.source

-- some bytes begin a file, or are all of it
pub record IsFront (front bytes : List ℕ) (last : Bool) : Type 0 where
  pub begins : take (length front) bytes ≡ front
  pub ends : last ≡ true → front ≡ bytes

-- and so do these, if that file is known
abbrev pub IsFrontIfKnown : Option (List ℕ) → List ℕ → Bool → Type 0
IsFrontIfKnown known front last = IfSome known (λ bytes. IsFront front bytes last)

module _ (form : Form) (place count : ℕ) (known : Option (List ℕ)) where
  -- the first bytes of a file determine where its records are, their layout and the samples per second. All
  -- that is left are these records
  pub record IsBegun (layout : Layout) (rate : Option ℕ) (left : Option (List ℕ)) : Type 0 where
    pub front : List ℕ
    pub last : Bool
    pub records : Records
    pub tells : IsRecordsResult form place count front last (Ok (Some records))
    pub fronts : IsFrontIfKnown known front last
    pub layout_is : layout ≡ records.layout
    pub rate_is : rate ≡ records.rate
    pub left_is : IfSome known (λ bytes. left ≡ Some (records_bytes records bytes))

-- why a file was not opened: its first bytes determine a fault before its records; or a read failed, or out of memory
abbrev pub IsUnbegun : Form → ℕ → ℕ → Option (List ℕ) → BeginFault → Type 0
IsUnbegun form place count known (Head fault) =
    (front : List ℕ) × (last : Bool) × IsRecordsResult form place count front last (Err fault)
    × IsFrontIfKnown known front last
IsUnbegun form place count known (Unread error) = Unit {0}
IsUnbegun form place count known Memory = Unit {0}

-- the cause was not what precedes its records
abbrev pub IsNoHead : BeginFault → Type 0
IsNoHead (Head fault) = ⊥
IsNoHead (Unread error) = Unit {0}
IsNoHead Memory = Unit {0}

-- a partly read file: what was read of it, and whether no more comes
pub record IsFrontOf (known : Option (List ℕ)) (held : List ℕ) (last : Bool) (left : Option (List ℕ)) : Type 0 where
  pub read : Consumes known left held
  pub ends : last ≡ true → IsAtEnd left

-- what is left of the records, of what is held and what remains
abbrev pub left_after : Records → List ℕ → Option (List ℕ) → Option (List ℕ)
left_after records held remaining = left_in records.size (drop records.start held) remaining

module _ {X : Type 0} (remaining : X → Option (List ℕ)) where
  -- the source is opened at these records
  abbrev pub IsBegunBy : Form → ℕ → ℕ → X → Begun (Resumed X) → Type 0
  IsBegunBy form place count source b =
      IsBegun form place count (remaining source) b.layout b.rate (left_of remaining b.source)

  -- of a file that is known: what was read of it, and whether no more comes
  abbrev pub IsFrontIn : Option (List ℕ) → Front X → Type 0
  IsFrontIn known front = IsFrontOf known front.held.items front.is_last (remaining front.source)

  -- it stays so
  abbrev pub StaysFront : Front X → Front X → Type 0
  StaysFront before after = (known : Option (List ℕ)) → IsFrontIn known before → IsFrontIn known after

-- no read has failed
abbrev pub HasNotFailed : {X : Type 0} → (X → Bool) → Begun (Resumed X) → Type 0
HasNotFailed has_failed b = resumed_has_failed has_failed b.source ≡ false
