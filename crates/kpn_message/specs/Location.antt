-- The process or channel that has a fault of a sketch.
use Rattle.std.specs.Prelude.{◌≡◌, ℕ, ◌<◌, pos, Bool, true, false, not, ◌||◌, List, length, take, slice_get, Option, ℤ}
use Rattle.std.specs.Option.{option_map_or}
use Rattle.std.specs.List.{list_any}
use Rattle.kpn_sketch.specs.declared.fault.NetFault.{NetFault}
use Rattle.kpn_sketch.specs.declared.fault.NetFault.TheVariants.{Version, Counts, Name, Kind, Args, NoEnd, Twice, Unused, Sorts, Capacity, Budget, Tokens, Step}
use Rattle.kpn_model.specs.declared.kinds.Card.{Card}
use Rattle.kpn_model.specs.declared.kinds.Signature.{Signature}
use Rattle.kpn_sketch.specs.declared.sketch.ProcessSketch.{ProcessSketch}
use Rattle.kpn_sketch.specs.declared.sketch.ChannelSketch.{ChannelSketch}
use Rattle.kpn_sketch.specs.declared.sketch.Sketch.{Sketch}
use Rattle.kpn_message.specs.declared.location.Location.{Location}
use Rattle.kpn_message.specs.declared.location.Location.TheVariants.{Description, Process, Channel}
use Rattle.kpn_model.specs.texts.NameForm.{is_name}
use Rattle.kpn_model.specs.texts.Version.{ceiling_in}
use Rattle.kpn_net.specs.Faults.{is_outside, same_process, same_channel, same_out, same_in, has_wrong_tokens, has_unknown_kind, has_wrong_args, has_unused_port, has_fault, is_of_other_sort, is_without_end}

abbrev pub holds_at : {A : Type 0} → (A → Bool) → List A → ℕ → Bool
holds_at test xs k = option_map_or test (slice_get xs k) false

-- the test holds of an earlier item and item k
abbrev pub clashes_at : {A : Type 0} → (A → A → Bool) → List A → ℕ → Bool
clashes_at test xs k = holds_at (λ x. list_any (λ y. test y x) (take k xs)) xs k

-- k is the lowest number below the count that passes the test
pub record IsFirst (test : ℕ → Bool) (count k : ℕ) : Type 0 where
  pub within : k < count
  pub holds : test k ≡ true
  pub earlier : (j : ℕ) → j < k → test j ≡ false

abbrev pub HoldsNowhere : (ℕ → Bool) → ℕ → Type 0
HoldsNowhere test count = (k : ℕ) → k < count → test k ≡ false

-- no process or channel can have the fault
abbrev pub is_of_description : NetFault → Bool
is_of_description Version = true
is_of_description Counts = true
is_of_description Budget = true
is_of_description Step = true
is_of_description _ = false

-- the name is no name, or an earlier item has it
abbrev pub is_process_misnamed : List ProcessSketch → ℕ → Bool
is_process_misnamed items k = holds_at (λ p. not (is_name p.name)) items k || clashes_at same_process items k

abbrev pub is_channel_misnamed : List ChannelSketch → ℕ → Bool
is_channel_misnamed items k = holds_at (λ c. not (is_name c.name)) items k || clashes_at same_channel items k

-- no channel of this version may have the capacity
abbrev pub has_capacity_outside : ℤ → ChannelSketch → Bool
has_capacity_outside version c = is_outside (pos 1) (pos (ceiling_in version)) c.capacity

module _ (named : List ℕ → Option (ℕ × ℕ)) (signature : Card → Option Signature) (sketch : Sketch) where
  abbrev pub process_has_fault : NetFault → ℕ → Bool
  process_has_fault Name k = is_process_misnamed sketch.processes k
  process_has_fault Kind k = holds_at (has_unknown_kind named signature) sketch.processes k
  process_has_fault Args k = holds_at (has_wrong_args named signature) sketch.processes k
  process_has_fault Unused k = holds_at (has_unused_port named signature sketch) sketch.processes k
  process_has_fault _ k = false

  abbrev pub channel_has_fault : NetFault → ℕ → Bool
  channel_has_fault Name k = is_channel_misnamed sketch.channels k
  channel_has_fault NoEnd k = holds_at (λ c. is_without_end named signature sketch c) sketch.channels k
  channel_has_fault Twice k = clashes_at same_out sketch.channels k || clashes_at same_in sketch.channels k
  channel_has_fault Sorts k = holds_at (λ c. is_of_other_sort named signature sketch c) sketch.channels k
  channel_has_fault Capacity k = holds_at (λ c. has_capacity_outside sketch.version c) sketch.channels k
  channel_has_fault Tokens k = holds_at has_wrong_tokens sketch.channels k
  channel_has_fault _ k = false

  -- the first process, or channel, with the fault; and that none has it
  abbrev pub IsFirstProcess : NetFault → ℕ → Type 0
  IsFirstProcess fault k = IsFirst (process_has_fault fault) (length sketch.processes) k

  abbrev pub NoProcessHas : NetFault → Type 0
  NoProcessHas fault = HoldsNowhere (process_has_fault fault) (length sketch.processes)

  abbrev pub IsFirstChannel : NetFault → ℕ → Type 0
  IsFirstChannel fault k = IsFirst (channel_has_fault fault) (length sketch.channels) k

  abbrev pub NoChannelHas : NetFault → Type 0
  NoChannelHas fault = HoldsNowhere (channel_has_fault fault) (length sketch.channels)

  -- the first process with the fault; else the first channel; else the description as a whole
  abbrev pub IsLocation : NetFault → Location → Type 0
  IsLocation fault (Process k) = IsFirstProcess fault k
  IsLocation fault (Channel k) = NoProcessHas fault × IsFirstChannel fault k
  IsLocation fault Description =
      NoProcessHas fault × NoChannelHas fault
      × (has_fault named signature sketch fault ≡ true → is_of_description fault ≡ true)
