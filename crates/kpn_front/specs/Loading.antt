-- Loading from a source of bytes.
use Rattle.std.specs.Prelude.{◌≡◌, ◌⊎◌, ◌≤◌, ◌<◌, ◌+◌, ℕ, Bool, true, false, List, [], length, Option, Some, None, IfSome, Result, Ok, Err, MatchResult}
use Rattle.std.specs.Io.KnownBytes.{Consumes}
use Rattle.kpn_sketch.specs.declared.fault.NetFault.{NetFault}
use Rattle.kpn_sketch.specs.declared.fault.NetFault.TheVariants.{NotToml, Keys, Memory, Input}
use Rattle.kpn_front.specs.declared.loading.Refused.{Refused}
use Rattle.kpn_front.specs.Names.{KindNames, Signatures}
use Rattle.kpn_sketch.specs.declared.sketch.Sketch.{Sketch}
use Rattle.kpn_sketch.specs.Description.{DescribesBy, IsFaultBy, Reader, sketch_of}
use Rattle.kpn_net.specs.Faults.{first_fault}
use Rattle.kpn_model.specs.declared.limits.TheConstants.{LONGEST_TEXT}
use Rattle.kpn_model.specs.Network.{Network}
use Rattle.kpn_net.specs.Sketched.{net_of, IsNetOfSketch, IsSketchFault}

-- how many bytes a description may have
abbrev pub longest : ℕ
longest = LONGEST_TEXT

-- at most n of the bytes that the source had left, if known, have been consumed
abbrev pub ConsumesAtMost : ℕ → Option (List ℕ) → Option (List ℕ) → Type 0
ConsumesAtMost n old new = (bytes : List ℕ) × Consumes old new bytes × (length bytes ≤ n)

abbrev pub without_text : Result Network Refused → Result Network NetFault
without_text (Ok net) = Ok net
without_text (Err refused) = Err refused.fault

-- no text comes back, since it was not read to its end
abbrev pub HasNoText : Refused → Type 0
HasNoText refused = (refused.text.items ≡ []) × ((refused.fault ≡ Input) ⊎ (refused.fault ≡ Memory))

-- the returned text is all there was, or empty if it was not read to its end
abbrev pub IsTextOf : List ℕ → Refused → Type 0
IsTextOf text refused = (refused.text.items ≡ text) ⊎ HasNoText refused

module _ (named : KindNames) (signature : Signatures) where
  -- a sketch's network or its first fault, or the fault for which there is no sketch
  abbrev pub IsChecked : Result Sketch NetFault → Result Network NetFault → Type 0
  IsChecked (Ok sketch) result =
      MatchResult result (IsNetOfSketch named signature sketch) (IsSketchFault named signature sketch)
  IsChecked (Err fault) result = result ≡ Err fault

-- no read failed, and the text is within the limit
abbrev pub IsWhole : Bool → List ℕ → Type 0
IsWhole failed text = (failed ≡ false) × (length text ≤ longest)

-- `read` reads a description, and `change` makes the sketch of it that is checked
module _ {A : Type 0} (read : Reader A) (change : A → Sketch) where
  module _ (named : KindNames) (signature : Signatures) (failed : Bool) (text : List ℕ) where
    -- this is read of the text
    abbrev pub IsDescribed : A → Type 0
    IsDescribed described = DescribesBy read text described

    -- this is the first fault of the sketch, if it has one; and this its network
    abbrev pub FaultIs : A → Option NetFault → Type 0
    FaultIs described fault = first_fault named signature (change described) ≡ fault

    abbrev pub HasNet : A → Network → Type 0
    HasNet described net = net ≡ net_of named (change described)

    -- the sketch of what the text describes has no fault, and the network is that sketch's
    abbrev pub IsNetOf : Network → Type 0
    IsNetOf net =
        IsWhole failed text × ((described : A) × IsDescribed described × FaultIs described None × HasNet described net)

    -- a read failed, the text is too long or can't be read, or the sketch of what it describes has a fault
    abbrev pub IsLoadFault : NetFault → Type 0
    IsLoadFault Memory = failed ≡ false
    IsLoadFault Input = (failed ≡ true) ⊎ (longest < length text)
    IsLoadFault NotToml = IsWhole failed text × IsFaultBy read text NotToml
    IsLoadFault Keys = IsWhole failed text × IsFaultBy read text Keys
    IsLoadFault e = IsWhole failed text × ((described : A) × IsDescribed described × FaultIs described (Some e))

    -- what is loaded from this text, given whether a read failed
    abbrev pub LoadsChanged : Result Network NetFault → Type 0
    LoadsChanged result = MatchResult result IsNetOf IsLoadFault

-- without a change of the sketch
abbrev pub Loads : KindNames → Signatures → Bool → List ℕ → Result Network NetFault → Type 0
Loads = LoadsChanged sketch_of (λ sketch. sketch)

-- a source before and after a description is read from it
module _ {S : Type 0} (is_steady has_failed : S → Bool) (remaining : S → Option (List ℕ)) (before after : S) where
  -- no read of a steady source fails
  pub record ReadsFrom : Type 0 where
    pub steady : is_steady before ≡ true → has_failed after ≡ has_failed before
    pub taken : ConsumesAtMost (longest + 1) (remaining before) (remaining after)

module _ {S : Type 0} (says : Bool → List ℕ → Result Network NetFault → Type 0) where
  module _ (is_steady has_failed : S → Bool) (remaining : S → Option (List ℕ)) where
    -- the result is what `says` tells of the source's text, if known, given whether a read failed
    pub record LoadsFrom (before after : S) (result : Result Network NetFault) : Type 0 where
      pub loads : has_failed before ≡ false → IfSome (remaining before) (λ text. says (has_failed after) text result)
      pub failed : has_failed before ≡ false → has_failed after ≡ true → result ≡ Err Input
      pub source : ReadsFrom is_steady has_failed remaining before after

module _ {S : Type 0} (named : KindNames) (signature : Signatures) where
  module _ (is_steady has_failed : S → Bool) (remaining : S → Option (List ℕ)) (before after : S) where
    -- the result is the network that the source's text describes, or why there is none, with the text
    abbrev pub LoadsNet : Result Network Refused → Type 0
    LoadsNet result =
        LoadsFrom (Loads named signature) is_steady has_failed remaining before after (without_text result)

-- the text is not too long, and all of what was left, if that is known
abbrev pub IsAllLeft : Option (List ℕ) → List ℕ → Type 0
IsAllLeft left text = (length text ≤ longest) × IfSome left (λ known. text ≡ known)

-- a read failed, or more was left than a text may have, if that is known
abbrev pub CannotBeRead : Bool → Option (List ℕ) → Type 0
CannotBeRead failed left = (failed ≡ true) ⊎ IfSome left (λ text. longest < length text)
