-- A text whose sketch is read as it is meant.
use Rattle.std.proofs.Common.{◌≡◌, ◌≢◌, ◌≤◌, ◌⊎◌, inl, inr, ap, ℕ, Bool, true, false, length, List, [], ◌∷◌, Option, Some, None, IfSome, Result, Ok, Err, IfOk, IfErr, MatchResult, refl, sym, ◌∙◌}
use Rattle.std.proofs.lemmas.Option.{same_Some}
use Rattle.std.specs.List.{AllZip}
use Rattle.kpn_model.specs.declared.kinds.Card.{Card}
use Rattle.kpn_model.specs.declared.kinds.Signature.{Signature}
use Rattle.kpn_model.specs.Network.{Network}
use Rattle.kpn_sketch.specs.declared.fault.NetFault.{NetFault}
use Rattle.kpn_sketch.specs.declared.fault.NetFault.TheVariants.{NotToml, Keys, Memory, Input}
use Rattle.kpn_sketch.specs.declared.sketch.ProcessSketch.{ProcessSketch}
use Rattle.kpn_sketch.specs.declared.sketch.Delayed.{Delayed}
use Rattle.kpn_sketch.specs.declared.sketch.Sketch.{Sketch}
use Rattle.kpn_sketch.specs.Description.{DescribesDelayed, IsDelayedFault, delayed_of}
use Rattle.kpn_net.specs.Faults.{first_fault}
use Rattle.kpn_net.specs.Sketched.{net_of}
use Rattle.kpn_front.specs.Loading.{CannotBeRead, IsChecked, IsLoadFault, LoadsChanged, LoadsFrom, ReadsFrom, longest}
use Rattle.kpn_front.proofs.Loaded.{loads_from}
use Rattle.hox_network.specs.Formulas.{IsWritten, stays, IsWrittenOut, WritesOut}
use Rattle.hox_network.specs.Meant.{IsSketchOf, LoadsMeant, as_meant}

-- a text describes one thing
pub one_description : (text : List ℕ) (d e : Delayed) → DescribesDelayed text d → DescribesDelayed text e → d ≡ e
one_description text d e one other = same_Some d e (sym one.1 ∙ other.1)

-- what was written out of what the text describes is a way to write it out
pub writes_this : (text : List ℕ) (d written : Delayed) → DescribesDelayed text d → IsWrittenOut d written → WritesOut text (λ _. written)
writes_this text d written is out = record { out = λ other describes. rw (one_description text other d describes is) out }

each_stays : (processes : List ProcessSketch) → AllZip IsWritten processes processes
each_stays [] = tt
each_stays (p ∷ ps) = (stays refl, each_stays ps)

-- nothing is written out
pub nothing_out : (text : List ℕ) → WritesOut text (λ d. d)
nothing_out text = record { out = λ d _. record { formulas = record { each = each_stays d.sketch.processes; rest = refl }; delays = refl } }

unread : (named : List ℕ → Option (ℕ × ℕ)) (signature : Card → Option Signature) (text : List ℕ) (e : NetFault) → length text ≤ longest → IsDelayedFault text e
    → IsLoadFault delayed_of (as_meant named signature text) named signature false text e
unread named signature text NotToml short is = ((refl, short), is)
unread named signature text Keys short is = ((refl, short), is)
unread named signature text Memory short is = refl
unread named signature text _ short is = absurd is

-- what is loaded with nothing written out
pub loads_unread : (named : List ℕ → Option (ℕ × ℕ)) (signature : Card → Option Signature) (failed : Bool) (text : List ℕ) (r : Result Network NetFault)
    → LoadsChanged delayed_of (as_meant named signature text) named signature failed text r → LoadsMeant named signature failed text r
loads_unread named signature failed text r h = record { write = λ d. d; out = nothing_out text; loads = h }

-- the fault of a text of which nothing is read, if it is not too long
pub unread_fault : (named : List ℕ → Option (ℕ × ℕ)) (signature : Card → Option Signature) (text : List ℕ) (e : NetFault) → length text ≤ longest → IsDelayedFault text e
    → LoadsMeant named signature false text (Err e)
unread_fault named signature text e short is = loads_unread named signature false text (Err e) (unread named signature text e short is)

-- the network of the sketch that a text means, or the fault of that, is what is loaded of the text
pub loads_sketch :
    (named : List ℕ → Option (ℕ × ℕ)) (signature : Card → Option Signature) (text : List ℕ) (sketch : Sketch) (r : Result Network NetFault) → length text ≤ longest → IsSketchOf named signature text sketch
    → IfOk r (λ n. (first_fault named signature sketch ≡ None) × (n ≡ net_of named sketch)) → IfErr r (λ e. e ≢ Memory → first_fault named signature sketch ≡ Some e) → LoadsMeant named signature false text r
loads_sketch named signature text sketch r short of_text ok fault =
    record {
      write = λ _. of_text.written;
      out = writes_this text of_text.described of_text.written of_text.describes of_text.out;
      loads = loads_from named signature delayed_of (λ _. as_meant named signature text of_text.written) false text of_text.described r
          (refl, short) of_text.describes (rw of_text.meant at ok) (rw of_text.meant at fault);
    }

-- what is made of the sketch that a text means, or of its fault, is loaded
pub loads_checked :
    (named : List ℕ → Option (ℕ × ℕ)) (signature : Card → Option Signature) (text : List ℕ) (found : Result Sketch NetFault) (r : Result Network NetFault) → length text ≤ longest
    → MatchResult found (IsSketchOf named signature text) (IsDelayedFault text) → IsChecked named signature found r → LoadsMeant named signature false text r
loads_checked named signature text (Ok sketch) (Ok n) short of_text checked = loads_sketch named signature text sketch (Ok n) short of_text checked tt
loads_checked named signature text (Ok sketch) (Err e) short of_text checked = loads_sketch named signature text sketch (Err e) short of_text tt checked
loads_checked named signature text (Err e) r short is checked = rw checked (unread_fault named signature text e short is)

-- whatever the source had left, if known
pub known_unread : (named : List ℕ → Option (ℕ × ℕ)) (signature : Card → Option Signature) (failed : Bool) (known : Option (List ℕ)) (r : Result Network NetFault)
    → IfSome known (λ text. LoadsChanged delayed_of (as_meant named signature text) named signature failed text r) → IfSome known (λ text. LoadsMeant named signature failed text r)
known_unread named signature failed None r h = tt
known_unread named signature failed (Some text) r h = loads_unread named signature failed text r h

module _ (named : List ℕ → Option (ℕ × ℕ)) (signature : Card → Option Signature) (failed : Bool) where
  -- a text that can't be read is refused for that
  unreadable : (known : Option (List ℕ)) → CannotBeRead failed known → IfSome known (λ text. LoadsMeant named signature failed text (Err Input))
  unreadable None cannot = tt
  unreadable (Some text) cannot = loads_unread named signature failed text (Err Input) cannot

  -- or memory was refused
  unremembered : (known : Option (List ℕ)) → failed ≡ false → IfSome known (λ text. LoadsMeant named signature failed text (Err Memory))
  unremembered None unfailed = tt
  unremembered (Some text) unfailed = loads_unread named signature failed text (Err Memory) unfailed

-- a result has one fault
pub same_fault : {T : Type 0} (r : Result T NetFault) (e f : NetFault) → r ≡ Err e → r ≡ Err f → e ≡ f
same_fault (Ok x) e f one other = cc
same_fault (Err x) e f one other =
    let same : x ≡ e = cc in
    let also : x ≡ f = cc in
    sym same ∙ also

-- the fault of a source that could not be read to its end is loaded of it
pub unread_source :
    {S : Type 0} (named : List ℕ → Option (ℕ × ℕ)) (signature : Card → Option Signature) (is_steady has_failed : S → Bool) (remaining : S → Option (List ℕ)) (before after : S) (e : NetFault)
    → (e ≡ Input → CannotBeRead (has_failed after) (remaining before)) → (e ≡ Input) ⊎ (e ≡ Memory) → (e ≢ Input → has_failed after ≡ has_failed before)
    → ReadsFrom is_steady has_failed remaining before after → LoadsFrom (LoadsMeant named signature) is_steady has_failed remaining before after (Err e)
unread_source named signature is_steady has_failed remaining before after e cannot (inl input) kept source =
    record {
      loads = λ fresh. rw input (unreadable named signature (has_failed after) (remaining before) (cannot input));
      failed = λ fresh failed. ap Err input;
      source = source;
    }
unread_source named signature is_steady has_failed remaining before after e cannot (inr memory) kept source =
    let same = kept (λ input. let bad : Memory ≡ Input = sym memory ∙ input in cc) in
    record {
      loads = λ fresh. rw memory (unremembered named signature (has_failed after) (remaining before) (same ∙ fresh));
      failed = λ fresh failed. let bad : false ≡ true = sym (same ∙ fresh) ∙ failed in cc;
      source = source;
    }
