-- What `Net::check` returns is what is loaded.
use Rattle.std.proofs.Common.{◌≡◌, ◌≢◌, ℕ, Bool, true, false, cond, List, [], ◌∷◌, Option, Some, None, Result, Ok, Err, IfOk, IfErr, IfSome, inl, ◌≤◌, length, refl, sym, ◌∙◌}
use Rattle.std.proofs.lemmas.Bool.{false≢true}
use Rattle.std.specs.List.{find}
use Rattle.kpn_sketch.specs.declared.fault.NetFault.{NetFault}
use Rattle.kpn_sketch.specs.declared.fault.NetFault.TheVariants.{NotToml, Keys, Version, Counts, Name, Kind, Args, NoEnd, Twice, Unused, Sorts, Capacity, Budget, Memory, Input, Tokens, Step}
use Rattle.kpn_model.specs.declared.kinds.Card.{Card}
use Rattle.kpn_model.specs.declared.kinds.Signature.{Signature}
use Rattle.kpn_sketch.specs.declared.sketch.Sketch.{Sketch}
use Rattle.kpn_sketch.specs.Description.{DescribesBy, IsFaultBy, Reader, sketch_of}
use Rattle.kpn_net.specs.Faults.{first_fault, has_fault}
use Rattle.kpn_model.specs.Network.{Network}
use Rattle.kpn_net.specs.Sketched.{net_of}
use Rattle.kpn_front.specs.declared.loading.Refused.{Refused}
use Rattle.kpn_front.specs.Loading.{LoadsChanged, LoadsFrom, ReadsFrom, IsChecked, IsTextOf, Loads, IsWhole, IsLoadFault, longest}

-- if an item is found, first or later, it passes the test
found_at : {A : Type 0} (p : A → Bool) (y x : A) (rest : Option A) (b : Bool) → p y ≡ b → (rest ≡ Some x → p x ≡ true) → cond b (Some y) rest ≡ Some x → p x ≡ true
found_at p y x rest true e later h = let same : y ≡ x = cc in rw (← same) e
found_at p y x rest false e later h = later h

-- an item that is found passes the test
found_passes : {A : Type 0} (p : A → Bool) (xs : List A) (x : A) → find p xs ≡ Some x → p x ≡ true
found_passes p [] x h = cc
found_passes p (y ∷ ys) x h = found_at p y x (find p ys) (p y) refl (found_passes p ys x) h

module _ (named : List ℕ → Option (ℕ × ℕ)) (signature : Card → Option Signature) where
  -- the first fault is one whose condition holds
  no_other : (sketch : Sketch) (e : NetFault) → first_fault named signature sketch ≡ Some e → has_fault named signature sketch e ≡ true
  no_other sketch e h = found_passes (has_fault named signature sketch) (Version ∷ Counts ∷ Name ∷ Kind ∷ Args ∷ NoEnd ∷ Twice ∷ Unused ∷ Sorts ∷ Capacity ∷ Budget ∷ Tokens ∷ Step ∷ []) e h

  module _ {A : Type 0} (read : Reader A) (change : A → Sketch) where
    -- the fault of `check` is a fault of loading
    fault_from :
        (failed : Bool) (text : List ℕ) (sketch : A) (e : NetFault) → IsWhole failed text → DescribesBy read text sketch → (e ≢ Memory → first_fault named signature (change sketch) ≡ Some e)
        → IsLoadFault read change named signature failed text e
    fault_from failed text sketch NotToml short d h = let bad : false ≡ true = no_other (change sketch) NotToml (h (λ x. cc)) in cc
    fault_from failed text sketch Keys short d h = let bad : false ≡ true = no_other (change sketch) Keys (h (λ x. cc)) in cc
    fault_from failed text sketch Input short d h = let bad : false ≡ true = no_other (change sketch) Input (h (λ x. cc)) in cc
    fault_from failed text sketch Memory short d h = short.0
    fault_from failed text sketch Version short d h = (short, (sketch, d, h (λ x. cc)))
    fault_from failed text sketch Counts short d h = (short, (sketch, d, h (λ x. cc)))
    fault_from failed text sketch Name short d h = (short, (sketch, d, h (λ x. cc)))
    fault_from failed text sketch Kind short d h = (short, (sketch, d, h (λ x. cc)))
    fault_from failed text sketch Args short d h = (short, (sketch, d, h (λ x. cc)))
    fault_from failed text sketch NoEnd short d h = (short, (sketch, d, h (λ x. cc)))
    fault_from failed text sketch Twice short d h = (short, (sketch, d, h (λ x. cc)))
    fault_from failed text sketch Unused short d h = (short, (sketch, d, h (λ x. cc)))
    fault_from failed text sketch Sorts short d h = (short, (sketch, d, h (λ x. cc)))
    fault_from failed text sketch Capacity short d h = (short, (sketch, d, h (λ x. cc)))
    fault_from failed text sketch Budget short d h = (short, (sketch, d, h (λ x. cc)))
    fault_from failed text sketch Tokens short d h = (short, (sketch, d, h (λ x. cc)))
    fault_from failed text sketch Step short d h = (short, (sketch, d, h (λ x. cc)))

    -- the result of `check`, if this is the whole text
    pub loads_from : (failed : Bool) (text : List ℕ) (sketch : A) (r : Result Network NetFault) → IsWhole failed text → DescribesBy read text sketch
        → IfOk r (λ n. (first_fault named signature (change sketch) ≡ None) × (n ≡ net_of named (change sketch)))
        → IfErr r (λ e. e ≢ Memory → first_fault named signature (change sketch) ≡ Some e) → LoadsChanged read change named signature failed text r
    loads_from failed text sketch (Ok n) short d ok fault = (short, (sketch, d, ok.0, ok.1))
    loads_from failed text sketch (Err e) short d ok fault = fault_from failed text sketch e short d fault

    -- the fault of a text that can't be read is a fault of loading
    unread : (failed : Bool) (text : List ℕ) (e : NetFault) → IsWhole failed text → IsFaultBy read text e → IsLoadFault read change named signature failed text e
    unread failed text Memory whole f = whole.0
    unread failed text NotToml whole f = (whole, f)
    unread failed text Keys whole f = (whole, f)
    unread failed text Input whole f = absurd f
    unread failed text Version whole f = absurd f
    unread failed text Counts whole f = absurd f
    unread failed text Name whole f = absurd f
    unread failed text Kind whole f = absurd f
    unread failed text Args whole f = absurd f
    unread failed text NoEnd whole f = absurd f
    unread failed text Twice whole f = absurd f
    unread failed text Unused whole f = absurd f
    unread failed text Sorts whole f = absurd f
    unread failed text Capacity whole f = absurd f
    unread failed text Budget whole f = absurd f
    unread failed text Tokens whole f = absurd f
    unread failed text Step whole f = absurd f

    pub loads_unread : (text : List ℕ) (e : NetFault) → length text ≤ longest → IsFaultBy read text e → LoadsChanged read change named signature false text (Err e)
    loads_unread text e short f = unread false text e (refl, short) f

  -- what is made of the sketch that is read, or of the fault of the text, is loaded
  pub loads_checked :
      (text : List ℕ) (found : Result Sketch NetFault) (r : Result Network NetFault) → length text ≤ longest
      → IfOk found (DescribesBy sketch_of text) → IfErr found (IsFaultBy sketch_of text) → IsChecked named signature found r → Loads named signature false text r
  loads_checked text (Ok sketch) (Ok n) short describes fault checked = loads_from sketch_of (λ s. s) false text sketch (Ok n) (refl, short) describes checked tt
  loads_checked text (Ok sketch) (Err e) short describes fault checked = loads_from sketch_of (λ s. s) false text sketch (Err e) (refl, short) describes tt checked
  loads_checked text (Err e) r short describes fault checked = rw checked (loads_unread sketch_of (λ s. s) text e short fault)

module _ (says : Bool → List ℕ → Result Network NetFault → Type 0) where
  -- what is said of a text is said of the source that had it, if no read failed
  pub says_known :
      (failed : Bool) (known : Option (List ℕ)) (text : List ℕ) (r : Result Network NetFault)
      → IfSome known (λ t. text ≡ t) → failed ≡ false → says false text r → IfSome known (λ t. says failed t r)
  says_known failed None text r same e h = tt
  says_known failed (Some t) text r same e h = rw (← same, e) h

  -- what is loaded of the text that was read is loaded of the source
  pub loads_read :
      {S : Type 0} (is_steady has_failed : S → Bool) (remaining : S → Option (List ℕ)) (before after : S) (text : List ℕ) (r : Result Network NetFault)
      → IfSome (remaining before) (λ t. text ≡ t) → has_failed after ≡ has_failed before → ReadsFrom is_steady has_failed remaining before after
      → says false text r → LoadsFrom says is_steady has_failed remaining before after r
  loads_read is_steady has_failed remaining before after text r same kept source loaded =
      record {
        loads = λ fresh. says_known (has_failed after) (remaining before) text r same (kept ∙ fresh) loaded;
        failed = λ fresh failed. let bad : false ≡ true = sym fresh ∙ (sym kept ∙ failed) in absurd (false≢true bad);
        source = source;
      }

-- the text that comes back is the source's
pub text_of :
    {N : Type 0} (known : Option (List ℕ)) (text : List ℕ) (r : Result N Refused) → IfSome known (λ t. text ≡ t)
    → IfErr r (λ refused. refused.text.items ≡ text) → IfSome known (λ t. IfErr r (IsTextOf t))
text_of None text r same is = tt
text_of (Some t) text (Ok n) same is = tt
text_of (Some t) text (Err refused) same is = inl (is ∙ same)
