-- What comes of a description whose file was opened, or was not.
use Rattle.std.proofs.Common.{◌≡◌, ℕ, Bool, true, false, List, Option, Some, None, Result, Ok, Err, IfSome, refl, subst, inl}
use Rattle.kpn_sketch.specs.declared.fault.NetFault.{NetFault}
use Rattle.kpn_sketch.specs.declared.fault.NetFault.TheVariants.{Input}
use Rattle.kpn_model.specs.declared.kinds.Card.{Card}
use Rattle.kpn_model.specs.declared.kinds.Signature.{Signature}
use Rattle.kpn_model.specs.Network.{Network}
use Rattle.hox_network.specs.declared.request.Fault.{Fault}
use Rattle.hox_network.specs.Meant.{LoadsMeant}
use Rattle.hox_network.proofs.Meant.{loads_unread}
use Rattle.hox_network.specs.Preparing.{GivesLoaded, Serves, refusal}
use Rattle.hox_network.proofs.Served.{serves_on}
use Rattle.hox_files.specs.Requests.{ServesFile}

always : {A : Type 0} (P : A → Type 0) (o : Option A) → ((x : A) → P x) → IfSome o P
always P None each = tt
always P (Some x) each = each x

by_loaded : {X Y : Type 0} (gives : Network → Result X Fault → Type 0) (others : Network → Result Y Fault → Type 0) (fault : Fault) → ((net : Network) → gives net (Err fault) → others net (Err fault))
    → (loaded : Result Network NetFault) → GivesLoaded gives loaded (Err fault) → GivesLoaded others loaded (Err fault)
by_loaded gives others fault on (Ok net) h = on net h
by_loaded gives others fault on (Err e) h = h

module _ (contents : List ℕ → Option (List ℕ)) (named : List ℕ → Option (ℕ × ℕ)) (signature : Card → Option Signature) (name : List ℕ) where
  -- a file that can't be opened counts as one of which a read failed
  pub unopened : {X : Type 0} (gives : Network → Result X Fault → Type 0) (fault : Fault) → refusal fault ≡ Some Input → ServesFile contents named signature gives name (Err fault)
  unopened {X} gives fault refused =
      record {
        has_failed = true;
        serves = record {
          loaded = Err Input;
          loads = λ _. always (λ text. LoadsMeant named signature true text (Err Input)) (contents name) (λ text. loads_unread named signature true text (Err Input) (inl refl));
          failed = λ _ _. refl;
          comes = refused;
        };
      }

  -- the bytes of a file that was opened are what the file holds
  pub opened : {X : Type 0} (gives : Network → Result X Fault → Type 0) (input : Option (List ℕ)) (before after : Bool) (result : Result X Fault) → input ≡ contents name → before ≡ false
      → Serves named signature gives input before after result → ServesFile contents named signature gives name result
  opened {X} gives input before after result same unfailed serves =
      record { has_failed = after; serves = subst (λ b. Serves named signature gives (contents name) b after result) unfailed (subst (λ o. Serves named signature gives o before after result) same serves) }

  -- what comes of a description gives way to what follows from it
  pub file_serves_on : {X Y : Type 0} (gives : Network → Result X Fault → Type 0) (others : Network → Result Y Fault → Type 0) (first : Result X Fault) (last : Result Y Fault)
      → ((loaded : Result Network NetFault) → GivesLoaded gives loaded first → GivesLoaded others loaded last)
      → ServesFile contents named signature gives name first → ServesFile contents named signature others name last
  file_serves_on {X} {Y} gives others first last on file = record { has_failed = file.has_failed; serves = serves_on others last on file.serves }

  -- a fault is one whatever would come of the network otherwise
  pub file_refused : {X Y : Type 0} (gives : Network → Result X Fault → Type 0) (others : Network → Result Y Fault → Type 0) (fault : Fault) → ((net : Network) → gives net (Err fault) → others net (Err fault))
      → ServesFile contents named signature gives name (Err fault) → ServesFile contents named signature others name (Err fault)
  file_refused {X} {Y} gives others fault on file = file_serves_on gives others (Err fault) (Err fault) (by_loaded gives others fault on) file
