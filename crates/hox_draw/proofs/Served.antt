-- What comes of a description that was prepared, or of one that was not; of its text, and so of its source.
use Rattle.std.proofs.Common.{◌≡◌, ℕ, Bool, true, false, List, [], Option, Some, IfSome, Result, Ok, Err, String, IfOk, IfErr, string_bytes, refl, sym, ◌∙◌, arith}
use Rattle.kpn_sketch.specs.declared.fault.NetFault.{NetFault}
use Rattle.kpn_model.specs.declared.kinds.Card.{Card}
use Rattle.kpn_model.specs.declared.kinds.Signature.{Signature}
use Rattle.kpn_model.specs.Network.{Family, Network}
use Rattle.kpn_picture.specs.declared.looks.Direction.{Direction}
use Rattle.hox_network.specs.declared.request.Request.{Request}
use Rattle.hox_network.specs.declared.request.Fault.{Fault}
use Rattle.hox_network.specs.declared.request.Fault.TheVariants.{Memory}
use Rattle.kpn_front.proofs.Loaded.{says_known}
use Rattle.hox_network.specs.Meant.{LoadsMeant}
use Rattle.hox_network.specs.Preparing.{GivesLoaded, GivesNet, IsFault, Serves}
use Rattle.hox_network.proofs.Served.{serves_on}
use Rattle.hox_draw.specs.Titles.{AreTitles}
use Rattle.hox_draw.specs.Drawing.{Draws, GivesPicture}

module _ (kinds : Family) (named : List ℕ → Option (ℕ × ℕ)) (title : ℕ → List ℕ × ℕ) (direction : Direction) (is_run : Bool) (request : Request) where
  -- the result of drawing a network, with titles of its processes
  abbrev IsDrawn : {Z : Type 0} → List (List ℕ) → Network → Result (String Z) Fault → Type 0
  IsDrawn titles other last = IfOk last (λ picture. Draws kinds title direction titles is_run other (string_bytes picture)) × IfErr last (λ e. (m : Network) → IsFault request m e)

  refuses : (Z : Type 0) (fault : Fault) (loaded : Result Network NetFault) → GivesLoaded (GivesNet request) loaded (Err fault) → GivesLoaded (GivesPicture kinds named title direction {Z = Z} is_run request) loaded (Err fault)
  refuses Z fault (Ok net) h = h
  refuses Z fault (Err e) h = h

  gives : {Z : Type 0} (other : Network) (titles : List (List ℕ)) (last : Result (String Z) Fault) → AreTitles named other titles → IsDrawn titles other last
      → (loaded : Result Network NetFault) → GivesLoaded (GivesNet request) loaded (Ok other) → GivesLoaded (GivesPicture kinds named title direction {Z = Z} is_run request) loaded last
  gives {Z} other titles (Ok picture) are drawn (Ok net) h = record { other = other; prepares = h; titles = titles; are_titles = are; draws = drawn.0 }
  gives {Z} other titles (Err e) are drawn (Ok net) h = drawn.1 net
  gives {Z} other titles last are drawn (Err e) h = absurd h

  module _ {Z : Type 0} {signature : Card → Option Signature} {input : Option (List ℕ)} {before after : Bool} where
    -- a description of which no network is prepared has no picture
    pub refused : (fault : Fault) → Serves named signature (GivesNet request) input before after (Err fault) → Serves named signature (GivesPicture kinds named title direction {Z = Z} is_run request) input before after (Err fault)
    refused fault served = serves_on (GivesPicture kinds named title direction {Z = Z} is_run request) (Err fault) (refuses Z fault) served

    -- a network that is prepared is drawn
    pub drawn_of : (other : Network) (titles : List (List ℕ)) (last : Result (String Z) Fault) → Serves named signature (GivesNet request) input before after (Ok other) → AreTitles named other titles → IsDrawn titles other last
        → Serves named signature (GivesPicture kinds named title direction {Z = Z} is_run request) input before after last
    drawn_of other titles last served are drawn = serves_on (GivesPicture kinds named title direction {Z = Z} is_run request) last (gives {Z = Z} other titles last are drawn) served

    -- there is no memory for the titles of a network that is prepared
    pub memory_of : (other : Network) → Serves named signature (GivesNet request) input before after (Ok other) → Serves named signature (GivesPicture kinds named title direction {Z = Z} is_run request) input before after (Err Memory)
    memory_of other served = drawn_of other [] (Err Memory) served (λ i within. absurd (omega arith)) (tt, λ m. tt)

-- what is served of a text is served of the source that had it, if no read failed
pub of_source : {X : Type 0} {named : List ℕ → Option (ℕ × ℕ)} {signature : Card → Option Signature} {gives : Network → Result X Fault → Type 0} (known : Option (List ℕ)) (before after : Bool) (text : List ℕ) (result : Result X Fault)
    → IfSome known (λ t. text ≡ t) → after ≡ before → Serves named signature gives (Some text) false false result → Serves named signature gives known before after result
of_source {X} {named} {signature} {gives} known before after text result same unfailed served = record {
  loaded = served.loaded;
  loads = λ fresh. says_known (LoadsMeant named signature) after known text served.loaded same (unfailed ∙ fresh) (served.loads refl);
  failed = λ fresh failed. let bad : true ≡ false = sym failed ∙ (unfailed ∙ fresh) in cc;
  comes = served.comes;
}
