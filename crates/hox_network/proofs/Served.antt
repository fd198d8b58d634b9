-- What comes of what comes of a description.
use Rattle.std.proofs.Common.{ℕ, Bool, List, Option, Result}
use Rattle.kpn_sketch.specs.declared.fault.NetFault.{NetFault}
use Rattle.kpn_model.specs.declared.kinds.Card.{Card}
use Rattle.kpn_model.specs.declared.kinds.Signature.{Signature}
use Rattle.kpn_model.specs.Network.{Network}
use Rattle.hox_network.specs.declared.request.Fault.{Fault}
use Rattle.hox_network.specs.Preparing.{GivesLoaded, Serves}

-- what is served of a description is served of what comes of that
pub serves_on :
    {X Y : Type 0} {named : List ℕ → Option (ℕ × ℕ)} {signature : Card → Option Signature} {gives : Network → Result X Fault → Type 0} (others : Network → Result Y Fault → Type 0)
    {input : Option (List ℕ)} {before after : Bool} {first : Result X Fault} (last : Result Y Fault)
    → ((loaded : Result Network NetFault) → GivesLoaded gives loaded first → GivesLoaded others loaded last)
    → Serves named signature gives input before after first → Serves named signature others input before after last
serves_on {X} {Y} {named} {signature} {gives} others {input} {before} {after} {first} last on served =
    record { loaded = served.loaded; loads = served.loads; failed = served.failed; comes = on served.loaded served.comes }
